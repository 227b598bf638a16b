pub mod Tallies
pub mod Rule
pub mod Dealing
pub mod Takers
pub mod Seating
pub mod Gathering
