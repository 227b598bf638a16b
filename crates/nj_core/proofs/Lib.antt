pub mod Counts
pub mod Numbers
pub mod Ownership
pub mod Steps
pub mod Dealt
pub mod Orders
pub mod Seen
pub mod Dealing
