pub mod Claims
pub mod Words
pub mod Turns
pub mod Fronts
pub mod Rooms
pub mod Endings
