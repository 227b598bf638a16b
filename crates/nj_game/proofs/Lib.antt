pub mod Plays
pub mod Jams
pub mod Children
pub mod Satisfied
