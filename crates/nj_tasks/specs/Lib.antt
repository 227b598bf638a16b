pub mod Causes
pub mod Formats
pub mod Lines
pub mod Stops
pub mod Work
