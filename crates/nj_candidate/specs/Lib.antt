pub mod Rows
pub mod Front
pub mod Lawful
pub mod Again
pub mod Opening
pub mod SavedFront
pub mod Resuming
