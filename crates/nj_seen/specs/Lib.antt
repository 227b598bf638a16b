pub mod Verdicts
pub mod Rows
pub mod Held
pub mod Saved
