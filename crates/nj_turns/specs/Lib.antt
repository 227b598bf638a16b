pub mod Dry
pub mod Turn
