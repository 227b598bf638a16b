pub mod Property
pub mod Condition
