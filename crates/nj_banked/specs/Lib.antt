pub mod Banks
pub mod Banked
pub mod Windows
pub mod Calls
