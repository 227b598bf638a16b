pub mod Rules
pub mod Pads
pub mod Key
pub mod Limits
