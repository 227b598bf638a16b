pub mod Pad
pub mod Port
