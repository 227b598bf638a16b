pub mod Sizes
pub mod Members
pub mod InRange
pub mod Json
pub mod PadBytes
