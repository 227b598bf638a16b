pub mod Bytes
pub mod Fields
pub mod Ranges
pub mod Reading
pub mod Says
pub mod Steps
