pub mod Bytes
pub mod Counters
pub mod Lines
pub mod Searching
pub mod Workers
pub mod Works
