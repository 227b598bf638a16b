pub mod Names
pub mod Table
pub mod Accesses
pub mod Bus
pub mod Timing
