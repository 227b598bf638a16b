pub mod Bits
pub mod Arithmetic
pub mod Shifts
pub mod FlagByte
pub mod Signed
