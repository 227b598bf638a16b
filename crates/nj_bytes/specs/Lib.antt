pub mod Decimal
pub mod Fnv
