pub mod Counts
pub mod Kinds
pub mod Laws
pub mod Lines
pub mod Memory
pub mod Refusals
