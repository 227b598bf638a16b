pub mod Sets
pub mod Sums
pub mod Members
pub mod Satisfied
pub mod Distinct
pub mod Offered
