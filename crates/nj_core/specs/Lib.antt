pub mod Owners
pub mod Machine
pub mod Laws
