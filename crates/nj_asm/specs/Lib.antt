pub mod Assembly
pub mod Listing
pub mod FirstRefused
pub mod Instructions
