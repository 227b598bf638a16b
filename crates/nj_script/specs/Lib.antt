pub mod Kinds
pub mod Script
