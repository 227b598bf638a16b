pub mod Homes
