pub mod Words
pub mod Front
pub mod Refused
pub mod Strings
