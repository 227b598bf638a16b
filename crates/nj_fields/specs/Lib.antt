pub mod Reading
pub mod Fields
pub mod Lists
pub mod Names
pub mod Properties
pub mod Conditions
