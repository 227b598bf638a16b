pub mod Sizes
pub mod Keys
pub mod Refused
pub mod Accepted
pub mod Placed
pub mod Each
