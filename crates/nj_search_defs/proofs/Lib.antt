pub mod Preference
pub mod Orders
pub mod Pairs
pub mod Numbers
pub mod Limited
pub mod Moves
pub mod Lengths
pub mod Places
pub mod Buckets
pub mod Forgetting
pub mod Generations
pub mod Going
mod Tiny
