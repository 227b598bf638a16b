pub mod Claimed
pub mod Shares
pub mod Hands
pub mod Room
