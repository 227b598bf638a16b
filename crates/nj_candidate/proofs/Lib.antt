pub mod Words
pub mod Buckets
pub mod Starts
pub mod Agains
pub mod Replays
