pub mod Walks
pub mod Lower
pub mod Runs
pub mod Cycles
pub mod Notes
pub mod Ended
pub mod Straight
pub mod Stack
