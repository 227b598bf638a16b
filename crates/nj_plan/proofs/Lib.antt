pub mod Accepted
pub mod Products
pub mod Opening
pub mod WonWords
pub mod Longer
pub mod Budgets
pub mod Sound
pub mod Resumed
