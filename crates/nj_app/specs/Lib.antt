pub mod Answer
pub mod Check
pub mod Laws
pub mod Outcomes
pub mod Refusals
pub mod Search
pub mod Workers
pub mod Workload
