pub mod Backs
pub mod Sitting
pub mod Together
pub mod Counters
pub mod Seating
pub mod Meetings
pub mod Cuts
