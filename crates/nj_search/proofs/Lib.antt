pub mod StepEnds
pub mod Going
pub mod Counters
