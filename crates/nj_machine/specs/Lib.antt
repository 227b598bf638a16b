pub mod State
pub mod Wires
pub mod Frame
pub mod Waiting
pub mod Seen
pub mod Recorder
pub mod Image
