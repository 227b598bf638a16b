pub mod Fronts
pub mod Frames
