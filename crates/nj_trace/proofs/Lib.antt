pub mod Wholes
pub mod FrameUnits
pub mod FrameLines
