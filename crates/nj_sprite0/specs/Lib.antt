pub mod Sprite
pub mod Meeting
