pub mod Game
pub mod Generator
pub mod Script
