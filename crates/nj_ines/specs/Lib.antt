pub mod Cartridge
pub mod Header
pub mod Reading
