pub use Rattle.nj_vram.specs.Home
pub use Rattle.nj_sprite0.specs.Sprite
pub mod Scroll
pub mod Screen
pub mod Dots
pub mod Registers
pub mod Image
pub mod Laws
