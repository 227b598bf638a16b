pub mod Trails
pub mod Behind
pub mod Packs
