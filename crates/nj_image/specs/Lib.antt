pub mod Pages
pub mod Packing
pub mod Filling
