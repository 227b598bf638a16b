pub mod Board
pub mod Nrom
