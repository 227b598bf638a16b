pub mod Tables
pub mod Answers
pub mod Passes
pub mod Rule
pub mod Steps
pub mod Boards
pub mod Places
