pub mod Asm
pub mod Clean
pub mod Commands
pub mod Play
pub mod Replay
pub mod Trace
pub mod Watch
