pub mod Presses
pub mod Sweeps
pub mod Clean
pub mod Bench
pub use Rattle.nj_game.specs.Plan
pub use Rattle.nj_replay.specs.Replay
