pub mod Reading
pub mod Replay
pub use Rattle.nj_game.specs.Plan
pub use Rattle.nj_game.specs.Words
