pub use Rattle.nj_hands.specs.Claimed
pub use Rattle.nj_hands.specs.Shares
pub use Rattle.nj_hands.specs.Hands
pub use Rattle.nj_hands.specs.Room
pub mod Desks
pub mod Meeting
pub mod Runs
pub mod Counted
