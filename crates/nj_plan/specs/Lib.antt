pub mod Plans
pub mod Outcomes
pub mod Laws
pub mod Budget
pub use Rattle.nj_game.specs.Plan
