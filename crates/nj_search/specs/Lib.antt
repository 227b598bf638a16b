pub mod Ends
pub mod Rests
pub mod Starts
pub use Rattle.nj_plan.specs.Plans
pub use Rattle.nj_plan.specs.Outcomes
pub use Rattle.nj_plan.specs.Laws
pub use Rattle.nj_plan.specs.Budget
pub use Rattle.nj_game.specs.Plan
