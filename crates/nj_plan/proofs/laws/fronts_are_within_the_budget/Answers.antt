use Rattle.nj_plan.proofs.Budgets.{half, both}
use Rattle.nj_plan.proofs.laws.fronts_are_within_the_budget.Goals as goal

pub returns-clause-half : goal.returns-clause-half
returns-clause-half c = half c.frames_keep_the_cartridge.ensures.cartridge

pub returns-clause-both : goal.returns-clause-both
returns-clause-both c = both c.frames_keep_the_cartridge.ensures.cartridge c.a_step_is_bounded.ensures.kept
