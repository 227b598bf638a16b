use Rattle.std.proofs.Common.{arith}
use Rattle.nj_plan.proofs.Products.{product_fits}
use Rattle.nj_plan.proofs.planning.refusal.Goals as goal

pub overflow_mul-need : goal.overflow_mul-need
overflow_mul-need c = product_fits _ _ c.most-most.ensures.within (omega (arith, c.input_count.ensures.within))

pub overflow_mul-rows : goal.overflow_mul-rows
overflow_mul-rows c = product_fits _ _ c.most-most.ensures.within (omega arith)
