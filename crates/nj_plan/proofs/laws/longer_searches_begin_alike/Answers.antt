use Rattle.nj_plan.proofs.Longer.{longer}
use Rattle.nj_plan.proofs.laws.longer_searches_begin_alike.Goals as goal

pub returns : goal.returns
returns c = longer c.limits_add.ensures
