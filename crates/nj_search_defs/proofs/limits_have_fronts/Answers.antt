use Rattle.nj_search_defs.proofs.Lengths.{limits_have_fronts}
use Rattle.nj_search_defs.proofs.limits_have_fronts.Goals as goal

pub returns : goal.returns
returns c = limits_have_fronts
