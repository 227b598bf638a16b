use Rattle.nj_search_defs.proofs.Lengths.{limits_have_fronts_from}
use Rattle.nj_search_defs.proofs.limits_have_fronts_from.Goals as goal

pub returns : goal.returns
returns c = limits_have_fronts_from
