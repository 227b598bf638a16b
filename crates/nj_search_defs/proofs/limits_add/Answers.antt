use Rattle.nj_search_defs.proofs.Moves.{limits_add}
use Rattle.nj_search_defs.proofs.limits_add.Goals as goal

pub returns : goal.returns
returns c = limits_add
