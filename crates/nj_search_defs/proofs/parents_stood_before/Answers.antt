use Rattle.nj_search_defs.proofs.Moves.{parents_stood_before}
use Rattle.nj_search_defs.proofs.parents_stood_before.Goals as goal

pub returns : goal.returns
returns c = parents_stood_before
