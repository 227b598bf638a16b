use Rattle.nj_search_defs.proofs.Moves.{front_is_bounded}
use Rattle.nj_search_defs.proofs.front_is_bounded.Goals as goal

pub returns : goal.returns
returns c = front_is_bounded
