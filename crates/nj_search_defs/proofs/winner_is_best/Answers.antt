use Rattle.nj_search_defs.proofs.Moves.{winner_is_best}
use Rattle.nj_search_defs.proofs.winner_is_best.Goals as goal

pub returns : goal.returns
returns c = winner_is_best
