use Rattle.nj_search_defs.proofs.Moves.{won_wins_from}
use Rattle.nj_search_defs.proofs.won_wins_from.Goals as goal

pub returns : goal.returns
returns c = won_wins_from
