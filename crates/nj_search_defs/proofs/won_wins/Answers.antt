use Rattle.nj_search_defs.proofs.Moves.{won_wins}
use Rattle.nj_search_defs.proofs.won_wins.Goals as goal

pub returns : goal.returns
returns c = won_wins
