use Rattle.nj_search_defs.proofs.Moves.{words_are_equally_long}
use Rattle.nj_search_defs.proofs.words_are_equally_long.Goals as goal

pub returns : goal.returns
returns c = words_are_equally_long
