use Rattle.nj_search_defs.proofs.Lengths.{won_words_are_as_long_from}
use Rattle.nj_search_defs.proofs.won_words_are_as_long_from.Goals as goal

pub returns : goal.returns
returns c = won_words_are_as_long_from
