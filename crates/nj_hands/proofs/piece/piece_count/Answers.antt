-- The words are counted in pieces.
use Rattle.nj_hands.proofs.Fronts.{count_is}
use Rattle.nj_hands.proofs.piece.piece_count.Goals as goal

pub returns-clause-count : goal.returns-clause-count
returns-clause-count c = count_is c.args.search.now c.front_len-words.result c.front_len-words.ensures.len
