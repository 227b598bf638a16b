use Rattle.nj_words.proofs.Grammar.{pieces_are_said}
use Rattle.nj_words.proofs.pieces_are_said.Goals as goal

pub returns : goal.returns
returns c = pieces_are_said
