use Rattle.nj_pieces.proofs.Steps.{puts_piece}
use Rattle.nj_pieces.proofs.deal.put_piece.Goals as goal

pub push_as-requires-clause-pushes : goal.push_as-requires-clause-pushes
push_as-requires-clause-pushes c = puts_piece _ _ _ c.requires.port c.requires.unmarked
