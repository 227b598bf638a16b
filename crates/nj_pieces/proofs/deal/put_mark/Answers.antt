use Rattle.nj_pieces.proofs.Steps.{puts_end}
use Rattle.nj_pieces.proofs.deal.put_mark.Goals as goal

pub push_as-requires-clause-pushes : goal.push_as-requires-clause-pushes
push_as-requires-clause-pushes c = puts_end _ _ c.requires
