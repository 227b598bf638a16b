use Rattle.nj_pieces.proofs.Steps.{begins}
use Rattle.nj_pieces.proofs.deal.filled.Goals as goal

pub fifo_as-requires : goal.fifo_as-requires
fifo_as-requires c = begins
