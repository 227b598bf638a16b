use Rattle.nj_pieces.proofs.Seatings.{AreCutting}
use Rattle.nj_pieces.proofs.deal.cut_from.Given as goal

abbrev pub invariant-loop-at : goal.invariant-loop-at
invariant-loop-at l = AreCutting l.initial.takers l.takers l.accesses.items l.at
