use Rattle.nj_pieces.proofs.Seatings.{AreSeating}
use Rattle.nj_pieces.proofs.deal.seat.Given as goal

abbrev pub invariant-loop-at : goal.invariant-loop-at
invariant-loop-at l = AreSeating l.initial.takers l.takers l.at
