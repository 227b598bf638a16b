use Rattle.nj_pieces.proofs.Returnings.{AreReturned}
use Rattle.nj_pieces.proofs.gather.take_back.Given as goal

abbrev pub invariant-loop-from : goal.invariant-loop-from
invariant-loop-from l = AreReturned l.initial.takers l.takers l.from
