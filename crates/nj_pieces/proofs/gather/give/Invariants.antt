use Rattle.nj_pieces.proofs.Givings.{AreGiven}
use Rattle.nj_pieces.proofs.gather.give.Given as goal

abbrev pub invariant-loop-access : goal.invariant-loop-access
invariant-loop-access l = AreGiven l.initial.takers l.takers l.initial.accesses.items l.accesses.items

abbrev pub decreases-loop-access : goal.decreases-loop-access
decreases-loop-access l = goal.left-loop-access l
