use Rattle.nj_both_machines.proofs.Alike.{AreAlike}
use Rattle.nj_both_machines.proofs.differs_after.Given as goal

-- the machines are in one state, and the places have the length of its image
abbrev pub invariant-loop-at : goal.invariant-loop-at
invariant-loop-at g l = AreAlike l.machine l.plain l.image l.plain_image
