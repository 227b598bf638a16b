-- The words before this place are done.
use Rattle.std.proofs.Common.{length}
use Rattle.nj_single.proofs.Fronts.{AreDone}
use Rattle.nj_single.proofs.step.rows_of.Given as goal

abbrev pub invariant-loop-place : goal.invariant-loop-place
invariant-loop-place g l = AreDone l.fn.search l.place l.rows.items l.fn.steps l.steps l.machine (length l.image)
