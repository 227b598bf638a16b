-- The runs so far and the rows that are left are all.
use Rattle.std.proofs.Common.{◌≤◌, length}
use Rattle.std.specs.Prelude.{vec_capacity}
use Rattle.nj_workers.proofs.Cuts.{AreCut}
use Rattle.nj_workers.proofs.runs.cut.Given as goal

abbrev pub invariant-loop-left : goal.invariant-loop-left
invariant-loop-left l =
    AreCut l.fn.rows l.fn.workers l.size l.runs.items l.left × (l.fn.workers ≤ vec_capacity l.runs)

abbrev pub decreases-loop-left : goal.decreases-loop-left
decreases-loop-left l = length l.left
