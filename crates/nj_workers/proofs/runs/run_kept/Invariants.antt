-- The states of the runs behind those that are left, turned round.
use Rattle.std.proofs.Common.{◌≤◌, ◌+◌}
use Rattle.std.specs.Prelude.{vec_len, vec_capacity}
use Rattle.nj_workers.proofs.Cuts.{AreTaken}
use Rattle.nj_workers.proofs.runs.run_kept.Given as goal

abbrev pub invariant-loop-run : goal.invariant-loop-run
invariant-loop-run g l =
    AreTaken l.search l.rows l.runs.items l.parts.items
    × (vec_len l.parts + vec_len l.runs ≤ vec_capacity l.parts)

abbrev pub decreases-loop-run : goal.decreases-loop-run
decreases-loop-run g l = vec_len l.runs
