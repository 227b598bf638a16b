-- The rows from `left` on are looked at, and `best` is their winner.
use Rattle.std.proofs.Common.{◌≡◌, ◌≤◌, length, drop}
use Rattle.nj_rows.proofs.Rows.{winner_of}
use Rattle.nj_rows.proofs.winner.Given as goal

abbrev pub invariant-loop-left : goal.invariant-loop-left
invariant-loop-left l = (l.left ≤ length l.rows) × (l.best ≡ winner_of (drop l.left l.rows))

abbrev pub decreases-loop-left : goal.decreases-loop-left
decreases-loop-left l = l.left
