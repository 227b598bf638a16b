-- The rows so far are looked at.
use Rattle.std.proofs.Common.{◌≡◌, length}
use Rattle.nj_rows.proofs.Quotas.{AreGathered}
use Rattle.nj_rows.proofs.keeping.gather.Given as goal

abbrev pub invariant-loop-place : goal.invariant-loop-place
invariant-loop-place l = (l.place-end ≡ length l.initial.rows.items)
    × AreGathered l.initial.rows.items l.rows.items l.counts l.n l.quota l.place l.kept
