-- So many lists are there.
use Rattle.std.proofs.Common.{◌≡◌, ℕ, []}
use Rattle.nj_seen.specs.Saved.{keys_by_owner}
use Rattle.nj_seen.proofs.telling.empty_lists.Given as goal

abbrev pub invariant-loop-place : goal.invariant-loop-place
invariant-loop-place l = (first : ℕ) → l.lists.items ≡ keys_by_owner [] first l._place
