-- The keys of the slots so far are in the lists.
use Rattle.std.proofs.Common.{◌≡◌, ◌*◌, take}
use Rattle.nj_claims.specs.Tables.{entries_in}
use Rattle.nj_seen.specs.Saved.{keys_by_owner}
use Rattle.nj_seen.proofs.telling.by_owner.Given as goal

abbrev pub invariant-loop-slot : goal.invariant-loop-slot
invariant-loop-slot l = l.lists.items ≡ keys_by_owner (entries_in (take (2 * l.slot) l.words)) l.first l.count
