-- The keys of the slots so far are counted.
use Rattle.std.proofs.Common.{◌≡◌, ◌*◌, ◌≤◌, length, take}
use Rattle.nj_seen.specs.Held.{entries_since}
use Rattle.nj_seen.proofs.forgetting.count_since.Given as goal

abbrev pub invariant-loop-slot : goal.invariant-loop-slot
invariant-loop-slot l = record {
  counted : l.count ≡ length (entries_since l.from (take (2 * l.slot) l.words));
  few : l.count ≤ l.slot;
}
