-- The least owner of the slots so far.
use Rattle.std.proofs.Common.{◌*◌, ◌≤◌, take}
use Rattle.std.specs.List.{All}
use Rattle.nj_seen.specs.Held.{entries_since}
use Rattle.nj_seen.proofs.forgetting.first_since.Given as goal

abbrev pub invariant-loop-slot : goal.invariant-loop-slot
invariant-loop-slot l = record {
  least : All (λ entry. l.first ≤ entry.1) (entries_since l.from (take (2 * l.slot) l.words));
  within : l.from ≤ l.first;
}
