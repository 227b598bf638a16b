-- The keys of the slots so far stand in the new table, where their owner is the step or a later one.
use Rattle.std.proofs.Common.{◌≡◌, ◌*◌, length, take}
use Rattle.std.specs.List.Sorted.{IsPermutation}
use Rattle.nj_claims.specs.Tables.{IsTable, entries_in}
use Rattle.nj_seen.specs.Held.{entries_since}
use Rattle.nj_seen.proofs.forgetting.since.Given as goal

abbrev pub invariant-loop-slot : goal.invariant-loop-slot
invariant-loop-slot l = record {
  table : IsTable l.rest.items;
  size : length l.rest.items ≡ length l.words;
  moved : IsPermutation (entries_since l.from (take (2 * l.slot) l.words)) (entries_in l.rest.items);
}
