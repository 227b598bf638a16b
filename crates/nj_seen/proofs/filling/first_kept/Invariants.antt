-- The keys of the generations from the place on are counted, and have room.
use Rattle.std.proofs.Common.{◌≡◌, ◌+◌, ◌≤◌, length, drop}
use Rattle.nj_search_defs.specs.Pruning.{key_count}
use Rattle.nj_seen.proofs.filling.first_kept.Given as goal

abbrev pub invariant-loop-place : goal.invariant-loop-place
invariant-loop-place l = record {
  within : l.place ≤ length l.generations;
  count : l.count ≡ key_count (drop l.place l.generations);
  fits : l.count + l.room ≤ l.slots;
}

abbrev pub decreases-loop-place : goal.decreases-loop-place
decreases-loop-place l = l.place
