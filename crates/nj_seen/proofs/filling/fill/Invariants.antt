-- The generations so far are in the table.
use Rattle.std.proofs.Common.{◌+◌, ◌-◌, ◌≤◌, length, drop}
use Rattle.nj_claims.specs.Tables.{slot_count}
use Rattle.nj_seen.proofs.Filled.{AreFilled}
use Rattle.nj_seen.proofs.filling.fill.Given as goal

abbrev pub invariant-loop-place : goal.invariant-loop-place
invariant-loop-place l = record {
  from : l.first ≤ l.place;
  filled : AreFilled (slot_count l.fn.words) (drop l.first l.generations)
      (l.step + 1 - length (drop l.first l.generations)) (l.place - l.first) l.words;
}
