-- With each generation before this step the keys would not fit.
use Rattle.std.proofs.Common.{◌+◌, ◌-◌, ◌<◌, ◌≤◌, ℕ, length}
use Rattle.nj_claims.specs.Tables.{slot_count}
use Rattle.nj_seen.specs.Held.{entries_since, first_claim}
use Rattle.nj_seen.proofs.forgetting.oldest_kept.Given as goal

abbrev pub invariant-loop-from : goal.invariant-loop-from
invariant-loop-from l = record {
  over : (earlier : ℕ) → earlier < l.from → slot_count l.words < length (entries_since earlier l.words) + l.room;
  small : l.from ≤ first_claim;
}

abbrev pub decreases-loop-from : goal.decreases-loop-from
decreases-loop-from l = first_claim - l.from
