-- What a search keeps of the keys that it has seen. All of it is this project's own.
use Rattle.std.specs.Prelude.{◌≡◌, ℕ, ◌^◌, ◌≤◌, List}
use Rattle.nj_search_defs.specs.Pruning.{Seen, key_count}
use Rattle.nj_claims.specs.Tables.{IsTable, slot_count}
use Rattle.nj_seen.specs.declared.forgetting.SeenKeys.{SeenKeys}
use Rattle.nj_seen.specs.Held.{HoldsSeen, oldest_step, seen_in}

-- the words are a table of so many slots, which holds the seen keys that it tells at this step, no later than the last
-- of a search; and their oldest step and number are these
pub record IsTableAt (words : List ℕ) (keys : SeenKeys) (step exponent : ℕ) : Type 0 where
  pub table : IsTable words
  pub slots : slot_count words ≡ 2 ^ exponent
  pub seen : HoldsSeen words (seen_in words step keys.oldest) step
  pub oldest : keys.oldest ≡ oldest_step step (seen_in words step keys.oldest)
  pub count : keys.count ≡ key_count (seen_in words step keys.oldest)
  pub last : step ≤ 16777215

-- a table of so many slots that holds these seen keys of a step, with the step of the oldest and their number
pub record IsSeenTable (words : List ℕ) (keys : SeenKeys) (seen : Seen) (step exponent : ℕ) : Type 0 where
  pub table : IsTable words
  pub slots : slot_count words ≡ 2 ^ exponent
  pub holds : HoldsSeen words seen step
  pub oldest : keys.oldest ≡ oldest_step step seen
  pub count : keys.count ≡ key_count seen
