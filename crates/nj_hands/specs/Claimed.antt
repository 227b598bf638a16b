-- What claims of rows make of a pass, and which rows are kept. All of it is this project's own.
use Rattle.std.specs.Prelude.{◌≡◌, ℕ, false, ◌+◌, ◌<◌, List, ◌++◌, map}
use Rattle.std.specs.List.{All, Contains}
use Rattle.std.specs.List.Sorted.{IsPermutation}
use Rattle.nj_claims.specs.Passes.{PassView}
use Rattle.nj_claims.specs.declared.claimed.Claimed.{Claimed}
use Rattle.nj_claims.specs.declared.claimed.Claimed.TheVariants.{Before}
use Rattle.nj_rows.specs.declared.Row.{Row}
use Rattle.nj_rows.specs.declared.Verdict3.{Verdict3}
use Rattle.nj_rows.specs.Order.{is_win, is_win_row}
use Rattle.nj_seen.specs.Held.{first_claim, claim_of}

-- a number below the row's own claim number was seen for its key
pub record SawLess (seen : List (ℕ × ℕ)) (row : Row) : Type 0 where
  pub number : ℕ
  pub stands : Contains seen (row.key, number)
  pub less : number < first_claim + row.number

-- a row may be dropped: it is no win, and its key was seen with a smaller number
abbrev pub MayBeDropped : List (ℕ × ℕ) → Row → Type 0
MayBeDropped seen row = (is_win_row row ≡ false) × SawLess seen row

-- the pass is still of its table, and as much of it is out
pub record IsSamePass (before after : PassView) : Type 0 where
  pub table : after.table ≡ before.table
  pub is_root : after.is_root ≡ before.is_root
  pub out : after.out ≡ before.out

-- the key of each of these rows was claimed once, for the row's claim number, in whatever order: the claims that were
-- placed are the pass's, and of a claim that met no room its key; and each of the rows was kept, but those that may be
-- dropped
pub record AreClaimed (rows : List Row) (before after : PassView) (kept : List Row) : Type 0 where
  pub placed : List Row
  pub refused : List Row
  pub parts : IsPermutation rows (placed ++ refused)
  pub claims : after.claims ≡ before.claims ++ map claim_of placed
  pub full : after.full ≡ before.full ++ map (λ row. row.key) refused
  pub more : List (ℕ × ℕ)
  pub seen : after.seen ≡ before.seen ++ more
  pub dropped : List Row
  pub choice : IsPermutation rows (kept ++ dropped)
  pub dropped_may : All (MayBeDropped after.seen) dropped

-- the same of rows that were added to a list
pub record AddsClaimed (rows : List Row) (before after : PassView) (old new : List Row) : Type 0 where
  pub added : List Row
  pub rows_are : new ≡ old ++ added
  pub claimed : AreClaimed rows before after added
  pub pass : IsSamePass before after

-- a smaller number was met, and the verdict is no win
abbrev pub IsBeaten : Claimed → Verdict3 → Type 0
IsBeaten claimed verdict = (owner : ℕ) × (claimed ≡ Before owner) × (is_win verdict ≡ false)
