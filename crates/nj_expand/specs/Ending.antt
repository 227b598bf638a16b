-- What the end of a step is prepared with, and what it decides. All of it is this project's own.
use Rattle.std.specs.Prelude.{◌≡◌, ◌≢◌, ℕ, ◌+◌, ◌-◌, ◌*◌, ◌^◌, ◌<◌, ◌≤◌, ◌==◌, List, [], ◌∷◌, ◌++◌, length, drop, max, Some, None, if◌then◌else◌}
use Rattle.std.specs.List.{All, AllPairs, list_any}
use Rattle.nj_search_defs.specs.Game.{Word, Game}
use Rattle.nj_search_defs.specs.Order.{in_order}
use Rattle.nj_search_defs.specs.Pruning.{Seen, key_count}
use Rattle.nj_search_defs.specs.Outcome.{seen_of}
use Rattle.nj_game.specs.Words.{game_of}
use Rattle.nj_rows.specs.declared.Row.{Row}
use Rattle.nj_rows.specs.Order.{is_row_before}
use Rattle.nj_claims.specs.Tables.{IsTable, entries_in, owner_in, slot_count}
use Rattle.nj_seen.specs.declared.forgetting.SeenKeys.{SeenKeys}
use Rattle.nj_seen.specs.Rows.{winner_row, fresh_rows, kept_rows, generation_rows}
use Rattle.nj_seen.specs.Held.{HoldsSeen, oldest_step}
use Rattle.nj_expand.specs.declared.tables.NewTable.{NewTable}
use Rattle.nj_expand.specs.declared.tables.NewTable.TheVariants.{Own, Made}
use Rattle.nj_expand.specs.declared.tables.Prepared.{Prepared}
use Rattle.nj_expand.specs.Held.{Held, live_rows}

-- the greatest level of rows
abbrev pub top_of_rows : List Row → ℕ
top_of_rows [] = 0
top_of_rows (row ∷ rows) = max row.level (top_of_rows rows)

-- no more than 256 pads may follow a word
abbrev pub AreFew : Held → Type 0
AreFew held = (word : Word) → length (let g : Game = game_of held.plan in g.allowed word) ≤ 256

-- how many keys the next step may add at most
abbrev pub room_of : Held → ℕ
room_of held = length held.state.front * held.bounds.inputs

-- the fresh rows of the next step
abbrev pub fresh_rows_in : Held → List Row
fresh_rows_in held = fresh_rows (seen_of held.bounds held.state) (live_rows held)

-- the keys that are seen after the next step, where it goes on
abbrev pub seen_next : Held → Seen
seen_next held = seen_of held.bounds held.state ++ generation_rows (fresh_rows_in held) ∷ []

-- rows are those that the next step keeps, and some are
pub record IsKeptOf (held : Held) (rows : List Row) : Type 0 where
  pub kept : rows ≡ kept_rows held.bounds.most held.bounds.quota (fresh_rows_in held)
  pub some : 0 < length rows

-- ---- the table

-- a table of a search holds its seen keys
pub record IsTableOf (held : Held) (words : List ℕ) : Type 0 where
  pub table : IsTable words
  pub slots : slot_count words ≡ held.bounds.slots
  pub seen : HoldsSeen words held.state.seen held.state.step

-- a table holds what the next step leaves of the seen keys
pub record HoldsLeft (held : Held) (words : List ℕ) : Type 0 where
  pub table : IsTable words
  pub slots : slot_count words ≡ held.bounds.slots
  pub seen : HoldsSeen words (seen_of held.bounds held.state) held.state.step

-- a table holds the keys that are seen after the next step
pub record IsMade (held : Held) (words : List ℕ) : Type 0 where
  pub table : IsTable words
  pub slots : slot_count words ≡ held.bounds.slots
  pub seen : HoldsSeen words (seen_next held) (held.state.step + 1)

-- keys can be added to a table: they are new to it, different and not 0, and there is room
pub record CanAdd (words keys : List ℕ) : Type 0 where
  pub table : IsTable words
  pub named : All (λ key. key ≢ 0) keys
  pub once : AllPairs (λ a b. a ≢ b) keys
  pub new : All (λ key. owner_in words key ≡ None) keys
  pub room : length (entries_in words) + length keys ≤ slot_count words

-- a table after keys were added, whose owner is this step
pub record IsAdded (before keys : List ℕ) (step : ℕ) (after : List ℕ) : Type 0 where
  pub table : IsTable after
  pub size : length after ≡ length before
  pub owners : (key : ℕ)
      → owner_in after key ≡ (if list_any (λ k. k == key) keys then Some step else owner_in before key)

-- keys are those of the next step's generation: they can be added to the table of the search, and make it the next one
pub record AreNewKeys (held : Held) (keys : List ℕ) : Type 0 where
  pub can : (words : List ℕ) → IsTableOf held words → CanAdd words keys
  pub adds : (before after : List ℕ) → IsTableOf held before → IsAdded before keys (held.state.step + 1) after
      → IsMade held after

-- what becomes of the table of a search makes it the next one
abbrev pub IsNewTable : Held → NewTable → Type 0
IsNewTable held (Own keys) = AreNewKeys held keys.items
IsNewTable held (Made words) = IsMade held words.items

-- it can be done to this table
abbrev pub CanPut : List ℕ → NewTable → Type 0
CanPut own (Own keys) = CanAdd own keys.items
CanPut own (Made words) = Unit {0}

-- it was done, with this step as the owner of new keys
abbrev pub IsPut : List ℕ → ℕ → NewTable → List ℕ → Type 0
IsPut own step (Own keys) words = IsAdded own keys.items step words
IsPut own step (Made made) words = words ≡ made.items

-- ---- the seen keys' oldest step and their number

-- what is left of the seen keys of a search once there is room for the next step
pub record IsLeft (held : Held) (left : SeenKeys) : Type 0 where
  pub oldest : left.oldest ≡ oldest_step held.state.step (seen_of held.bounds held.state)
  pub gone : drop (left.oldest - oldest_step held.state.step held.state.seen) held.state.seen
      ≡ seen_of held.bounds held.state
  pub count : left.count ≡ key_count (seen_of held.bounds held.state)
  pub few : left.count ≤ 2 ^ 25

-- those after the next step
pub record AreNextKeys (held : Held) (keys : SeenKeys) : Type 0 where
  pub oldest : keys.oldest ≡ oldest_step (held.state.step + 1) (seen_next held)
  pub count : keys.count ≡ key_count (seen_next held)

-- ---- a step before its end

-- in order the fresh rows are those of the next step, and the table and the seen keys are those after it
pub record IsReady (held : Held) (prepared : Prepared) : Type 0 where
  pub fresh : in_order is_row_before prepared.fresh.items ≡ in_order is_row_before (fresh_rows_in held)
  pub table : IsNewTable held prepared.table
  pub keys : AreNextKeys held prepared.keys

-- rows tell the winner of the next step; in order the fresh rows are its fresh; and the table and the seen keys are
-- those after it
pub record IsPrepared (held : Held) (rows : List Row) (prepared : Prepared) : Type 0 where
  pub winner : winner_row rows ≡ winner_row (live_rows held)
  pub fresh : in_order is_row_before prepared.fresh.items ≡ in_order is_row_before (fresh_rows_in held)
  pub table : IsNewTable held prepared.table
  pub keys : AreNextKeys held prepared.keys
