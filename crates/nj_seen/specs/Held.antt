-- The seen keys in a claim table: each stands there with the step of its generation as its owner. All of it is this
-- project's own.
use Rattle.std.specs.Prelude.{◌≡◌, ◌≢◌, ℕ, zero, suc, Bool, false, not, ◌&&◌, ◌+◌, ◌-◌, ◌<◌, ◌≤◌, ◌==◌, nat_lt, nat_le, List, [], ◌∷◌, length, map, filter, Option, Some, None, if◌then◌else◌}
use Rattle.std.specs.Ordering.{nat_cmp}
use Rattle.std.specs.List.Sorted.{IsSorted}
use Rattle.std.specs.List.{All, AllPairs, Contains, concat, list_any}
use Rattle.nj_search_defs.specs.Order.{in_order}
use Rattle.nj_search_defs.specs.Pruning.{Seen}
use Rattle.nj_rows.specs.declared.Row.{Row}
use Rattle.nj_claims.specs.Tables.{key_at, owner_at, entries_in, owner_in, slot_count}

-- no key is below the one before it
abbrev pub AreInOrder : List ℕ → Type 0
AreInOrder keys = IsSorted nat_cmp keys

-- the least claim number, 2^24: an owner below it is the step whose generation holds the key
abbrev pub first_claim : ℕ
first_claim = 16777216

-- the claim that a row makes: its key, for the claim number of its candidate
abbrev pub claim_of : Row → ℕ × ℕ
claim_of row = (row.key, first_claim + row.number)

-- the step whose generation has a key, where the oldest generation is of step `first` and each later one of the next;
-- None where none has it
abbrev pub step_of : ℕ → Seen → ℕ → Option ℕ
step_of first [] key = None
step_of first (keys ∷ later) key = if list_any (λ k. k == key) keys then Some first else step_of (first + 1) later key

-- the step of the oldest generation, where the newest is of this step
abbrev pub oldest_step : ℕ → Seen → ℕ
oldest_step step seen = step + 1 - length seen

-- a table holds the seen keys of a search at a step: they are generations of consecutive steps that end at it, each in
-- rising order, with each key once; and these keys alone stand in the table, each with its generation's step
pub record HoldsSeen (words : List ℕ) (seen : Seen) (step : ℕ) : Type 0 where
  pub few : length seen ≤ step + 1
  pub in_order : All AreInOrder seen
  pub once : AllPairs (λ a b. a ≢ b) (concat seen)
  pub owners : (key : ℕ) → owner_in words key ≡ step_of (oldest_step step seen) seen key

-- the keys of a table whose owner is this step, in rising order
abbrev pub generation_at : List ℕ → ℕ → List ℕ
generation_at words step =
    in_order nat_lt (map (λ entry. entry.0) (filter (λ entry. entry.1 == step) (entries_in words)))

-- the generations of so many consecutive steps, the first of step `first`
abbrev pub generations_from : List ℕ → ℕ → ℕ → Seen
generations_from words first zero = []
generations_from words first (suc more) = generation_at words first ∷ generations_from words (first + 1) more

-- the seen keys that a table tells at a step, where the oldest generation is of this other one
unfoldable pub seen_in : List ℕ → ℕ → ℕ → Seen
seen_in words step oldest = generations_from words oldest (step + 1 - oldest)

-- the keys of rows, as they stand
abbrev pub keys_in_rows : List Row → List ℕ
keys_in_rows rows = map (λ row. row.key) rows

-- whether an owner is this step or a later one
abbrev pub is_owner_since : ℕ → Option ℕ → Bool
is_owner_since from None = false
is_owner_since from (Some owner) = nat_le from owner

-- the entries of a table whose owner is this step or a later one
abbrev pub entries_since : ℕ → List ℕ → List (ℕ × ℕ)
entries_since from words = filter (λ entry. nat_le from entry.1) (entries_in words)

-- whether a slot holds a key whose owner is this step or a later one
abbrev pub is_since : ℕ → List ℕ → ℕ → Bool
is_since from words slot = not (key_at words slot == 0) && nat_le from (owner_at words slot)

-- an owner, where it is this step or a later one
abbrev pub owner_since : ℕ → Option ℕ → Option ℕ
owner_since from None = None
owner_since from (Some owner) = if nat_le from owner then Some owner else None

-- the step of the oldest generation that is kept: with this room its keys and all later ones fit in the slots, and
-- those since any earlier step do not
pub record IsOldestKept (words : List ℕ) (room from : ℕ) : Type 0 where
  pub fits : length (entries_since from words) + room ≤ slot_count words
  pub over : (earlier : ℕ) → earlier < from → slot_count words < length (entries_since earlier words) + room

-- a table without the generations before the oldest that is kept
pub record IsWithRoom (words : List ℕ) (room : ℕ) (rest : List ℕ) : Type 0 where
  pub from : ℕ
  pub oldest : IsOldestKept words room from
  pub kept : (key : ℕ) → owner_in rest key ≡ owner_since from (owner_in words key)

-- an owner is this claim number
abbrev pub is_owner : ℕ → Option ℕ → Bool
is_owner number None = false
is_owner number (Some owner) = owner == number

-- a row's key is owned by the claim of the row
abbrev pub is_owned : List ℕ → Row → Bool
is_owned words row = is_owner (first_claim + row.number) (owner_in words row.key)

-- a row's key is owned by the claim of the row, and no generation of another table has it from a step on
abbrev pub is_owned_unseen : List ℕ → List ℕ → ℕ → Row → Bool
is_owned_unseen claims words from row = is_owned claims row && not (is_owner_since from (owner_in words row.key))

-- claims are those of rows: each row has its claim among them, and each of them is a row's
pub record AreClaims (rows : List Row) (claims : List (ℕ × ℕ)) : Type 0 where
  pub all : All (λ row. Contains claims (claim_of row)) rows
  pub only : All (Contains (map claim_of rows)) claims

-- an owner once a step is published: a claim number becomes the step
abbrev pub published : ℕ → ℕ → ℕ
published step owner = if nat_lt owner first_claim then owner else step

-- an entry once a step is published
abbrev pub published_entry : ℕ → ℕ × ℕ → ℕ × ℕ
published_entry step entry = (entry.0, published step entry.1)
