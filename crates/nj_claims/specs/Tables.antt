-- A claim table as its words, and as a map from keys to owners. The form is our own: each slot has two words, its key
-- word (a key, or 0) and its owner word.
use Rattle.std.specs.Prelude.{◌≡◌, ◌≢◌, ℕ, ◌+◌, ◌*◌, ◌/◌, ◌%◌, ◌^◌, ◌<◌, ◌==◌, min, List, [], ◌∷◌, length, map, slice_index, Option, Some, None, if◌then◌else◌}

-- an owner word that names no owner, 2^64 - 1
abbrev pub no_owner : ℕ
no_owner = 18446744073709551615

-- the number of slots: each has two words
abbrev pub slot_count : List ℕ → ℕ
slot_count words = length words / 2

-- the key word of a slot: its key, or 0 where the slot is empty
abbrev pub key_at : List ℕ → ℕ → ℕ
key_at words slot = slice_index words (2 * slot)

-- the owner word of a slot
abbrev pub owner_at : List ℕ → ℕ → ℕ
owner_at words slot = slice_index words (2 * slot + 1)

-- the slot at a distance behind a key's home, round the table: the home is the key's remainder by the slots
abbrev pub slot_from : ℕ → ℕ → ℕ → ℕ
slot_from slots key distance = (key % slots + distance) % slots

-- how keys stand in slots: each in one slot, with no empty slot between its home and that slot; an empty slot has no
-- owner
pub record IsPlaced (slots : ℕ) (words : List ℕ) : Type 0 where
  pub once : (i j : ℕ) → i < slots → j < slots → key_at words i ≢ 0 → key_at words i ≡ key_at words j → i ≡ j
  pub chained : (key far near : ℕ) → key ≢ 0 → far < slots → near < far → key_at words (slot_from slots key far) ≡ key
      → key_at words (slot_from slots key near) ≢ 0
  pub bare : (i : ℕ) → i < slots → key_at words i ≡ 0 → owner_at words i ≡ no_owner

-- a table: two words for each of 2^k slots, with the keys in their places
pub record IsTable (words : List ℕ) : Type 0 where
  pub size : (k : ℕ) × (length words ≡ 2 ^ (k + 1))
  pub placed : IsPlaced (slot_count words) words

-- the keys that stand in a table, each with its owner word, in the order of the slots
abbrev pub entries_in : List ℕ → List (ℕ × ℕ)
entries_in [] = []
entries_in (key ∷ []) = []
entries_in (key ∷ owner ∷ words) = if key == 0 then entries_in words else (key, owner) ∷ entries_in words

-- the keys that stand in a table, in the order of the slots
abbrev pub keys_in : List ℕ → List ℕ
keys_in words = map (λ entry. entry.0) (entries_in words)

-- the owner that entries give to a key, None where the key is not among them
abbrev pub owner_among : ℕ → List (ℕ × ℕ) → Option ℕ
owner_among key [] = None
owner_among key (entry ∷ entries) = if entry.0 == key then Some entry.1 else owner_among key entries

-- the table as a map: the owner of a key, None where the key does not stand there
unfoldable pub owner_in : List ℕ → ℕ → Option ℕ
owner_in words key = owner_among key (entries_in words)

-- an owner, if there is one, lowered to a number
abbrev pub lowered : Option ℕ → ℕ → Option ℕ
lowered None number = Some number
lowered (Some owner) number = Some (min owner number)

-- a key's owner after claims of (key, number): the least of what it was and of the numbers claimed for the key
abbrev pub owner_after : ℕ → Option ℕ → List (ℕ × ℕ) → Option ℕ
owner_after key owner [] = owner
owner_after key owner (claim ∷ claims) =
    owner_after key (if claim.0 == key then lowered owner claim.1 else owner) claims
