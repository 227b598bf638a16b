-- Where a walk from a key's home ends.
use Rattle.std.specs.Prelude.{◌≡◌, ◌≢◌, ℕ, ◌<◌, ◌≤◌, ◌⊎◌, List, Option, Some, None}
use Rattle.nj_claims.specs.Tables.{no_owner, key_at, owner_at, slot_from}
use Rattle.nj_claims.specs.Rule.{HoldsOther}

-- so many slots from a key's home hold other keys
abbrev pub ArePassed : ℕ → List ℕ → ℕ → ℕ → Type 0
ArePassed slots words key distance = (d : ℕ) → d < distance → HoldsOther words key (slot_from slots key d)

-- the slot is the first from the key's home that holds it or is empty, and it holds the key
pub record IsFirst (slots : ℕ) (words : List ℕ) (key slot : ℕ) : Type 0 where
  pub distance : ℕ
  pub near : distance < slots
  pub here : slot_from slots key distance ≡ slot
  pub holds : key_at words slot ≡ key
  pub before : ArePassed slots words key distance

-- no walk from its home finds the key: the first slot that does not hold another is empty, or there is none
pub record IsNowhere (slots : ℕ) (words : List ℕ) (key : ℕ) : Type 0 where
  pub distance : ℕ
  pub within : distance ≤ slots
  pub ends : (distance ≡ slots) ⊎ (key_at words (slot_from slots key distance) ≡ 0)
  pub before : ArePassed slots words key distance

-- what a walk from the key's home finds
abbrev pub IsFind : ℕ → List ℕ → ℕ → Option ℕ → Type 0
IsFind slots words key (Some slot) = (slot < slots) × IsFirst slots words key slot
IsFind slots words key None = IsNowhere slots words key

-- a slot is empty and has no owner, or its key stands in its place there
abbrev pub FitsSlot : ℕ → List ℕ → ℕ → Type 0
FitsSlot slots words slot =
    ((key_at words slot ≡ 0) × (owner_at words slot ≡ no_owner))
    ⊎ ((key_at words slot ≢ 0) × IsFirst slots words (key_at words slot) slot)

-- the key stands in no slot
abbrev pub IsAbsent : ℕ → List ℕ → ℕ → Type 0
IsAbsent slots words key = (slot : ℕ) → slot < slots → key_at words slot ≢ key

-- the slot is the first empty one behind the key's home
pub record IsFree (slots : ℕ) (words : List ℕ) (key slot : ℕ) : Type 0 where
  pub distance : ℕ
  pub near : distance < slots
  pub here : slot ≡ slot_from slots key distance
  pub inside : slot < slots
  pub empty : key_at words slot ≡ 0
  pub before : ArePassed slots words key distance
