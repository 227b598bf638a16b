-- What the steps of a claim ask of the table that they are on.
use Rattle.std.specs.Prelude.{◌≡◌, ℕ, ◌+◌, ◌*◌, ◌^◌, ◌<◌, ◌⊎◌, List, Option, Some, None, length}
use Rattle.std.specs.Option.{unwrap_or}
use Rattle.atomic_table.specs.Table.{Me}
use Rattle.atomic_table.specs.Seated.{TableId}
use Rattle.nj_claims.specs.declared.view.View.{View}
use Rattle.nj_claims.specs.declared.view.Opening.{Opening}
use Rattle.nj_claims.specs.declared.view.Flight.{Flight}
use Rattle.nj_claims.specs.declared.view.Flight.TheVariants.{Idle, Looking, Found}
use Rattle.nj_claims.specs.Tables.{no_owner, owner_in}
use Rattle.nj_claims.specs.Rule.{Opens}
use Rattle.nj_claims.specs.Steps.{with_flight, passed}

-- the words of a table: two for each slot, and no slot of another kind
pub record IsBoard (slots : ℕ) (opening : Opening) (id : TableId) : Type 0 where
  pub as_opened : slots ≡ opening.slots
  pub words : id.words ≡ 2 * opening.slots
  pub none : id.slots ≡ 0
  pub opened : length opening.words.items ≡ 2 * opening.slots
  pub small : 2 * opening.slots < 2 ^ 64
  pub some_slot : 0 < opening.slots

-- an owner that the key has in the opening table, or none
abbrev pub HasFirst : ℕ → ℕ → Opening → Type 0
HasFirst key most opening = ((slot : ℕ) × Opens opening slot key most) ⊎ (most ≡ no_owner)

-- the owner that words give to a key, or none
abbrev pub first_owner : List ℕ → ℕ → ℕ
first_owner words key = unwrap_or (owner_in words key) no_owner

-- the key that a flight has found
abbrev pub found_key : Flight → ℕ
found_key (Found key slot) = key
found_key Idle = 0
found_key (Looking key depth) = 0

-- the next slot holds the key, or was passed
abbrev pub IsProbed : ℕ → ℕ → ℕ → Me ℕ View → Me ℕ View → Option ℕ → Type 0
IsProbed slots key depth me me' (Some slot) = (me' ≡ (with_flight (Found key slot) me.0, me.1)) × (slot < slots)
IsProbed slots key depth me me' None = me' ≡ (passed slots key (depth + 1) me.0, me.1)

-- a slot holds the key, or all were passed
abbrev pub IsSettled : ℕ → ℕ → Me ℕ View → Me ℕ View → Option ℕ → Type 0
IsSettled slots key me me' (Some slot) = (me' ≡ (with_flight (Found key slot) me.0, me.1)) × (slot < slots)
IsSettled slots key me me' None = me' ≡ (passed slots key slots me.0, me.1)
