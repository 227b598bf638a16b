-- What contracts see of a table that threads share, and of a pass.
use Rattle.std.specs.Prelude.{◌≡◌, ℕ, Bool, true, ◌+◌, ◌-◌, ◌≤◌, List, [], ◌++◌, length, Some, None, ◌⊎◌}
use Rattle.std.specs.List.{Contains}
use Rattle.atomic_table.specs.Seated.{TableId}
use Rattle.nj_claims.specs.Tables.{owner_in, entries_in, slot_count}

-- a table: which one it is, and the words that it was opened with
pub record TableView : Type 0 where
  pub id : TableId
  pub opening : List ℕ

-- a pass: the table that it is of, whether `open` gave it, how many passes that were split from it are not joined yet,
-- its claims of (key, number), the (key, number) that it saw, the number being an owner then or later, and the keys
-- that found no room
pub record PassView : Type 0 where
  pub table : TableId
  pub is_root : Bool
  pub out : ℕ
  pub claims : List (ℕ × ℕ)
  pub seen : List (ℕ × ℕ)
  pub full : List ℕ

-- a number that was seen for a key, in the closed table: the closed owner is at most it, and it was the opening owner
-- or was claimed
pub record WasOwner (opening closed : List ℕ) (claims : List (ℕ × ℕ)) (key number : ℕ) : Type 0 where
  pub bound : (owner : ℕ) × (owner_in closed key ≡ Some owner) × (owner ≤ number)
  pub source : (owner_in opening key ≡ Some number) ⊎ Contains claims (key, number)

-- the pass that `open` gives
abbrev pub first_pass : TableId → PassView
first_pass id = record { table = id; is_root = true; out = 0; claims = []; seen = []; full = [] }

-- the first pass with one more out
abbrev pub lent_pass : PassView → PassView
lent_pass pass = record pass { out = pass.out + 1 }

-- a pass that was split from another: it has seen as much, and claimed nothing
pub record IsGiven (pass given : PassView) : Type 0 where
  pub table : given.table ≡ pass.table
  pub out : given.out ≡ 0
  pub claims : given.claims ≡ []
  pub seen : given.seen ≡ pass.seen
  pub full : given.full ≡ []

-- the first pass with what another has, and one less out
abbrev pub joined_pass : PassView → PassView → PassView
joined_pass pass other = record pass {
  out = pass.out - 1;
  claims = pass.claims ++ other.claims;
  seen = pass.seen ++ other.seen;
  full = pass.full ++ other.full;
}

-- a key that found no room in the closed table: no slot is empty, and the key does not stand there
pub record HadNoRoom (closed : List ℕ) (key : ℕ) : Type 0 where
  pub full : length (entries_in closed) ≡ slot_count closed
  pub absent : owner_in closed key ≡ None
