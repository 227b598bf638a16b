-- The rule between the threads: what holds of the words and of all views between any two steps.
use Rattle.std.specs.Prelude.{◌≡◌, ◌≢◌, ℕ, ◌+◌, ◌*◌, ◌<◌, ◌≤◌, true, false, ◌⊎◌, List, [], length, if◌then◌else◌, sum_by}
use Rattle.std.specs.List.{All, Contains}
use mathlib.Core.Option.{some}
use lib.ListN.{get_elem?}
use Rattle.atomic_table.specs.Table.{State}
use Rattle.nj_claims.specs.declared.view.View.{View}
use Rattle.nj_claims.specs.declared.view.Opening.{Opening}
use Rattle.nj_claims.specs.declared.view.Flight.{Flight}
use Rattle.nj_claims.specs.declared.view.Flight.TheVariants.{Idle, Looking, Found}
use Rattle.nj_claims.specs.Tables.{no_owner, key_at, owner_at, slot_from, IsPlaced}

-- the view of the first pass
abbrev pub first_view : View
first_view = record { claims = []; seen = []; full = []; flight = Idle; out = 0; living = true }

-- the view of a pass that was joined
abbrev pub spent_view : View
spent_view = record { claims = []; seen = []; full = []; flight = Idle; out = 0; living = false }

-- a key stands with an owner that is at most the number
pub record Reaches (slots : ℕ) (words : List ℕ) (key number : ℕ) : Type 0 where
  pub some_key : key ≢ 0
  pub named : number < no_owner
  pub slot : ℕ
  pub inside : slot < slots
  pub held : key_at words slot ≡ key
  pub owned : owner_at words slot ≤ number

-- a slot holds another key
pub record HoldsOther (words : List ℕ) (key slot : ℕ) : Type 0 where
  pub taken : key_at words slot ≢ 0
  pub other : key_at words slot ≢ key

-- every slot holds another key
abbrev pub IsFullFor : ℕ → List ℕ → ℕ → Type 0
IsFullFor slots words key = (slot : ℕ) → slot < slots → HoldsOther words key slot

-- a claim under way: so many slots from the key's home hold other keys, or the key was found
abbrev pub FitsFlight : ℕ → List ℕ → Flight → Type 0
FitsFlight slots words Idle = Unit {0}
FitsFlight slots words (Looking key depth) = (d : ℕ) → d < depth → HoldsOther words key (slot_from slots key d)
FitsFlight slots words (Found key slot) = (key ≢ 0) × (slot < slots) × (key_at words slot ≡ key)

-- what a view knows is true of the words
pub record Fits (slots : ℕ) (words : List ℕ) (view : View) : Type 0 where
  pub claims : All (λ claim. Reaches slots words claim.0 claim.1) view.claims
  pub seen : All (λ claim. Reaches slots words claim.0 claim.1) view.seen
  pub full : All (IsFullFor slots words) view.full
  pub flight : FitsFlight slots words view.flight

-- some view has this
pub record Somewhere (views : List View) (Has : View → Type 0) : Type 0 where
  pub seat : ℕ
  pub view : View
  pub there : get_elem? views seat ≡ some view
  pub has : Has view

-- a flight that has found this key
abbrev pub HasFound : ℕ → Flight → Type 0
HasFound key Idle = ⊥
HasFound key (Looking _ _) = ⊥
HasFound key (Found found _) = found ≡ key

-- the view claimed the key, or is about to
abbrev pub Brings : ℕ → View → Type 0
Brings key view = ((number : ℕ) × Contains view.claims (key, number)) ⊎ HasFound key view.flight

-- the view claimed the number for the key
abbrev pub Claims : ℕ → ℕ → View → Type 0
Claims key number view = Contains view.claims (key, number)

-- the key stands in this slot of the opening table with this owner
pub record Opens (opening : Opening) (slot key owner : ℕ) : Type 0 where
  pub some_key : key ≢ 0
  pub inside : slot < opening.slots
  pub held : key_at opening.words.items slot ≡ key
  pub owned : owner_at opening.words.items slot ≡ owner

-- an owner of a key comes from the opening table or from a claim
abbrev pub Stems : Opening → List View → ℕ → ℕ → Type 0
Stems opening views key owner =
    ((slot : ℕ) × Opens opening slot key owner) ⊎ Somewhere views (Claims key owner)

-- a key of the opening table stands where it was, with an owner that is not greater
pub record Stays (before after : List ℕ) (slot : ℕ) : Type 0 where
  pub key : key_at after slot ≡ key_at before slot
  pub owner : owner_at after slot ≤ owner_at before slot

-- 1 for a view that is not spent
abbrev pub living_count : View → ℕ
living_count view = if view.living then 1 else 0

-- What holds between any two steps: the keys are in their places; those of the opening table stay, with owners that
-- only fall; each further key was claimed or found; each owner is none, or comes from the opening table or a claim;
-- what each view knows is true; a joined pass knows nothing; and the passes are one more than those that are out.
pub record Holds (opening : Opening) (s : State ℕ View) : Type 0 where
  pub some_slot : 0 < opening.slots
  pub wide : length s.words ≡ 2 * opening.slots
  pub small : (slot : ℕ) → slot < opening.slots → owner_at opening.words.items slot ≤ no_owner
  pub placed : IsPlaced opening.slots s.words
  pub stays : (slot : ℕ) → slot < opening.slots → key_at opening.words.items slot ≢ 0
      → Stays opening.words.items s.words slot
  pub known : (slot : ℕ) → slot < opening.slots → key_at s.words slot ≢ 0
      → (key_at opening.words.items slot ≡ key_at s.words slot) ⊎ Somewhere s.views (Brings (key_at s.words slot))
  pub owned : (slot : ℕ) → slot < opening.slots
      → (owner_at s.words slot ≡ no_owner) ⊎ Stems opening s.views (key_at s.words slot) (owner_at s.words slot)
  pub fits : (seat : ℕ) (view : View) → get_elem? s.views seat ≡ some view → Fits opening.slots s.words view
  pub told : (seat : ℕ) (view : View) → get_elem? s.views seat ≡ some view
      → All (λ claim. Stems opening s.views claim.0 claim.1) view.seen
  pub spent : (seat : ℕ) (view : View) → get_elem? s.views seat ≡ some view → view.living ≡ false → view ≡ spent_view
  pub counted : (view : View) → get_elem? s.views 0 ≡ some view → sum_by living_count s.views ≡ 1 + view.out
