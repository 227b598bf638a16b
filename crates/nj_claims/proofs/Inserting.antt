-- A key that is put into the first empty slot of its walk, with its owner.
use Rattle.std.proofs.Common.{◌≡◌, ◌≢◌, ℕ, ◌+◌, ◌*◌, ◌/◌, ◌<◌, ◌≤◌, ◌==◌, ⊎_elim, List, length, set, sym, ap, ◌∙◌, subst, arith, length-set, eq-eqb, ne_eqb, if◌then◌else◌}
use Rattle.std.specs.Prelude.{Some, None}
use mathlib.Core.Logic.{dite}
use native.Mathlib.Decide.{ℕ_discrete}
use Rattle.nj_claims.specs.Tables.{key_at, owner_at, IsPlaced, IsTable, entries_in, owner_in}
use Rattle.nj_claims.specs.Places.{ArePassed, IsFree, IsAbsent}
use Rattle.nj_claims.proofs.Slots.{each_slot, put_placed, own_placed, key_at-set_same, key_at-set_other, key_at-set_owner, owner_at-set_same, owner_at-set_other, owner_at-set_key}
use Rattle.nj_claims.proofs.Mapping.{standing, absent_in, seek, two_each, zero_in, all_taken}

-- the words with the entry
abbrev pub with_entry : List ℕ → ℕ → ℕ → ℕ → List ℕ
with_entry W slot key owner = set (set W (2 * slot) key) (2 * slot + 1) owner

key_here : (n : ℕ) (W : List ℕ) (key owner slot : ℕ) → length W ≡ 2 * n → slot < n
    → key_at (with_entry W slot key owner) slot ≡ key
key_here n W key owner slot wide inside =
    key_at-set_owner (set W (2 * slot) key) slot owner slot ∙ key_at-set_same W n slot key wide inside

key_there : (W : List ℕ) (key owner slot i : ℕ) → i ≢ slot → key_at (with_entry W slot key owner) i ≡ key_at W i
key_there W key owner slot i ne =
    key_at-set_owner (set W (2 * slot) key) slot owner i ∙ key_at-set_other W slot key i ne

owner_here : (n : ℕ) (W : List ℕ) (key owner slot : ℕ) → length W ≡ 2 * n → slot < n
    → owner_at (with_entry W slot key owner) slot ≡ owner
owner_here n W key owner slot wide inside =
    owner_at-set_same (set W (2 * slot) key) n slot owner (length-set W (2 * slot) key ∙ wide) inside

owner_there : (W : List ℕ) (key owner slot i : ℕ) → i ≢ slot → owner_at (with_entry W slot key owner) i ≡ owner_at W i
owner_there W key owner slot i ne =
    owner_at-set_other (set W (2 * slot) key) slot owner i ne ∙ owner_at-set_key W slot key i

entry_wide : (W : List ℕ) (key owner slot : ℕ) → length (with_entry W slot key owner) ≡ length W
entry_wide W key owner slot = length-set (set W (2 * slot) key) (2 * slot + 1) owner ∙ length-set W (2 * slot) key

entry_placed : (n : ℕ) (W : List ℕ) (key owner slot : ℕ) → length W ≡ 2 * n → IsPlaced n W → key ≢ 0
    → IsFree n W key slot → IsPlaced n (with_entry W slot key owner)
entry_placed n W key owner slot wide placed real free =
    own_placed n (set W (2 * slot) key) slot owner (length-set W (2 * slot) key ∙ wide)
    (subst (λ (p : ℕ). IsPlaced n (set W (2 * p) key)) (sym free.here)
    (put_placed n W key free.distance wide placed real free.near free.before (ap (key_at W) (sym free.here)
    ∙ free.empty)))
    free.inside (λ z. real (sym (key_at-set_same W n slot key wide free.inside) ∙ z))

-- a table with an entry more is a table
pub entry_table : (W : List ℕ) (key owner slot : ℕ) → IsTable W → key ≢ 0 → IsFree (length W / 2) W key slot
    → IsTable (with_entry W slot key owner)
entry_table W key owner slot t real free = let wide = entry_wide W key owner slot in record {
  size = (t.size.0, wide ∙ t.size.1);
  placed = subst (λ (n : ℕ). IsPlaced n (with_entry W slot key owner)) (ap (λ (n : ℕ). n / 2) (sym wide))
      (entry_placed (length W / 2) W key owner slot (two_each W t) t.placed real free);
}

-- the map has the key's owner, and is else as before
pub entry_owners : (W : List ℕ) (key owner slot : ℕ) → IsTable W → key ≢ 0 → owner_in W key ≡ None
    → IsFree (length W / 2) W key slot
    → (other : ℕ)
    → owner_in (with_entry W slot key owner) other ≡ (if key == other then Some owner else owner_in W other)
entry_owners W key owner slot t real absent free other =
    let n : ℕ = length W / 2 in let X : List ℕ = with_entry W slot key owner in let wide = two_each W t in
    let wide' : length X ≡ 2 * n = entry_wide W key owner slot ∙ wide in
    let placed = entry_placed n W key owner slot wide t.placed real free in dite (ℕ_discrete key other)
    (λ e. subst (λ (k : ℕ). owner_in X k ≡ Some owner) e
    (standing n X key slot wide' placed real free.inside (key_here n W key owner slot wide free.inside)
    ∙ ap (λ (o : ℕ). Some o) (owner_here n W key owner slot wide free.inside))
    ∙ ap (λ b. if b then Some owner else owner_in W other) (sym (eq-eqb key other e)))
    (λ ne. same n X wide wide' placed ne
    ∙ ap (λ b. if b then Some owner else owner_in W other) (sym (ne_eqb key other ne))) where
      same : (n : ℕ) (X : List ℕ) → length W ≡ 2 * (length W / 2) → length (with_entry W slot key owner)
          ≡ 2 * (length W / 2) → IsPlaced (length W / 2) (with_entry W slot key owner)
          → key ≢ other → owner_in (with_entry W slot key owner) other ≡ owner_in W other
      same _ _ wide wide' placed ne =
          let n : ℕ = length W / 2 in let X : List ℕ = with_entry W slot key owner in dite (ℕ_discrete other 0)
          (λ z. ap (owner_in X) z ∙ (zero_in n X wide' ∙ sym (ap (owner_in W) z ∙ zero_in n W wide)))
          (λ some_other. ⊎_elim
          (λ (p : (i : ℕ) × (i < n) × (key_at W i ≡ other)). let far : p.0 ≢ slot =
          λ e. some_other (sym p.2 ∙ (ap (key_at W) e ∙ free.empty)) in
          standing n X other p.0 wide' placed some_other p.1 (key_there W key owner slot p.0 far ∙ p.2)
          ∙ (ap (λ (o : ℕ). Some o) (owner_there W key owner slot p.0 far)
          ∙ sym (standing n W other p.0 wide t.placed some_other p.1 p.2)))
          (λ (none : (i : ℕ) → i < n → key_at W i ≢ other).
          absent_in n X other wide' (λ i l e. dite (ℕ_discrete i slot)
          (λ here. ne (sym (ap (key_at X) here ∙ key_here n W key owner slot wide free.inside) ∙ e))
          (λ there. none i l (sym (key_there W key owner slot i there) ∙ e)))
          ∙ sym (absent_in n W other wide none))
          (seek n W other))

-- a key without an owner stands in no slot
pub none_stands : (W : List ℕ) (key : ℕ) → IsTable W → key ≢ 0 → owner_in W key ≡ None → IsAbsent (length W / 2) W key
none_stands W key t real absent i l e = let s = standing (length W / 2) W key i (two_each W t) t.placed real l e in
    absurd (let f : None ≡ Some (owner_at W i) = sym absent ∙ s in cc)

-- where fewer entries than slots stand, not all slots hold keys
pub not_all_passed : (n : ℕ) (W : List ℕ) → length W ≡ 2 * n → length (entries_in W) < n
    → ((i : ℕ) → i < n → key_at W i ≢ 0) → ⊥
not_all_passed n W wide less taken = let e : length (entries_in W) ≡ n = all_taken n W wide taken in omega arith

-- so a walk over all slots would have met an empty one
pub passes_all : (n d : ℕ) (W : List ℕ) (key : ℕ) → length W ≡ 2 * n → length (entries_in W) < n → n ≤ d
    → ArePassed n W key d → ⊥
passes_all n d W key wide less far passed =
    not_all_passed n W wide less (λ i l. let at = each_slot n key i l in let near : at.0 < n = at.1 in
    let taken = (passed at.0 (omega arith)).taken in λ z. taken (ap (key_at W) at.2 ∙ z))
