-- Where a walk from a key's home ends.
use Rattle.std.proofs.Common.{◌≡◌, ◌≢◌, ℕ, ◌+◌, ◌*◌, ◌<◌, ◌≤◌, inl, inr, ⊎_elim, List, length, refl, sym, ap, ◌∙◌, subst, arith}
use Rattle.std.specs.Prelude.{Some, None}
use mathlib.Core.Logic.{dite}
use native.Mathlib.Decide.{ℕ_discrete}
use Rattle.std.proofs.lemmas.Bool.{cases_lt}
use Rattle.nj_claims.specs.Tables.{no_owner, key_at, owner_at, slot_from, IsPlaced, owner_in}
use Rattle.nj_claims.specs.Rule.{HoldsOther}
use Rattle.nj_claims.specs.Places.{ArePassed, IsFirst, IsNowhere, FitsSlot}
use Rattle.nj_claims.proofs.Slots.{slot-inside, one_distance, each_slot}
use Rattle.nj_claims.proofs.Mapping.{standing, absent_in}

-- one slot more is passed
pub passed_one : (n : ℕ) (W : List ℕ) (key depth : ℕ) → ArePassed n W key depth → key_at W (slot_from n key depth) ≢ 0
    → key_at W (slot_from n key depth) ≢ key → ArePassed n W key (depth + 1)
passed_one n W key depth h taken other = λ d l. dite (ℕ_discrete d depth)
    (λ e. subst (λ (x : ℕ). HoldsOther W key (slot_from n key x)) (sym e) record { taken = taken; other = other })
    (λ ne. h d (omega arith))

-- a key has one first slot
pub one_first : (n : ℕ) (W : List ℕ) (key i j : ℕ) → IsFirst n W key i → IsFirst n W key j → i ≡ j
one_first n W key i j a b = let d : ℕ = a.distance in let e : ℕ = b.distance in ⊎_elim
    (λ (l : d < e). absurd ((b.before d l).other (ap (key_at W) a.here ∙ a.holds)))
    (λ (l : e ≤ d). dite (ℕ_discrete e d)
    (λ same. sym a.here ∙ (ap (slot_from n key) (sym same) ∙ b.here))
    (λ ne. absurd ((a.before e (omega arith)).other (ap (key_at W) b.here ∙ b.holds)))) (cases_lt d e)

-- a key that is nowhere has no first slot
pub nowhere_first : (n : ℕ) (W : List ℕ) (key i : ℕ) → key ≢ 0 → IsNowhere n W key → IsFirst n W key i → ⊥
nowhere_first n W key i real a b = let d : ℕ = a.distance in let e : ℕ = b.distance in let le : e < n = b.near in ⊎_elim
    (λ (l : e < d). (a.before e l).other (ap (key_at W) b.here ∙ b.holds))
    (λ (l : d ≤ e). ⊎_elim
    (λ (all : d ≡ n). omega arith)
    (λ (empty : key_at W (slot_from n key d) ≡ 0). dite (ℕ_discrete d e)
    (λ same. real (sym b.holds ∙ (ap (key_at W) (sym b.here ∙ ap (slot_from n key) (sym same)) ∙ empty)))
    (λ ne. (b.before d (omega arith)).taken empty)) a.ends) (cases_lt e d)

-- a key in its place stands in the first slot of its walk
pub placed_first : (n : ℕ) (W : List ℕ) (key i : ℕ) → IsPlaced n W → key ≢ 0 → i < n → key_at W i ≡ key
    → IsFirst n W key i
placed_first n W key i placed real inside held =
    let at = each_slot n key i inside in let d : ℕ = at.0 in let near : d < n = at.1 in
    let there : key_at W (slot_from n key d) ≡ key = ap (key_at W) at.2 ∙ held in record {
      distance = d;
      near = near;
      here = at.2;
      holds = held;
      before = λ e l. record {
        taken = placed.chained key d e real near l there;
        other = λ same. let eq : slot_from n key e ≡ slot_from n key d =
            placed.once (slot_from n key e) (slot_from n key d) (slot-inside n key e (omega arith))
            (slot-inside n key d (omega arith)) (λ z. real (sym same ∙ z)) (same ∙ sym there) in
            let one : e ≡ d = one_distance n key e d (omega arith) (omega arith) near eq in absurd (omega arith);
      };
    }

-- in a table each slot fits
pub placed_fits : (n : ℕ) (W : List ℕ) → IsPlaced n W → (i : ℕ) → i < n → FitsSlot n W i
placed_fits n W placed i inside = dite (ℕ_discrete (key_at W i) 0)
    (λ e. inl (e, placed.bare i inside e))
    (λ ne. inr (ne, placed_first n W (key_at W i) i placed ne inside refl))

-- where each slot fits, the keys are in their places
pub fits_placed : (n : ℕ) (W : List ℕ) → ((i : ℕ) → i < n → FitsSlot n W i) → IsPlaced n W
fits_placed n W fits = record {
  once = λ i j li lj taken same. one_first n W (key_at W i) i j (first i li taken)
      (subst (λ (k : ℕ). IsFirst n W k j) (sym same) (first j lj (λ z. taken (same ∙ z))));
  chained = λ key far near real lf lc held. let i : ℕ = slot_from n key far in
      let a : IsFirst n W key i = subst (λ (k : ℕ). IsFirst n W k i) held
      (first i (slot-inside n key far (omega arith)) (λ z. real (sym held ∙ z))) in
      let same : a.distance ≡ far = one_distance n key a.distance far (omega arith) a.near lf a.here in
      (a.before near (omega arith)).taken;
  bare = λ i li empty. ⊎_elim (λ (a : (key_at W i ≡ 0) × (owner_at W i ≡ no_owner)).
      a.1) (λ (a : (key_at W i ≢ 0) × IsFirst n W (key_at W i) i). absurd (a.0 empty)) (fits i li);
} where
  first : (i : ℕ) → i < n → key_at W i ≢ 0 → IsFirst n W (key_at W i) i
  first i li taken = ⊎_elim (λ (a : (key_at W i ≡ 0) × (owner_at W i ≡ no_owner)). absurd (taken a.0))
      (λ (a : (key_at W i ≢ 0) × IsFirst n W (key_at W i) i). a.1) (fits i li)

-- the owner that a walk finds
pub found_owner : (n : ℕ) (W : List ℕ) (key slot : ℕ) → length W ≡ 2 * n → IsPlaced n W → key ≢ 0 → slot < n
    → IsFirst n W key slot → owner_in W key ≡ Some (owner_at W slot)
found_owner n W key slot wide placed real inside a = standing n W key slot wide placed real inside a.holds

pub found_none : (n : ℕ) (W : List ℕ) (key : ℕ) → length W ≡ 2 * n → IsPlaced n W → key ≢ 0 → IsNowhere n W key
    → owner_in W key ≡ None
found_none n W key wide placed real a =
    absent_in n W key wide (λ i l e. nowhere_first n W key i real a (placed_first n W key i placed real l e))
