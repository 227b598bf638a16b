use Rattle.std.proofs.Common.{◌≡◌, ℕ, Bool, true, false, ◌||◌, refl, sym, ◌∙◌, List, [], ◌∷◌, ◌++◌, nat_eq, if◌then◌else◌}
use Rattle.std.specs.List.{flat_map, list_any}
use Rattle.std.specs.Set.{is_member}
use Rattle.std.proofs.lemmas.Cmp.{nat_eq_equiv}
use Rattle.std.proofs.lemmas.List.Folds.{list_any-append}
use Rattle.std.proofs.lemmas.Map.Made.{length-le_from_is_member}
use Rattle.nj_property.specs.Condition.{all_hold_in}
use Rattle.nj_rules.specs.declared.record.InputSet.{InputSet}
use Rattle.nj_rules.specs.Pads.{distinct, offered_pads, allowed_pads, named_pads}
use Rattle.nj_rules.proofs.Distinct.{stands-distinct, stands-turned, IsDistinct-distinct}
use Rattle.nj_rules.proofs.laws.allowed_pads_come_once.Goals as goal

is_member-distinct : (xs : List ℕ) (q : ℕ) → is_member nat_eq (distinct xs) q ≡ is_member nat_eq xs q
is_member-distinct xs q = stands-turned q (distinct xs) ∙ stands-distinct q xs ∙ sym (stands-turned q xs)

or_left : (a b : Bool) → a ≡ true → (a || b) ≡ true
or_left a b h = rw h refl

or_right : (a b : Bool) → b ≡ true → (a || b) ≡ true
or_right true b h = refl
or_right false b h = h

-- an offered pad is named by some set
offered_is_named :
    (sets : List InputSet) (ram : List ℕ) (q : ℕ) → is_member nat_eq (offered_pads sets ram) q ≡ true
    → is_member nat_eq (flat_map (λ set. set.pads) sets) q ≡ true
offered_is_named [] ram q h = h
offered_is_named (set ∷ sets) ram q h =
    rw list_any-append (by_tests (all_hold_in ram set.when) set.stop (offered_is_named sets ram q) h)
  where
    by_tests :
        (holds stops : Bool)
        → (is_member nat_eq (offered_pads sets ram) q ≡ true → is_member nat_eq (flat_map (λ s. s.pads) sets) q ≡ true)
        → is_member nat_eq
        (if holds then set.pads ++ (if stops then [] else offered_pads sets ram) else offered_pads sets ram) q
        ≡ true
        → (list_any (nat_eq q) set.pads || list_any (nat_eq q) (flat_map (λ s. s.pads) sets)) ≡ true
    by_tests false stops ih there =
        or_right (list_any (nat_eq q) set.pads) (list_any (nat_eq q) (flat_map (λ s. s.pads) sets)) (ih there)
    by_tests true true ih there = here (list_any (nat_eq q) set.pads) refl (rw list_any-append at there)
      where
        here :
            (a : Bool) → list_any (nat_eq q) set.pads ≡ a → (list_any (nat_eq q) set.pads || false) ≡ true
            → (list_any (nat_eq q) set.pads || list_any (nat_eq q) (flat_map (λ s. s.pads) sets)) ≡ true
        here true e t = rw e refl
        here false e t = absurd (elim_false (rw e at t))
          where
            elim_false : false ≡ true → ⊥
            elim_false w = cc
    by_tests true false ih there = here (list_any (nat_eq q) set.pads) refl (rw list_any-append at there)
      where
        here :
            (a : Bool) → list_any (nat_eq q) set.pads ≡ a
            → (list_any (nat_eq q) set.pads || is_member nat_eq (offered_pads sets ram) q) ≡ true
            → (list_any (nat_eq q) set.pads || list_any (nat_eq q) (flat_map (λ s. s.pads) sets)) ≡ true
        here true e t = rw e refl
        here false e t = rw e (ih (rw e at t))

pub returns-clause-once : goal.returns-clause-once
unfolding allowed_pads
returns-clause-once c = λ sets ram. IsDistinct-distinct (offered_pads sets ram)

pub returns-clause-offered : goal.returns-clause-offered
unfolding allowed_pads
returns-clause-offered c = λ sets ram pad. is_member-distinct (offered_pads sets ram) pad

pub returns-clause-named : goal.returns-clause-named
unfolding allowed_pads named_pads
returns-clause-named c = λ sets ram.
    length-le_from_is_member nat_eq_equiv (distinct (offered_pads sets ram))
    (distinct (flat_map (λ set. set.pads) sets)) (IsDistinct-distinct (offered_pads sets ram))
    (λ q there. is_member-distinct (flat_map (λ set. set.pads) sets) q
    ∙ offered_is_named sets ram q (sym (is_member-distinct (offered_pads sets ram) q) ∙ there))
