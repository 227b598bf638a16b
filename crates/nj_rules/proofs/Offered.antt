-- The pads that input sets offer, as a loop over the sets adds them.
use Rattle.std.proofs.Common.{◌≡◌, ℕ, suc, ◌+◌, ◌<◌, ◌≤◌, true, false, refl, sym, ◌∙◌, ap, arith, List, ◌∷◌, ◌++◌, length, take, drop, drop-cons, add-one, slice_index_or, append_assoc, nat_eq}
use Rattle.std.specs.List.{flat_map, IsDistinct}
use Rattle.std.proofs.lemmas.List.{length-take, drop_all}
use Rattle.nj_property.specs.Condition.{all_hold_in}
use Rattle.nj_rules.specs.declared.record.InputSet.{InputSet}
use Rattle.nj_rules.specs.Pads.{distinct, offered_pads}
use Rattle.nj_rules.proofs.Distinct.{append_nil, distinct-append, distinct-same}

next_is :
    {X : Type 0} (xs : List X) (i : ℕ) (x : X) → i < length xs → x ≡ slice_index_or xs i x
    → drop i xs ≡ x ∷ drop (i + 1) xs
next_is xs i x h e = rw (add-one, drop-cons xs i x) (ap (λ y. y ∷ drop (suc i) xs) (sym e))

-- a set whose conditions fail offers nothing
pub offered-passed :
    (sets : List InputSet) (ram before all : List ℕ) (i : ℕ) (set : InputSet) → i < length sets
    → set ≡ slice_index_or sets i set → all_hold_in ram set.when ≡ false
    → distinct (before ++ offered_pads (drop i sets) ram) ≡ all
    → distinct (before ++ offered_pads (drop (i + 1) sets) ram) ≡ all
offered-passed sets ram before all i set h e fails left =
    let next : offered_pads (drop i sets) ram ≡ offered_pads (drop (i + 1) sets) ram =
    rw (next_is sets i set h e, fails) refl in
    rw (← next) left

-- a set whose conditions hold brings its pads
pub offered-taken :
    (sets : List InputSet) (ram before after all : List ℕ) (i : ℕ) (set : InputSet) → i < length sets
    → set ≡ slice_index_or sets i set → all_hold_in ram set.when ≡ true
    → set.stop ≡ false → after ≡ distinct (before ++ set.pads)
    → distinct (before ++ offered_pads (drop i sets) ram) ≡ all
    → distinct (after ++ offered_pads (drop (i + 1) sets) ram) ≡ all
offered-taken sets ram before after all i set h e holds goes_on grown left =
    let next : offered_pads (drop i sets) ram ≡ set.pads ++ offered_pads (drop (i + 1) sets) ram =
    rw (next_is sets i set h e, holds, goes_on) refl in
    rw (grown, distinct-append (before ++ set.pads) (offered_pads (drop (i + 1) sets) ram), append_assoc, ← next) left

-- behind a set with `stop` whose conditions hold nothing is offered
pub offered-stopped :
    (sets : List InputSet) (ram before after all : List ℕ) (i : ℕ) (set : InputSet) → i < length sets
    → set ≡ slice_index_or sets i set → all_hold_in ram set.when ≡ true
    → set.stop ≡ true → after ≡ distinct (before ++ set.pads)
    → distinct (before ++ offered_pads (drop i sets) ram) ≡ all → after ≡ all
offered-stopped sets ram before after all i set h e holds stops grown left =
    let next : offered_pads (drop i sets) ram ≡ set.pads =
    rw (next_is sets i set h e, holds, stops) (append_nil set.pads) in
    rw (grown, ← next) left

-- every set brings its pads, where conditions do not count
pub named-taken :
    (sets : List InputSet) (before after all : List ℕ) (i : ℕ) (set : InputSet) → i < length sets
    → set ≡ slice_index_or sets i set
    → after ≡ distinct (before ++ set.pads)
    → distinct (before ++ flat_map (λ s. s.pads) (drop i sets)) ≡ all
    → distinct (after ++ flat_map (λ s. s.pads) (drop (i + 1) sets)) ≡ all
named-taken sets before after all i set h e grown left =
    let next : flat_map (λ s. s.pads) (drop i sets) ≡ set.pads ++ flat_map (λ s. s.pads) (drop (i + 1) sets) =
    rw (next_is sets i set h e) refl in
    rw (grown, distinct-append (before ++ set.pads) (flat_map (λ s. s.pads) (drop (i + 1) sets)), append_assoc, ← next)
    left

-- so many bytes as are taken
pub length_of_taken : (into all : List ℕ) (n : ℕ) → length into ≡ 256 → n ≤ 256 → take n into ≡ all → n ≡ length all
length_of_taken into all n size within e = rw (← e, length-take n into) (omega arith)

-- when no sets are left, all is there
pub offered-end :
    (sets : List InputSet) (ram before all : List ℕ) (n : ℕ) → IsDistinct nat_eq before → length sets ≤ n
    → distinct (before ++ offered_pads (drop n sets) ram) ≡ all → before ≡ all
offered-end sets ram before all n h past left =
    sym (distinct-same before h) ∙ ap distinct (sym (append_nil before))
    ∙ ap (λ xs. distinct (before ++ offered_pads xs ram)) (sym (drop_all n sets past)) ∙ left

pub named-end :
    (sets : List InputSet) (before all : List ℕ) (n : ℕ) → IsDistinct nat_eq before → length sets ≤ n
    → distinct (before ++ flat_map (λ s. s.pads) (drop n sets)) ≡ all → before ≡ all
named-end sets before all n h past left =
    sym (distinct-same before h) ∙ ap distinct (sym (append_nil before))
    ∙ ap (λ xs. distinct (before ++ flat_map (λ s. s.pads) xs)) (sym (drop_all n sets past)) ∙ left
