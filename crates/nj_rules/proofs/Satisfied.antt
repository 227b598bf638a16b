-- Which rules memory satisfies, as a loop over the rules finds them.
use Rattle.std.proofs.Common.{◌≡◌, ℕ, zero, suc, ◌+◌, ◌^◌, ◌<◌, ◌≤◌, Bool, true, false, ◌||◌, ◌&&◌, ◌==◌, refl, sym, arith, List, [], ◌∷◌, drop, length}
use Rattle.std.specs.List.{list_any}
use Rattle.std.proofs.lemmas.List.{drop_all}
use Rattle.std.proofs.lemmas.Bool.Decides.{nat_tests}
use Rattle.nj_property.specs.Condition.{all_hold_in}
use Rattle.nj_rules.specs.declared.record.Rule.{Rule}
use Rattle.nj_rules.specs.Rules.{is_in, own_hold, is_named, is_met, set_below, status_after}
use Rattle.nj_rules.proofs.Sets.{or_false, is_in-set_below, same_set, set_below-lt}

-- the rules of the list, the first having number k, satisfy rule j by themselves
abbrev pub met_from : ℕ → List Rule → List ℕ → ℕ → Bool
met_from k [] ram j = false
met_from k (rule ∷ rules) ram j =
    (all_hold_in ram rule.when && ((k == j) || list_any (λ n. n == j) rule.also)) || met_from (k + 1) rules ram j

-- rule j of the list whose first rule has number k is there and its conditions hold
own_from : ℕ → List Rule → List ℕ → ℕ → Bool
own_from k [] ram j = false
own_from k (rule ∷ rules) ram j = ((k == j) && all_hold_in ram rule.when) || own_from (k + 1) rules ram j

regroup : (h own named o n : Bool) → ((h && (own || named)) || (o || n)) ≡ (((own && h) || o) || ((h && named) || n))
regroup true true named o n = refl
regroup true false true true n = refl
regroup true false true false n = refl
regroup true false false o n = refl
regroup false true named o n = refl
regroup false false named o n = refl

met_from-parts :
    (k : ℕ) (rules : List Rule) (ram : List ℕ) (j : ℕ)
    → met_from k rules ram j ≡ (own_from k rules ram j || is_named rules ram j)
unfolding own_from
met_from-parts k [] ram j = refl
met_from-parts k (rule ∷ rules) ram j =
    rw (met_from-parts (k + 1) rules ram j)
    (regroup (all_hold_in ram rule.when) (k == j) (list_any (λ n. n == j) rule.also) (own_from (k + 1) rules ram j)
    (is_named rules ram j))

own_from-below : (k : ℕ) (rules : List Rule) (ram : List ℕ) (j : ℕ) → j < k → own_from k rules ram j ≡ false
unfolding own_from
own_from-below k [] ram j h = refl
own_from-below k (rule ∷ rules) ram j h =
    let other : (k == j) ≡ false = grind (arith, nat_tests) in
    rw (other, own_from-below (k + 1) rules ram j (omega arith)) refl

own_from-at :
    (k : ℕ) (rules : List Rule) (ram : List ℕ) (i j : ℕ) → j ≡ k + i → own_from k rules ram j ≡ own_hold rules ram i
unfolding own_from
own_from-at k [] ram i j e = refl
own_from-at k (rule ∷ rules) ram zero j e =
    let same : (k == j) ≡ true = grind (arith, nat_tests) in
    rw (same, own_from-below (k + 1) rules ram j (omega arith)) (or_false (all_hold_in ram rule.when))
own_from-at k (rule ∷ rules) ram (suc i) j e =
    let other : (k == j) ≡ false = grind (arith, nat_tests) in
    rw other (own_from-at (k + 1) rules ram i j (omega arith))

-- the loop finds the rules that memory satisfies by itself
pub met_from-all : (rules : List Rule) (ram : List ℕ) (j : ℕ) → met_from 0 rules ram j ≡ is_met rules ram j
unfolding is_met
met_from-all rules ram j = rw (met_from-parts 0 rules ram j, own_from-at 0 rules ram j j (omega arith)) refl

-- a set below 2^128 that has the old numbers and those of the rules that memory satisfies, when no rules are left, is
-- the status
pub status_after-from : (rules : List Rule) (ram : List ℕ) (old status n : ℕ) → status < 2 ^ 128 → length rules ≤ n
    → ((j : ℕ) → (is_in status j || met_from n (drop n rules) ram j) ≡ (is_in old j || met_from 0 rules ram j))
    → status ≡ status_after rules ram old
unfolding status_after
status_after-from rules ram old status n h past e =
    let test : ℕ → Bool = λ k. is_in old k || is_met rules ram k in
    same_set 128 status (set_below 128 test) h (set_below-lt 128 test)
    (λ j below. rw (is_in-set_below 128 test j below, ← met_from-all rules ram j, ← e j, drop_all n rules past)
    (sym (or_false (is_in status j))))
