-- The rules of a set, one after another, as a loop over all rules meets them.
use Rattle.std.proofs.Common.{◌≡◌, ℕ, ◌+◌, ◌<◌, Bool, true, false, ◌||◌, ◌&&◌, pos, ◌+ℤ◌, refl, arith, List, ◌∷◌, map, drop, length, slice_index_or, drop-cons, add-one, cond, if◌then◌else◌, count_by}
use Rattle.std.specs.List.{list_any}
use Rattle.std.proofs.lemmas.Int.{ints}
use Rattle.std.proofs.lemmas.List.Sums.{sum_by-cons}
use Rattle.nj_rules.specs.declared.record.Rule.{Rule}
use Rattle.nj_rules.specs.Rules.{is_in, members_from, int_sum, gain_of}

drop_here :
    {X : Type 0} (xs : List X) (i : ℕ) (d : X) → i < length xs → drop i xs ≡ slice_index_or xs i d ∷ drop (i + 1) xs
drop_here xs i d h = rw (add-one, drop-cons xs i d) refl

any-cond :
    (p : Rule → Bool) (b : Bool) (x : Rule) (xs : List Rule) →
    list_any p (if b then x ∷ xs else xs) ≡ ((b && p x) || list_any p xs)
any-cond p true x xs = refl
any-cond p false x xs = refl

-- some rule that is left in the set passes: the next one or a later one
pub any-members : (p : Rule → Bool) (set : ℕ) (rules : List Rule) (i : ℕ) (d : Rule) → i < length rules →
    list_any p (members_from i set (drop i rules))
    ≡ ((is_in set i && p (slice_index_or rules i d)) || list_any p (members_from (i + 1) set (drop (i + 1) rules)))
any-members p set rules i d h =
    rw (drop_here rules i d h)
    (any-cond p (is_in set i) (slice_index_or rules i d) (members_from (i + 1) set (drop (i + 1) rules)))

sum-cond :
    (ram : List ℕ) (b : Bool) (x : Rule) (xs : List Rule) →
    int_sum (map (gain_of ram) (if b then x ∷ xs else xs))
    ≡ ((if b then gain_of ram x else pos 0) +ℤ int_sum (map (gain_of ram) xs))
sum-cond ram true x xs = refl
sum-cond ram false x xs = omega (arith, ints)

-- what the rules that are left in the set give: what the next one gives if it is in the set, and the others'
pub sum-members : (ram : List ℕ) (set : ℕ) (rules : List Rule) (i : ℕ) (d : Rule) → i < length rules →
    int_sum (map (gain_of ram) (members_from i set (drop i rules)))
    ≡ ((if is_in set i then gain_of ram (slice_index_or rules i d) else pos 0) +ℤ int_sum
    (map (gain_of ram) (members_from (i + 1) set (drop (i + 1) rules))))
sum-members ram set rules i d h =
    rw (drop_here rules i d h)
    (sum-cond ram (is_in set i) (slice_index_or rules i d) (members_from (i + 1) set (drop (i + 1) rules)))

count-cond :
    (p : Rule → Bool) (b : Bool) (x : Rule) (xs : List Rule) →
    count_by p (if b then x ∷ xs else xs) ≡ (if b && p x then 1 else 0) + count_by p xs
count-cond p true x xs = sum_by-cons (λ y. cond (p y) 1 0) x xs
count-cond p false x xs = omega arith

-- how many rules that are left in the set pass
pub count-members : (p : Rule → Bool) (set : ℕ) (rules : List Rule) (i : ℕ) (d : Rule) → i < length rules →
    count_by p (members_from i set (drop i rules))
    ≡ (if is_in set i && p (slice_index_or rules i d) then 1 else 0)
    + count_by p (members_from (i + 1) set (drop (i + 1) rules))
count-members p set rules i d h =
    rw (drop_here rules i d h)
    (count-cond p (is_in set i) (slice_index_or rules i d) (members_from (i + 1) set (drop (i + 1) rules)))

pub ruleset members = (any-members, sum-members, count-members)
