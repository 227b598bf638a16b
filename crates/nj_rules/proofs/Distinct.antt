-- Lists in which each number stands at its first place only.
use Rattle.std.proofs.Common.{◌≡◌, ℕ, zero, suc, ◌+◌, ◌<◌, ◌≤◌, Bool, true, false, not, ◌||◌, ◌==◌, nat_eq, refl, sym, ◌∙◌, ap, arith, List, [], ◌∷◌, ◌++◌, filter, length, take, append_assoc, if◌then◌else◌, cond, subst, lit<, get_or, length-append, drop, drop-cons, add-one}
use Rattle.std.specs.List.{list_any, IsDistinct, AllByRecursion}
use Rattle.std.proofs.lemmas.Bool.Decides.{nat_tests}
use Rattle.std.proofs.lemmas.List.Elements.{filter-append}
use Rattle.std.proofs.lemmas.List.{length-take, drop_all}
use Rattle.std.proofs.lemmas.List.Folds.{list_any-append}
use Rattle.std.proofs.lemmas.Map.Steps.{length-le_from_distinct_below}
use Rattle.nj_rules.specs.Pads.{distinct}

-- whether the number stands in the list
abbrev pub stands : ℕ → List ℕ → Bool
stands q xs = list_any (λ y. y == q) xs

pub append_nil : (xs : List ℕ) → xs ++ [] ≡ xs
append_nil [] = refl
append_nil (x ∷ xs) = ap (λ ys. x ∷ ys) (append_nil xs)

stands-without_other :
    (x q : ℕ) → (x == q) ≡ false → (xs : List ℕ) → stands q (filter (λ y. not (y == x)) xs) ≡ stands q xs
stands-without_other x q other [] = refl
stands-without_other x q other (y ∷ ys) = by_test (y == x) refl (stands-without_other x q other ys)
  where
    by_test : (b : Bool) → (y == x) ≡ b → stands q (filter (λ y. not (y == x)) ys) ≡ stands q ys
        → stands q (cond (not b) (y ∷ filter (λ y. not (y == x)) ys) (filter (λ y. not (y == x)) ys))
        ≡ ((y == q) || stands q ys)
    by_test true same ih =
        let differs : (y == q) ≡ false = grind (arith, nat_tests) in
        rw (differs, ih) refl
    by_test false apart ih = rw ih refl

stands-without_same : (x : ℕ) (xs : List ℕ) → stands x (filter (λ y. not (y == x)) xs) ≡ false
stands-without_same x [] = refl
stands-without_same x (y ∷ ys) = by_test (y == x) refl (stands-without_same x ys)
  where
    by_test : (b : Bool) → (y == x) ≡ b → stands x (filter (λ y. not (y == x)) ys) ≡ false
        → stands x (cond (not b) (y ∷ filter (λ y. not (y == x)) ys) (filter (λ y. not (y == x)) ys)) ≡ false
    by_test true same ih = ih
    by_test false apart ih = rw (apart, ih) refl

-- the same numbers stand in both lists
pub stands-distinct : (q : ℕ) (xs : List ℕ) → stands q (distinct xs) ≡ stands q xs
stands-distinct q [] = refl
stands-distinct q (x ∷ xs) = by_test (x == q) refl (stands-distinct q xs)
  where
    by_test : (b : Bool) → (x == q) ≡ b → stands q (distinct xs) ≡ stands q xs
        → ((x == q) || stands q (filter (λ y. not (y == x)) (distinct xs))) ≡ ((x == q) || stands q xs)
    by_test true same ih = rw same refl
    by_test false other ih = rw (stands-without_other x q other (distinct xs), ih) refl

without_absent : (x : ℕ) (xs : List ℕ) → stands x xs ≡ false → filter (λ y. not (y == x)) xs ≡ xs
without_absent x [] h = refl
without_absent x (y ∷ ys) h = by_test (y == x) refl (stands x ys) refl (without_absent x ys)
  where
    by_test :
        (b : Bool) → (y == x) ≡ b → (there : Bool) → stands x ys ≡ there
        → (stands x ys ≡ false → filter (λ y. not (y == x)) ys ≡ ys)
        → cond (not b) (y ∷ filter (λ y. not (y == x)) ys) (filter (λ y. not (y == x)) ys) ≡ y ∷ ys
    by_test true same there e ih = absurd (grind (arith, nat_tests, h))
    by_test false apart true e ih = absurd (grind (arith, nat_tests, h))
    by_test false apart false e ih = ap (λ zs. y ∷ zs) (ih e)

without_last :
    (y x : ℕ) (zs : List ℕ) (b : Bool) → (x == y) ≡ b
    → filter (λ z. not (z == y)) (zs ++ x ∷ []) ≡ filter (λ z. not (z == y)) zs ++ (if b then [] else x ∷ [])
without_last y x zs true e = rw (filter-append (λ z. not (z == y)) zs (x ∷ []), e) refl
without_last y x zs false e = rw (filter-append (λ z. not (z == y)) zs (x ∷ []), e) refl

-- a number more at the end: it counts only where it does not stand there yet
pub distinct-snoc :
    (xs : List ℕ) (x : ℕ) → distinct (xs ++ x ∷ []) ≡ (if stands x xs then distinct xs else distinct xs ++ x ∷ [])
distinct-snoc [] x = refl
distinct-snoc (y ∷ ys) x = by_tests (y == x) refl (stands x ys) refl (distinct-snoc ys x)
  where
    by_tests :
        (same : Bool) → (y == x) ≡ same → (there : Bool) → stands x ys ≡ there
        → distinct (ys ++ x ∷ []) ≡ (if stands x ys then distinct ys else distinct ys ++ x ∷ [])
        → y ∷ filter (λ z. not (z == y)) (distinct (ys ++ x ∷ []))
        ≡ (if (y == x) || stands x ys then y ∷ filter (λ z. not (z == y)) (distinct ys)
        else (y ∷ filter (λ z. not (z == y)) (distinct ys)) ++ x ∷ [])
    by_tests true s true t ih = let e = rw t at ih in rw (e, s) refl
    by_tests false s true t ih = let e = rw t at ih in rw (e, s, t) refl
    by_tests true s false t ih =
        let e = rw t at ih in
        let back : (x == y) ≡ true = grind (arith, nat_tests) in
        rw (e, s, without_last y x (distinct ys) true back)
        (ap (λ zs. y ∷ zs) (append_nil (filter (λ z. not (z == y)) (distinct ys))))
    by_tests false s false t ih =
        let e = rw t at ih in
        let back : (x == y) ≡ false = grind (arith, nat_tests) in
        rw (e, s, t, without_last y x (distinct ys) false back) refl

none_stands : (x : ℕ) (xs : List ℕ) → AllByRecursion (λ y. nat_eq x y ≡ false) xs → stands x xs ≡ false
none_stands x [] h = refl
none_stands x (y ∷ ys) h =
    let differs : (y == x) ≡ false = grind (arith, nat_tests, h.0) in
    rw (differs, none_stands x ys h.1) refl

-- a list whose numbers differ stays as it is
pub distinct-same : (xs : List ℕ) → IsDistinct nat_eq xs → distinct xs ≡ xs
unfolding IsDistinct
distinct-same [] h = refl
distinct-same (x ∷ xs) h = rw (distinct-same xs h.1) (ap (λ ys. x ∷ ys) (without_absent x xs (none_stands x xs h.0)))

apart_without : (x : ℕ) (xs : List ℕ) → AllByRecursion (λ y. nat_eq x y ≡ false) (filter (λ y. not (y == x)) xs)
apart_without x [] = tt
apart_without x (y ∷ ys) = by_test (y == x) refl (apart_without x ys)
  where
    by_test : (b : Bool) → (y == x) ≡ b → AllByRecursion (λ y. nat_eq x y ≡ false) (filter (λ y. not (y == x)) ys)
        → AllByRecursion (λ y. nat_eq x y ≡ false)
        (cond (not b) (y ∷ filter (λ y. not (y == x)) ys) (filter (λ y. not (y == x)) ys))
    by_test true e ih = ih
    by_test false e ih = (grind (arith, nat_tests), ih)

All-filter_other :
    (z x : ℕ) (xs : List ℕ) → AllByRecursion (λ y. nat_eq z y ≡ false) xs
    → AllByRecursion (λ y. nat_eq z y ≡ false) (filter (λ y. not (y == x)) xs)
All-filter_other z x [] h = tt
All-filter_other z x (y ∷ ys) h = by_test (y == x) (All-filter_other z x ys h.1)
  where
    by_test : (b : Bool) → AllByRecursion (λ y. nat_eq z y ≡ false) (filter (λ y. not (y == x)) ys)
        → AllByRecursion (λ y. nat_eq z y ≡ false)
        (cond (not b) (y ∷ filter (λ y. not (y == x)) ys) (filter (λ y. not (y == x)) ys))
    by_test true ih = ih
    by_test false ih = (h.0, ih)

IsDistinct-filter : (x : ℕ) (xs : List ℕ) → IsDistinct nat_eq xs → IsDistinct nat_eq (filter (λ y. not (y == x)) xs)
unfolding IsDistinct
IsDistinct-filter x [] h = tt
IsDistinct-filter x (y ∷ ys) h = by_test (y == x) (All-filter_other y x ys h.0) (IsDistinct-filter x ys h.1)
  where
    by_test :
        (b : Bool) → AllByRecursion (λ z. nat_eq y z ≡ false) (filter (λ y. not (y == x)) ys)
        → IsDistinct nat_eq (filter (λ y. not (y == x)) ys)
        → IsDistinct nat_eq (cond (not b) (y ∷ filter (λ y. not (y == x)) ys) (filter (λ y. not (y == x)) ys))
    by_test true apart ih = ih
    by_test false apart ih = (apart, ih)

-- in the list of first places all numbers differ
pub IsDistinct-distinct : (xs : List ℕ) → IsDistinct nat_eq (distinct xs)
unfolding IsDistinct
IsDistinct-distinct [] = tt
IsDistinct-distinct (x ∷ xs) =
    (apart_without x (distinct xs), IsDistinct-filter x (distinct xs) (IsDistinct-distinct xs))

distinct-twice : (xs : List ℕ) → distinct (distinct xs) ≡ distinct xs
distinct-twice xs = distinct-same (distinct xs) (IsDistinct-distinct xs)

one_more : (xs : List ℕ) (y : ℕ) → distinct (distinct xs ++ y ∷ []) ≡ distinct (xs ++ y ∷ [])
one_more xs y = rw (distinct-snoc (distinct xs) y, distinct-snoc xs y, distinct-twice xs, stands-distinct y xs) refl

-- numbers behind a list of first places count as they do behind the list itself
pub distinct-append : (xs ys : List ℕ) → distinct (distinct xs ++ ys) ≡ distinct (xs ++ ys)
distinct-append xs [] = rw (append_nil, append_nil) (distinct-twice xs)
distinct-append xs (y ∷ ys) =
    let moved = append_assoc (distinct xs) (y ∷ []) ys in
    let moved_too = append_assoc xs (y ∷ []) ys in
    ap distinct (sym moved) ∙ sym (distinct-append (distinct xs ++ y ∷ []) ys)
    ∙ ap (λ zs. distinct (zs ++ ys)) (one_more xs y) ∙ distinct-append (xs ++ y ∷ []) ys ∙ ap distinct moved_too

pub stands-turned : (q : ℕ) (xs : List ℕ) → list_any (nat_eq q) xs ≡ stands q xs
stands-turned q [] = refl
stands-turned q (x ∷ xs) =
    let turned : (q == x) ≡ (x == q) = grind (arith, nat_tests) in
    rw (turned, stands-turned q xs) refl

below_where_stands : (q : ℕ) (xs : List ℕ) → ((i : ℕ) → get_or xs i 0 < 256) → stands q xs ≡ true → q < 256
below_where_stands q [] bytes h = cc
below_where_stands q (x ∷ xs) bytes h = by_test (x == q) refl (below_where_stands q xs (λ i. bytes (suc i)))
  where
    by_test : (b : Bool) → (x == q) ≡ b → (stands q xs ≡ true → q < 256) → q < 256
    by_test true same ih =
        let equal : x ≡ q = grind (arith, nat_tests) in
        let first : x < 256 = bytes 0 in
        omega arith
    by_test false other ih = ih (rw other at h)

bytes-take : (xs : List ℕ) (n i : ℕ) → ((j : ℕ) → get_or xs j 0 < 256) → get_or (take n xs) i 0 < 256
bytes-take [] zero i bytes = lit< tt
bytes-take [] (suc n) i bytes = lit< tt
bytes-take (x ∷ xs) zero i bytes = lit< tt
bytes-take (x ∷ xs) (suc n) zero bytes = bytes 0
bytes-take (x ∷ xs) (suc n) (suc i) bytes = bytes-take xs n i (λ j. bytes (suc j))

-- a list of different bytes that are all known has at most 256
bytes_at_most : (xs : List ℕ) → IsDistinct nat_eq xs → ((q : ℕ) → stands q xs ≡ true → q < 256) → length xs ≤ 256
bytes_at_most xs h below = length-le_from_distinct_below xs 256 h (λ q e. below q (sym (stands-turned q xs) ∙ e))

-- a number that stands already adds nothing
pub distinct-present : (xs : List ℕ) (x : ℕ) → IsDistinct nat_eq xs → stands x xs ≡ true → xs ≡ distinct (xs ++ x ∷ [])
distinct-present xs x h there = rw (distinct-snoc xs x, there) (sym (distinct-same xs h))

-- a new number comes at the end
pub distinct-absent :
    (xs : List ℕ) (x : ℕ) → IsDistinct nat_eq xs → stands x xs ≡ false → xs ++ x ∷ [] ≡ distinct (xs ++ x ∷ [])
distinct-absent xs x h absent = rw (distinct-snoc xs x, absent) (ap (λ ys. ys ++ x ∷ []) (sym (distinct-same xs h)))

-- where a byte is new, fewer than 256 different ones are there
pub room_for_byte :
    (xs : List ℕ) (n x : ℕ) → ((i : ℕ) → get_or xs i 0 < 256) → length xs ≡ 256 → n ≤ 256 → x < 256
    → IsDistinct nat_eq (take n xs) → stands x (take n xs) ≡ false → n < 256
room_for_byte xs n x bytes size at_most byte h absent =
    let grown : IsDistinct nat_eq (take n xs ++ x ∷ []) =
    subst (IsDistinct nat_eq) (sym (distinct-absent (take n xs) x h absent))
    (IsDistinct-distinct (take n xs ++ x ∷ [])) in
    let few = bytes_at_most (take n xs ++ x ∷ []) grown (below_of (take n xs) (λ i. bytes-take xs n i bytes)) in
    omega (arith, few, length-append (take n xs) (x ∷ []), length-take n xs)
  where
    below_of : (ys : List ℕ) → ((i : ℕ) → get_or ys i 0 < 256) → (q : ℕ) → stands q (ys ++ x ∷ []) ≡ true → q < 256
    below_of ys known q there = by_test (stands q ys) refl (rw list_any-append at there)
      where
        by_test : (b : Bool) → stands q ys ≡ b → (stands q ys || ((x == q) || false)) ≡ true → q < 256
        by_test true e h = below_where_stands q ys known e
        by_test false e h = grind (arith, nat_tests)

-- a loop over pads: the next one has come, and the others bring what is missing
pub added-step :
    (before after pads all : List ℕ) (i p d : ℕ) → i < length pads → p ≡ get_or pads i d
    → after ≡ distinct (before ++ p ∷ [])
    → distinct (before ++ drop i pads) ≡ all → distinct (after ++ drop (i + 1) pads) ≡ all
added-step before after pads all i p d h e grown left =
    let next : drop i pads ≡ p ∷ drop (i + 1) pads =
    rw (add-one, drop-cons pads i d) (ap (λ x. x ∷ drop (suc i) pads) (sym e)) in
    ap (λ xs. distinct (xs ++ drop (i + 1) pads)) grown ∙ distinct-append (before ++ p ∷ []) (drop (i + 1) pads)
    ∙ ap distinct (append_assoc before (p ∷ []) (drop (i + 1) pads)) ∙ ap (λ xs. distinct (before ++ xs)) (sym next)
    ∙ left

-- what has come differs
pub added-differs : (xs after : List ℕ) → after ≡ distinct xs → IsDistinct nat_eq after
added-differs xs after grown = subst (IsDistinct nat_eq) (sym grown) (IsDistinct-distinct xs)

pub IsDistinct-none : (xs : List ℕ) → IsDistinct nat_eq (take 0 xs)
unfolding IsDistinct
IsDistinct-none xs = tt

-- when no pads are left, all are there
pub added-end :
    (before pads all : List ℕ) (n : ℕ) → IsDistinct nat_eq before → length pads ≤ n
    → distinct (before ++ drop n pads) ≡ all → before ≡ all
added-end before pads all n h past left =
    sym (distinct-same before h) ∙ ap distinct (sym (append_nil before))
    ∙ ap (λ xs. distinct (before ++ xs)) (sym (drop_all n pads past)) ∙ left
