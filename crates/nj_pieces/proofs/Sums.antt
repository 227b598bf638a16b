-- Sums over lists and ranges.
use Rattle.std.proofs.Common.{◌≡◌, ◌≢◌, ℕ, zero, suc, ◌+◌, ◌%◌, ◌==◌, ◌<◌, ◌≤◌, ◌⊎◌, inl, inr, ⊎_elim, Bool, true, false, List, [], ◌∷◌, length, get_or, sym, refl, ap, ◌∙◌, arith, ltb, if◌then◌else◌}
use mathlib.Core.Logic.{dite}
use native.Mathlib.Decide.{ℕ_discrete}
use Rattle.std.specs.List.{sum_by, range_with_len}
use Rattle.std.proofs.Math.Nat.{mod-lt}
use Rattle.std.proofs.lemmas.Bool.{ltb-true, ltb-false, eq-eqb}
use Rattle.std.proofs.lemmas.Bool.Decides.{eqb_tells}
use Rattle.std.proofs.lemmas.List.Sums.{sum_by-cons, sum_by-append, sum_by_push}
use Rattle.nj_pieces.specs.Dealing.{dealt_to, times, once_below}
use Rattle.nj_pieces.proofs.Dealings.{range_more, dealt_more}
use Rattle.nj_pieces.proofs.Seatings.{none_in_all}

-- sums of terms that are equal, and of terms that are two together
pub sum_same : {X : Type 0} (f g : X → ℕ) (xs : List X)
    → ((k : ℕ) (d : X) → k < length xs → f (get_or xs k d) ≡ g (get_or xs k d)) → sum_by f xs ≡ sum_by g xs
sum_same f g [] each = refl
sum_same f g (x ∷ xs) each =
    let here = each 0 x (omega arith) in
    let rest = sum_same f g xs (λ k d within. each (suc k) d (omega arith)) in
    omega (arith, sum_by-cons f x xs, sum_by-cons g x xs)

sum_add : (e f g : ℕ → ℕ) (xs : List ℕ) → ((k : ℕ) → e k ≡ f k + g k) → sum_by e xs ≡ sum_by f xs + sum_by g xs
sum_add e f g [] each = refl
sum_add e f g (x ∷ xs) each =
    let here = each x in
    let rest = sum_add e f g xs each in
    omega (arith, sum_by-cons e x xs, sum_by-cons f x xs, sum_by-cons g x xs)

-- a sum over a list whose terms depend on their places
pub sum_by_place : {X : Type 0} (f : X → ℕ) (g : ℕ → ℕ) (xs : List X) (a : ℕ)
    → ((k : ℕ) (d : X) → k < length xs → f (get_or xs k d) ≡ g (a + k))
    → sum_by f xs ≡ sum_by g (range_with_len a (length xs))
sum_by_place f g [] a each = refl
sum_by_place f g (x ∷ xs) a each =
    let first : f x ≡ g a = each 0 x (omega arith) ∙ ap g (let e : a + 0 ≡ a = omega arith in e) in
    let rest = sum_by_place f g xs (a + 1) (λ k d within. each (suc k) d (omega arith)
    ∙ ap g (let e : a + suc k ≡ a + 1 + k = omega arith in e)) in
    omega (arith, sum_by-cons f x xs, sum_by-cons g a (range_with_len (a + 1) (length xs)))

-- terms that are 0 but for one number, over a range without it and over one with it
none_here : (f : ℕ → ℕ) (m a n : ℕ) → ((k : ℕ) → k ≢ m → f k ≡ 0) → (m < a) ⊎ (a + n ≤ m)
    → sum_by f (range_with_len a n) ≡ 0
none_here f m a zero off side = refl
none_here f m a (suc n) off side =
    let apart : a ≢ m = ⊎_elim (λ below e. absurd (omega arith)) (λ above e. absurd (omega arith)) side in
    let here = off a apart in
    let next : (m < a + 1) ⊎ (a + 1 + n ≤ m) = ⊎_elim (λ below. inl (omega arith)) (λ above. inr (omega arith)) side in
    let rest = none_here f m (a + 1) n off next in
    omega (arith, sum_by-cons f a (range_with_len (a + 1) n))

one_here : (f : ℕ → ℕ) (m a n : ℕ) → ((k : ℕ) → k ≢ m → f k ≡ 0) → a ≤ m → m < a + n
    → sum_by f (range_with_len a n) ≡ f m
one_here f m a zero off low high = absurd (omega arith)
one_here f m a (suc n) off low high = dite (ℕ_discrete a m)
    (λ is.
    let rest = none_here f m (a + 1) n off (inl (omega arith)) in
    let same : f a ≡ f m = ap f is in
    omega (arith, sum_by-cons f a (range_with_len (a + 1) n)))
    (λ other.
    let rest = one_here f m (a + 1) n off (omega arith) (omega arith) in
    let none = off a other in
    omega (arith, sum_by-cons f a (range_with_len (a + 1) n)))

-- what an equation, or an inequation, says of a choice by it
is_chosen : (a b c : ℕ) → a ≡ b → (if a == b then c else 0) ≡ c
is_chosen a b c same = ap (λ (t : Bool). if t then c else 0) (eq-eqb a b same)

not_chosen : (a b c : ℕ) → a ≢ b → (if a == b then c else 0) ≡ 0
not_chosen a b c other =
    ⊎_elim (λ same. absurd (other same.1)) (λ differs. ap (λ (t : Bool). if t then c else 0) differs.0) (eqb_tells a b)

-- 1 for the piece, and 0 for another
abbrev one_for : ℕ → ℕ → ℕ
one_for piece p = if p == piece then 1 else 0

-- a number below the count stands in the range once, and no other does
pub times-range : (piece count : ℕ) → times piece (range_with_len 0 count) ≡ once_below piece count
times-range piece count = by_test (ltb piece count) refl where
  off : (k : ℕ) → k ≢ piece → one_for piece k ≡ 0
  off k other = not_chosen k piece 1 other

  by_test : (b : Bool) → ltb piece count ≡ b → times piece (range_with_len 0 count) ≡ once_below piece count
  by_test true e =
      one_here (one_for piece) piece 0 count off (omega arith) (let below = ltb-true piece count e in omega arith)
      ∙ is_chosen piece piece 1 refl ∙ sym (ap (λ (b : Bool). if b then 1 else 0) e)
  by_test false e =
      none_here (one_for piece) piece 0 count off (inr (let above = ltb-false piece count e in omega arith))
      ∙ sym (ap (λ (b : Bool). if b then 1 else 0) e)

-- the weight of a piece that may be dealt
one_weight : (h : ℕ → ℕ) (n : ℕ) (b : Bool) → sum_by h (if b then n ∷ [] else []) ≡ (if b then h n else 0)
one_weight h n true = sum_by-cons h n [] ∙ (let e : h n + 0 ≡ h n = omega arith in e)
one_weight h n false = refl

-- the pieces of all workers together are the pieces below the count
pub dealt_all : (h : ℕ → ℕ) (workers count : ℕ) → 0 < workers
    → sum_by (λ k. sum_by h (dealt_to k workers count)) (range_with_len 0 workers) ≡ sum_by h (range_with_len 0 count)
dealt_all h workers zero filled =
    none_in_all (λ k. sum_by h (dealt_to k workers zero)) (range_with_len 0 workers) (λ k d within. refl)
dealt_all h workers (suc n) filled =
    let e : n + 1 ≡ suc n = omega arith in
    let each : (k : ℕ) → sum_by h (dealt_to k workers (suc n)) ≡ sum_by h (dealt_to k workers n) + (if n % workers == k
    then h n else 0) = λ k.
    sym (ap (λ (m : ℕ). sum_by h (dealt_to k workers m)) e) ∙ ap (sum_by h) (dealt_more k workers n)
    ∙ sum_by-append h (dealt_to k workers n) (if n % workers == k then n ∷ [] else [])
    ∙ ap (λ (m : ℕ). sum_by h (dealt_to k workers n) + m) (one_weight h n (n % workers == k)) in
    let sums = sum_add (λ k. sum_by h (dealt_to k workers (suc n))) (λ k. sum_by h (dealt_to k workers n))
    (λ k. if n % workers == k then h n else 0) (range_with_len 0 workers) each in
    let before = dealt_all h workers n filled in
    let small : n % workers < workers = mod-lt n filled in
    let one : sum_by (λ k. if n % workers == k then h n else 0) (range_with_len 0 workers) ≡ h n =
    one_here (λ k. if n % workers == k then h n else 0) (n % workers) 0 workers
    (λ k other. not_chosen (n % workers) k (h n) (λ same. other (sym same))) (omega arith) (omega arith)
    ∙ is_chosen (n % workers) (n % workers) (h n) refl in
    let longer : sum_by h (range_with_len 0 (suc n)) ≡ sum_by h (range_with_len 0 n) + h (0 + n) =
    sym (ap (λ (m : ℕ). sum_by h (range_with_len 0 m)) e) ∙ ap (sum_by h) (range_more 0 n)
    ∙ sum_by_push h (range_with_len 0 n) (0 + n) in
    let last : h (0 + n) ≡ h n = ap h (let z : 0 + n ≡ n = omega arith in z) in
    omega arith
