-- Sums of integers, and how far they can come from 0.
use Rattle.std.proofs.Common.{◌≡◌, ℕ, ◌+◌, ◌*◌, ◌<◌, ◌≤◌, ℤ, pos, negsuc, neg_ℤ, ◌+ℤ◌, ◌*ℤ◌, ◌≤ℤ◌, unsigned_abs, arith, List, map, drop, length, slice_index_or, drop-cons, add-one, ◌^◌, FitsSigned, w64, lit<}
use Rattle.std.proofs.lemmas.Int.{ints, unsigned_abs-mul, fits_signed_mul}
use Rattle.std.proofs.lemmas.Nat.{mul-le}
use Rattle.nj_rules.specs.Rules.{int_sum}

-- what lies between -m and m is at most m away from 0
pub abs_le : (m : ℕ) (z : ℤ) → neg_ℤ (pos m) ≤ℤ z → z ≤ℤ pos m → unsigned_abs z ≤ m
abs_le m (pos n) low high = omega (arith, ints)
abs_le m (negsuc n) low high = omega (arith, ints)

low_of_abs : (m : ℕ) (z : ℤ) → unsigned_abs z ≤ m → neg_ℤ (pos m) ≤ℤ z
low_of_abs m (pos n) h = omega (arith, ints)
low_of_abs m (negsuc n) h = omega (arith, ints)

high_of_abs : (m : ℕ) (z : ℤ) → unsigned_abs z ≤ m → z ≤ℤ pos m
high_of_abs m (pos n) h = omega (arith, ints)
high_of_abs m (negsuc n) h = omega (arith, ints)

-- a sum is no further from 0 than its parts together
pub abs_le-sum : (a b : ℤ) (m n : ℕ) → unsigned_abs a ≤ m → unsigned_abs b ≤ n → unsigned_abs (a +ℤ b) ≤ m + n
abs_le-sum a b m n p q =
    let a_low = low_of_abs m a p in
    let a_high = high_of_abs m a p in
    let b_low = low_of_abs n b q in
    let b_high = high_of_abs n b q in
    abs_le (m + n) (a +ℤ b) (omega (arith, ints)) (omega (arith, ints))

-- a product is no further from 0 than the product of the bounds
pub abs_le-product : (a b : ℤ) (m n : ℕ) → unsigned_abs a ≤ m → unsigned_abs b ≤ n → unsigned_abs (a *ℤ b) ≤ m * n
abs_le-product a b m n p q = rw unsigned_abs-mul (mul-le (unsigned_abs a) (unsigned_abs b) m n p q)

-- the next summand leaves the sum of those that are left
pub int_sum-drop :
    {X : Type 0} (f : X → ℤ) (xs : List X) (i : ℕ) (d : X) (a w : ℤ) → i < length xs → w ≡ f (slice_index_or xs i d) →
    a +ℤ int_sum (map f (drop i xs)) ≡ (a +ℤ w) +ℤ int_sum (map f (drop (i + 1) xs))
int_sum-drop f xs i d a w h e =
    rw (add-one, drop-cons xs i d, ← e) (omega (arith, ints))

-- the bounds of sums and products, for the search
pub ruleset bounds = (abs_le, abs_le-sum, abs_le-product)

-- the worth of a weight fits
pub worth_fits : (w v : ℤ) → unsigned_abs w ≤ 2 ^ 20 → neg_ℤ (pos 32768) ≤ℤ v → v ≤ℤ pos 65535 → FitsSigned w64 (w *ℤ v)
worth_fits w v small low high =
    fits_signed_mul w64 w v (2 ^ 20) 65535 small (abs_le 65535 v (omega (arith, ints)) high) (lit< tt)

-- the worth of a weight is at most 2^36 away from 0
pub abs_le-worth :
    (w v : ℤ) → unsigned_abs w ≤ 2 ^ 20 → neg_ℤ (pos 32768) ≤ℤ v → v ≤ℤ pos 65535 → unsigned_abs (w *ℤ v) ≤ 2 ^ 36
abs_le-worth w v small low high =
    let product = abs_le-product w v (2 ^ 20) 65535 small (abs_le 65535 v (omega (arith, ints)) high) in
    omega arith
