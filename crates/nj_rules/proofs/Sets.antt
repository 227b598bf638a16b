-- Sets of rules, kept as the bits of a number.
use Rattle.std.proofs.Common.{◌≡◌, ℕ, zero, suc, ◌^◌, ◌%◌, ◌*◌, ◌<◌, ◌≤◌, ◌≢◌, Bool, true, false, ◌||◌, ◌==◌, max, refl, sym, ◌∙◌, ap, arith, bit_or, if◌then◌else◌, lit<}
use Rattle.std.specs.Int.{bit_at}
use Rattle.std.specs.Int.Bits.{or_add_and}
use Rattle.std.proofs.lemmas.Bool.Decides.{nat_tests}
use Rattle.std.proofs.lemmas.Nat.{one_shl}
use Rattle.std.proofs.Math.Nat.{pow-suc}
use Rattle.std.proofs.lemmas.Nat.Bits.{bit_at_or, bit_at-lt, bit_at-pow_same, bit_at-pow_other, bit_at-zero, bit_at_above, same_from_bits_below}
use Rattle.nj_rules.specs.Rules.{is_in, set_below}

pub or_false : (b : Bool) → (b || false) ≡ b
or_false true = refl
or_false false = refl

or_true : (b : Bool) → (b || true) ≡ true
or_true true = refl
or_true false = refl

max_is_one : (x y : ℕ) → x < 2 → y < 2 → (max x y == 1) ≡ ((x == 1) || (y == 1))
max_is_one x y p q = grind (arith, nat_tests)

-- a number is in the union where it is in one of the two
pub is_in-or : (a b j : ℕ) → is_in (bit_or a b) j ≡ (is_in a j || is_in b j)
unfolding is_in
is_in-or a b j = rw bit_at_or (max_is_one (bit_at a j) (bit_at b j) (bit_at-lt a j) (bit_at-lt b j))

one_by_test : (b : Bool) (k j : ℕ) → (k == j) ≡ b → (bit_at (2 ^ k) j == 1) ≡ b
one_by_test true k j h =
    let same : j ≡ k = grind (arith, nat_tests) in
    rw (same, bit_at-pow_same k) refl
one_by_test false k j h =
    let other : j ≢ k = grind (arith, nat_tests) in
    rw (bit_at-pow_other k j other) refl

-- the set of one number
pub is_in-one : (k j : ℕ) → is_in (2 ^ k) j ≡ (k == j)
unfolding is_in
is_in-one k j = one_by_test (k == j) k j refl

-- the set with one more number, as the code computes it
pub is_in-with : (set k j : ℕ) → k < 128 → is_in (bit_or set (1 * 2 ^ k % 2 ^ 128)) j ≡ (is_in set j || (k == j))
is_in-with set k j h = rw (one_shl k 128 h, is_in-or, is_in-one) refl

pub is_in-zero : (j : ℕ) → is_in 0 j ≡ false
unfolding is_in
is_in-zero j = rw bit_at-zero refl

pub set_below-lt : (n : ℕ) (p : ℕ → Bool) → set_below n p < 2 ^ n
unfolding set_below
set_below-lt zero p = lit< tt
set_below-lt (suc n) p = by_test (set_below-lt n p) (p n)
  where
    by_test :
        set_below n p < 2 ^ n → (b : Bool) → (if b then bit_or (set_below n p) (2 ^ n) else set_below n p) < 2 ^ suc n
    by_test h true = rw pow-suc (omega (arith, or_add_and (set_below n p) (2 ^ n)))
    by_test h false = rw pow-suc (omega arith)

-- a set below 2^n has no number from n on
pub is_in-above : (set n j : ℕ) → set < 2 ^ n → n ≤ j → is_in set j ≡ false
unfolding is_in
is_in-above set n j h at_least = rw (bit_at_above set n j h at_least) refl

-- a number below n is in the set where it passes the test
pub is_in-set_below : (n : ℕ) (p : ℕ → Bool) (j : ℕ) → j < n → is_in (set_below n p) j ≡ p j
unfolding set_below
is_in-set_below zero p j h = absurd (omega arith)
is_in-set_below (suc n) p j h = by_tests (is_in-set_below n p j) (p n) refl (n == j) refl
  where
    above : is_in (set_below n p) n ≡ false
    above = is_in-above (set_below n p) n n (set_below-lt n p) (omega arith)

    by_tests :
        (j < n → is_in (set_below n p) j ≡ p j) → (b : Bool) → p n ≡ b → (here : Bool) → (n == j) ≡ here →
        is_in (if b then bit_or (set_below n p) (2 ^ n) else set_below n p) j ≡ p j
    by_tests smaller true e true same =
        let same_number : n ≡ j = grind (arith, nat_tests) in
        rw (is_in-or, is_in-one, same) (or_true (is_in (set_below n p) j) ∙ sym e ∙ ap p same_number)
    by_tests smaller true e false other =
        let below : j < n = grind (arith, nat_tests) in
        rw (is_in-or, is_in-one, other, smaller below) (or_false (p j))
    by_tests smaller false e true same =
        let same_number : n ≡ j = grind (arith, nat_tests) in
        rw (← same_number) (above ∙ sym e)
    by_tests smaller false e false other =
        let below : j < n = grind (arith, nat_tests) in
        smaller below

-- two sets of numbers below w with the same numbers are equal
pub same_set : (w a b : ℕ) → a < 2 ^ w → b < 2 ^ w → ((j : ℕ) → j < w → is_in a j ≡ is_in b j) → a ≡ b
unfolding is_in
same_set w a b p q h =
    same_from_bits_below w a b p q
    (λ j below. same_bit (bit_at a j) (bit_at b j) (bit_at-lt a j) (bit_at-lt b j) (h j below))
  where
    same_bit : (x y : ℕ) → x < 2 → y < 2 → (x == 1) ≡ (y == 1) → x ≡ y
    same_bit x y p q e = grind (arith, nat_tests)
