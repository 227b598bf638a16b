-- A number with one bit set is a power of two.
use Rattle.std.proofs.Common.{◌≡◌, ℕ, zero, suc, ◌+◌, ◌*◌, ◌/◌, ◌%◌, ◌^◌, ◌≤◌, true, ap, ◌∙◌, arith, eq-eqb}
use Rattle.std.specs.Int.{is_power_of_two, IsPowerOfTwo}
use Rattle.std.specs.Int.RustNames.{count_ones}
use Rattle.std.proofs.lemmas.Nat.{zero_from_ones, ones_le_self, pow_pos}
use Rattle.std.proofs.Math.Nat.{two-pow-succ}
use Rattle.std.proofs.lemmas.Bool.{eqb-true}
use lib.Count.{ones_step, ones_cat}
use mathlib.Core.Logic.{dite}
use native.Mathlib.Decide.{ℕ_discrete}

one_bit : (fuel n : ℕ) → n ≤ fuel → count_ones n ≡ 1 → IsPowerOfTwo n
one_bit zero n le e = let l : count_ones n ≤ n = ones_le_self n in absurd (omega arith)
one_bit (suc fuel) n le e = let step : count_ones n ≡ n % 2 + count_ones (n / 2) = ones_step n in
    let l : count_ones n ≤ n = ones_le_self n in dite (ℕ_discrete (n % 2) 0)
    (λ even. let r = one_bit fuel (n / 2) (omega arith) (omega arith) in let half : n / 2 ≡ 2 ^ r.0 = r.1 in
    let two : 2 ^ suc r.0 ≡ 2 ^ r.0 + 2 ^ r.0 = two-pow-succ r.0 in
    (suc r.0, omega arith))
    (λ odd. let rest : count_ones (n / 2) ≡ 0 = omega arith in let half : n / 2 ≡ 0 = zero_from_ones (n / 2) rest in
    (0, omega arith))

pub from_bits : (n : ℕ) → is_power_of_two n ≡ true → IsPowerOfTwo n
from_bits n e = one_bit n n (omega arith) (eqb-true (count_ones n) 1 e)

pub to_bits : (n : ℕ) → IsPowerOfTwo n → is_power_of_two n ≡ true
to_bits n p = let k : ℕ = p.0 in
    let cat : count_ones (1 * 2 ^ k + 0) ≡ count_ones 1 + count_ones 0 = ones_cat k 1 0 (pow_pos k) in
    let same : n ≡ 1 * 2 ^ k + 0 = let e : n ≡ 2 ^ k = p.1 in omega arith in
    let none : count_ones 0 ≤ 0 = ones_le_self 0 in
    let step : count_ones 1 ≡ 1 % 2 + count_ones (1 / 2) = ones_step 1 in
    let one : count_ones n ≡ 1 = ap count_ones same
    ∙ (cat ∙ (let z : count_ones 1 + count_ones 0 ≡ 1 = omega arith in z)) in eq-eqb (count_ones n) 1 one
