-- The overflow flag is clear where the signed sum fits.
use Rattle.std.proofs.Common.{◌≡◌, ℕ, ◌+◌, ◌%◌, ◌<◌, ◌≤◌, Bool, true, false, ◌&&◌, arith}
use Rattle.std.specs.Prelude.{pos, ◌-ℤ◌, ◌+ℤ◌, ◌≤ℤ◌}
use Rattle.std.proofs.lemmas.Bool.Decides.{nat_tests}
use Rattle.std.proofs.lemmas.Int.{ints}
use Rattle.nj_alu.specs.Bits.{bit, is_negative, differ}
use Rattle.nj_alu.specs.Arithmetic.{sum_of}
use Rattle.nj_alu.specs.Signed.{signed, FitsSignedByte, signed_sum}

-- the flag, of the three numbers
abbrev pub turned : ℕ → ℕ → ℕ → Bool
turned a m c = differ (is_negative a) (is_negative ((a + m + c) % 256)) && differ (is_negative m) (is_negative ((a + m + c) % 256))

-- the sum's sign tells whether it left the range
least : (a m c : ℕ) → c ≤ 1 → a < 256 → m < 256 → turned a m c ≡ false → (pos 0 -ℤ pos 128) ≤ℤ (signed a +ℤ signed m +ℤ pos c)
least a m c hc ha hm e = grind (arith, nat_tests, ints)

most : (a m c : ℕ) → c ≤ 1 → a < 256 → m < 256 → turned a m c ≡ false → (signed a +ℤ signed m +ℤ pos c) ≤ℤ pos 127
most a m c hc ha hm e = grind (arith, nat_tests, ints)

clear : (a m c : ℕ) → c ≤ 1 → a < 256 → m < 256 → (pos 0 -ℤ pos 128) ≤ℤ (signed a +ℤ signed m +ℤ pos c) → (signed a +ℤ signed m +ℤ pos c) ≤ℤ pos 127 → turned a m c ≡ false
clear a m c hc ha hm low high = grind (arith, nat_tests, ints)

bit-le : (b : Bool) → bit b ≤ 1
bit-le false = omega arith
bit-le true = omega arith

-- with the flag clear the signed sum fits
pub fits : (a m : ℕ) (carry : Bool) → a < 256 → m < 256 → (sum_of a m carry).overflow ≡ false → FitsSignedByte (signed_sum a m carry)
unfolding sum_of
fits a m carry ha hm e =
    record { least = least a m (bit carry) (bit-le carry) ha hm e; most = most a m (bit carry) (bit-le carry) ha hm e }

-- where the signed sum fits the flag is clear
pub only_then : (a m : ℕ) (carry : Bool) → a < 256 → m < 256 → FitsSignedByte (signed_sum a m carry) → (sum_of a m carry).overflow ≡ false
unfolding sum_of
only_then a m carry ha hm f = clear a m (bit carry) (bit-le carry) ha hm f.least f.most
