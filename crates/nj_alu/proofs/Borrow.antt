-- SBC takes the byte and the borrow away.
use Rattle.std.proofs.Common.{◌≡◌, ℕ, ◌+◌, ◌-◌, ◌%◌, ◌<◌, Bool, true, false, not, arith}
use Rattle.std.specs.Prelude.{nat_le}
use Rattle.std.proofs.lemmas.Bool.Decides.{nat_tests}
use Rattle.nj_alu.specs.Bits.{bit}
use Rattle.nj_alu.specs.Arithmetic.{sum_of, difference_of}

pub value : (a m : ℕ) (carry : Bool) → a < 256 → m < 256 → (difference_of a m carry).value ≡ (a + 256 - m - bit (not carry)) % 256
unfolding sum_of difference_of
value a m false ha hm = omega arith
value a m true ha hm = omega arith

pub carry : (a m : ℕ) (c : Bool) → a < 256 → m < 256 → (difference_of a m c).carry ≡ nat_le (m + bit (not c)) a
unfolding sum_of difference_of
carry a m false ha hm = grind (arith, nat_tests)
carry a m true ha hm = grind (arith, nat_tests)
