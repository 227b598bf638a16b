-- Sums, differences and comparisons of bytes (NMOS 6502 instruction set: ADC, SBC, CMP).
use Rattle.std.specs.Prelude.{ℕ, ◌+◌, ◌-◌, ◌%◌, Bool, ◌&&◌, ◌==◌, nat_lt, nat_le}
use Rattle.nj_alu.specs.Bits.{bit, is_negative, differ}
use Rattle.nj_alu.specs.declared.arithmetic.Sum.{Sum}
use Rattle.nj_alu.specs.declared.arithmetic.Flags3.{Flags3}

-- bit 7 of (a xor r) and (m xor r)
abbrev pub overflows : ℕ → ℕ → ℕ → Bool
overflows a m r = differ (is_negative a) (is_negative r) && differ (is_negative m) (is_negative r)

-- ADC: a + m + carry as eight bits, its ninth bit, and the overflow of the signs
unfoldable pub sum_of : ℕ → ℕ → Bool → Sum
sum_of a m carry =
    let r = a + m + bit carry in
    record { value = r % 256; carry = nat_lt 255 r; overflow = overflows a m (r % 256) }

-- SBC is ADC of the byte with every bit turned
unfoldable pub difference_of : ℕ → ℕ → Bool → Sum
difference_of a m carry = sum_of a (255 - m) carry

-- CMP: carry where the register is at least the byte, zero and negative of the difference mod 256
unfoldable pub comparison_of : ℕ → ℕ → Flags3
comparison_of a m =
    let difference = (a + 256 - m) % 256 in
    record { carry = nat_le m a; zero = difference == 0; negative = is_negative difference }
