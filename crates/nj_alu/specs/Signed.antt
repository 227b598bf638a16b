-- Bytes as signed numbers, for the laws of the overflow flag (two's complement).
use Rattle.std.specs.Prelude.{ℕ, Bool, ℤ, pos, ◌-ℤ◌, ◌+ℤ◌, ◌≤ℤ◌, nat_lt, if◌then◌else◌}
use Rattle.nj_alu.specs.Bits.{bit}

-- a byte as a number from -128 to 127
abbrev pub signed : ℕ → ℤ
signed value = if nat_lt value 128 then pos value else (pos value -ℤ pos 256)

-- a number that a signed byte holds
pub record FitsSignedByte (z : ℤ) : Type 0 where
  pub least : (pos 0 -ℤ pos 128) ≤ℤ z
  pub most : z ≤ℤ pos 127

-- what ADC adds, as signed numbers
abbrev pub signed_sum : ℕ → ℕ → Bool → ℤ
signed_sum a m carry = signed a +ℤ signed m +ℤ pos (bit carry)
