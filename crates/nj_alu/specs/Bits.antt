-- Flags and bits as numbers.
use Rattle.std.specs.Prelude.{ℕ, ◌/◌, ◌%◌, Bool, true, false, ◌==◌, nat_le}

-- a flag as a bit
abbrev pub bit : Bool → ℕ
bit false = 0
bit true = 1

-- bit 7 of a byte, which NMOS 6502 tables call its sign
abbrev pub is_negative : ℕ → Bool
is_negative value = nat_le 128 value

-- the bit of this weight: 1, 2, 4 and so on
abbrev pub has_bit : ℕ → ℕ → Bool
has_bit weight value = (value / weight % 2) == 1

-- two flags that are not the same
abbrev pub differ : Bool → Bool → Bool
differ false b = b
differ true false = true
differ true true = false
