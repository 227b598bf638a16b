-- The flag byte N V 1 B D I Z C (NESdev Wiki, "Status flags").
use Rattle.std.specs.Prelude.{ℕ, ◌+◌, ◌*◌, Bool}
use Rattle.nj_alu.specs.Bits.{bit, has_bit}
use Rattle.nj_alu.specs.declared.flags.Flags.{Flags}

-- the byte that is pushed, bit 5 set and bit 4 as told
unfoldable pub flag_byte : Flags → Bool → ℕ
flag_byte f brk =
    bit f.n * 128 + bit f.v * 64 + 32 + bit brk * 16 + bit f.d * 8 + bit f.i * 4 + bit f.z * 2 + bit f.c

-- the flags of a pulled byte, whose bits 4 and 5 say nothing
unfoldable pub flags_of_byte : ℕ → Flags
flags_of_byte p =
    record {
      n = has_bit 128 p;
      v = has_bit 64 p;
      d = has_bit 8 p;
      i = has_bit 4 p;
      z = has_bit 2 p;
      c = has_bit 1 p;
    }
