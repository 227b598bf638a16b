-- Shifts and rotations of a byte (NMOS 6502 instruction set: ASL, LSR, ROL, ROR; NESdev Wiki, "CPU unofficial opcodes":
-- ARR).
use Rattle.std.specs.Prelude.{ℕ, ◌+◌, ◌*◌, ◌/◌, ◌%◌, Bool, bit_and}
use Rattle.nj_alu.specs.Bits.{bit, has_bit, differ}
use Rattle.nj_alu.specs.declared.arithmetic.Sum.{Sum}
use Rattle.nj_alu.specs.declared.shifts.Shifted.{Shifted}

-- ASL: twice the byte as eight bits; bit 7 goes out
unfoldable pub shifted_left : ℕ → Shifted
shifted_left v = record { value = v * 2 % 256; carry = has_bit 128 v }

-- LSR: half the byte; bit 0 goes out
unfoldable pub shifted_right : ℕ → Shifted
shifted_right v = record { value = v / 2; carry = has_bit 1 v }

-- ROL: ASL with the carry at bit 0
unfoldable pub rotated_left : ℕ → Bool → Shifted
rotated_left v carry = record { value = (v * 2 + bit carry) % 256; carry = has_bit 128 v }

-- ROR: LSR with the carry at bit 7
unfoldable pub rotated_right : ℕ → Bool → Shifted
rotated_right v carry = record { value = v / 2 + bit carry * 128; carry = has_bit 1 v }

-- ARR: ROR of the AND; the carry is bit 6 of the result, and the overflow bit 6 xor bit 5
unfoldable pub and_rotated : ℕ → ℕ → Bool → Sum
and_rotated a m carry =
    let r = (rotated_right (bit_and a m) carry).value in
    record { value = r; carry = has_bit 64 r; overflow = differ (has_bit 64 r) (has_bit 32 r) }
