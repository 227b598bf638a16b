-- What an operation computes (NMOS 6502 instruction set; NESdev Wiki, "CPU unofficial opcodes", for the operations that
-- unofficial opcodes have beside it).
use Rattle.std.specs.Prelude.{ℕ, ◌+◌, ◌-◌, ◌%◌, Bool, true, false, not, ◌==◌, bit_and, bit_or, bit_xor}
use Rattle.nj_alu.specs.declared.arithmetic.Sum.{Sum}
use Rattle.nj_alu.specs.declared.arithmetic.Flags3.{Flags3}
use Rattle.nj_alu.specs.declared.flags.Flags.{Flags}
use Rattle.nj_alu.specs.Bits.{is_negative, has_bit}
use Rattle.nj_alu.specs.Arithmetic.{sum_of, difference_of, comparison_of}
use Rattle.nj_alu.specs.Shifts.{shifted_left, shifted_right, rotated_left, rotated_right, and_rotated}
use Rattle.nj_isa.specs.declared.operations.Op.{Op}
use Rattle.nj_isa.specs.declared.operations.Op.TheVariants.{Ora, And, Eor, Adc, Sta, Lda, Cmp, Sbc, Ldx, Ldy, Stx, Sty, Cpx, Cpy, Bit, Inc, Dec, Asl, Rol, Lsr, Ror, Bpl, Bmi, Bvc, Bvs, Bcc, Bcs, Bne, Beq, Pha, Clc, Sec, Cli, Sei, Clv, Cld, Sed, Dey, Iny, Inx, Dex, Txa, Tya, Txs, Tay, Tax, Tsx, Nop, Slo, Rla, Sre, Rra, Dcp, Isc, Lax, Sax, Anc, Alr, Arr, Sbx}
use Rattle.nj_isa.specs.declared.modes.Mode.{Mode}
use Rattle.nj_isa.specs.declared.modes.Mode.TheVariants.{Accumulator}
use Rattle.nj_cpu.specs.declared.state.Cpu.{Cpu}

-- the byte that a store or a push of A puts
unfoldable pub stored_by : Op → ℕ → ℕ → ℕ → ℕ
stored_by Sta a x y = a
stored_by Pha a x y = a
stored_by Stx a x y = x
stored_by Sty a x y = y
stored_by Sax a x y = bit_and a x
stored_by _ a x y = 0

-- the byte that a shift, a rotation or a count makes of a byte
unfoldable pub changed_by : Op → Bool → ℕ → ℕ
changed_by Asl carry value = (shifted_left value).value
changed_by Lsr carry value = (shifted_right value).value
changed_by Rol carry value = (rotated_left value carry).value
changed_by Ror carry value = (rotated_right value carry).value
changed_by Inc carry value = (value + 1) % 256
changed_by Dec carry value = (value + 255) % 256
changed_by Slo carry value = (shifted_left value).value
changed_by Rla carry value = (rotated_left value carry).value
changed_by Sre carry value = (shifted_right value).value
changed_by Rra carry value = (rotated_right value carry).value
changed_by Dcp carry value = (value + 255) % 256
changed_by Isc carry value = (value + 1) % 256
changed_by _ carry value = value

-- the carry after it
unfoldable pub carry_by : Op → Bool → ℕ → Bool
carry_by Asl carry value = (shifted_left value).carry
carry_by Lsr carry value = (shifted_right value).carry
carry_by Rol carry value = (rotated_left value carry).carry
carry_by Ror carry value = (rotated_right value carry).carry
carry_by _ carry value = carry

-- the condition of a branch
unfoldable pub is_taken : Op → Flags → Bool
is_taken Bpl f = not f.n
is_taken Bmi f = f.n
is_taken Bvc f = not f.v
is_taken Bvs f = f.v
is_taken Bcc f = not f.c
is_taken Bcs f = f.c
is_taken Bne f = not f.z
is_taken Beq f = f.z
is_taken _ f = false

-- Z and N of a result
abbrev pub with_result : ℕ → Flags → Flags
with_result value f = record f { z = value == 0; n = is_negative value }

-- a register takes a value, and Z and N are of it
abbrev pub in_a : ℕ → Cpu → Cpu
in_a value cpu = record cpu { a = value; flags = with_result value cpu.flags }

-- the same of X
abbrev pub in_x : ℕ → Cpu → Cpu
in_x value cpu = record cpu { x = value; flags = with_result value cpu.flags }

-- the same of Y
abbrev pub in_y : ℕ → Cpu → Cpu
in_y value cpu = record cpu { y = value; flags = with_result value cpu.flags }

-- A takes a sum: Z and N of it, C and V as the sum says
abbrev pub with_sum : Sum → Cpu → Cpu
with_sum sum cpu =
    record cpu { a = sum.value; flags = record (with_result sum.value cpu.flags) { c = sum.carry; v = sum.overflow } }

-- a comparison changes C, Z and N alone
abbrev pub compared : Flags3 → Cpu → Cpu
compared result cpu =
    record cpu { flags = record cpu.flags { c = result.carry; z = result.zero; n = result.negative } }

-- flags of a byte that an operation changed in memory
abbrev pub with_changed : Op → ℕ → Cpu → Cpu
with_changed op value cpu =
    record cpu {
      flags =
          record (with_result (changed_by op cpu.flags.c value) cpu.flags) { c = carry_by op cpu.flags.c value };
    }

-- the same of A, which takes the byte
abbrev pub a_changed : Op → Cpu → Cpu
a_changed op cpu = record (with_changed op cpu.a cpu) { a = changed_by op cpu.flags.c cpu.a }

-- a shift or a rotation, of A or of a byte in memory
abbrev pub shifted : Op → Mode → ℕ → Cpu → Cpu
shifted op Accumulator value cpu = a_changed op cpu
shifted op _ value cpu = with_changed op value cpu

-- BIT: Z of A and the byte, N and V are its bits 7 and 6
abbrev pub tested : ℕ → Cpu → Cpu
tested value cpu =
    record cpu {
      flags =
          record cpu.flags { z = bit_and cpu.a value == 0; n = is_negative value; v = has_bit 64 value };
    }

-- AND of A and a byte
abbrev pub and_a : ℕ → Cpu → Cpu
and_a value cpu = in_a (bit_and cpu.a value) cpu

-- ORA
abbrev pub or_a : ℕ → Cpu → Cpu
or_a value cpu = in_a (bit_or cpu.a value) cpu

-- EOR
abbrev pub xor_a : ℕ → Cpu → Cpu
xor_a value cpu = in_a (bit_xor cpu.a value) cpu

-- ADC
abbrev pub add_to_a : ℕ → Cpu → Cpu
add_to_a value cpu = with_sum (sum_of cpu.a value cpu.flags.c) cpu

-- SBC
abbrev pub take_from_a : ℕ → Cpu → Cpu
take_from_a value cpu = with_sum (difference_of cpu.a value cpu.flags.c) cpu

-- CMP
abbrev pub compare_a : ℕ → Cpu → Cpu
compare_a value cpu = compared (comparison_of cpu.a value) cpu

-- the flags of an operation on memory, and then another on A and the byte that it made
abbrev pub and_then : Op → (ℕ → Cpu → Cpu) → ℕ → Cpu → Cpu
and_then op next value cpu = next (changed_by op cpu.flags.c value) (with_changed op value cpu)

-- the operations that unofficial opcodes have: ANC is AND with bit 7 for the carry, ALR is AND and LSR of A, ARR is AND
-- and ROR of A with flags of its own, SBX takes the byte from A AND X without a borrow and gives it to X
unfoldable pub joined : Op → ℕ → Cpu → Cpu
joined Slo value cpu = and_then Asl or_a value cpu
joined Rla value cpu = and_then Rol and_a value cpu
joined Sre value cpu = and_then Lsr xor_a value cpu
joined Rra value cpu = and_then Ror add_to_a value cpu
joined Dcp value cpu = and_then Dec compare_a value cpu
joined Isc value cpu = and_then Inc take_from_a value cpu
joined Lax value cpu = record (in_a value cpu) { x = value }
joined Anc value cpu =
    record (and_a value cpu) { flags = record (and_a value cpu).flags { c = is_negative (bit_and cpu.a value) } }
joined Alr value cpu = a_changed Lsr (and_a value cpu)
joined Arr value cpu = with_sum (and_rotated cpu.a value cpu.flags.c) cpu
joined Sbx value cpu =
    record (compared (comparison_of (bit_and cpu.a cpu.x) value) cpu) { x = (bit_and cpu.a cpu.x + 256 - value) % 256 }
joined _ value cpu = cpu

-- the processor after an operation on the byte that its mode gave
unfoldable pub done : Op → Mode → ℕ → Cpu → Cpu
done Lda mode value cpu = in_a value cpu
done Ldx mode value cpu = in_x value cpu
done Ldy mode value cpu = in_y value cpu
done Tax mode value cpu = in_x cpu.a cpu
done Tay mode value cpu = in_y cpu.a cpu
done Tsx mode value cpu = in_x cpu.s cpu
done Txa mode value cpu = in_a cpu.x cpu
done Tya mode value cpu = in_a cpu.y cpu
done Txs mode value cpu = record cpu { s = cpu.x }
done Inx mode value cpu = in_x ((cpu.x + 1) % 256) cpu
done Iny mode value cpu = in_y ((cpu.y + 1) % 256) cpu
done Dex mode value cpu = in_x ((cpu.x + 255) % 256) cpu
done Dey mode value cpu = in_y ((cpu.y + 255) % 256) cpu
done And mode value cpu = and_a value cpu
done Ora mode value cpu = or_a value cpu
done Eor mode value cpu = xor_a value cpu
done Adc mode value cpu = add_to_a value cpu
done Sbc mode value cpu = take_from_a value cpu
done Cmp mode value cpu = compare_a value cpu
done Cpx mode value cpu = compared (comparison_of cpu.x value) cpu
done Cpy mode value cpu = compared (comparison_of cpu.y value) cpu
done Bit mode value cpu = tested value cpu
done Asl mode value cpu = shifted Asl mode value cpu
done Lsr mode value cpu = shifted Lsr mode value cpu
done Rol mode value cpu = shifted Rol mode value cpu
done Ror mode value cpu = shifted Ror mode value cpu
done Inc mode value cpu = with_changed Inc value cpu
done Dec mode value cpu = with_changed Dec value cpu
done Clc mode value cpu = record cpu { flags = record cpu.flags { c = false } }
done Sec mode value cpu = record cpu { flags = record cpu.flags { c = true } }
done Cli mode value cpu = record cpu { flags = record cpu.flags { i = false } }
done Sei mode value cpu = record cpu { flags = record cpu.flags { i = true } }
done Clv mode value cpu = record cpu { flags = record cpu.flags { v = false } }
done Cld mode value cpu = record cpu { flags = record cpu.flags { d = false } }
done Sed mode value cpu = record cpu { flags = record cpu.flags { d = true } }
done Nop mode value cpu = cpu
done op mode value cpu = joined op value cpu
