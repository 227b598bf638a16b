-- The 256 opcodes: operation, mode and kind of access.
use Rattle.std.specs.Prelude.{ℕ, Bool, true, false, not, List, [], ◌∷◌, ◌++◌, ◌==◌, map, if◌then◌else◌}
use Rattle.nj_isa.specs.declared.operations.Op.{Op}
use Rattle.nj_isa.specs.declared.operations.Op.TheVariants.{Ora, And, Eor, Adc, Sta, Lda, Cmp, Sbc, Ldx, Ldy, Stx, Sty, Cpx, Cpy, Bit, Inc, Dec, Asl, Rol, Lsr, Ror, Jmp, Jsr, Rts, Rti, Brk, Bpl, Bmi, Bvc, Bvs, Bcc, Bcs, Bne, Beq, Php, Plp, Pha, Pla, Clc, Sec, Cli, Sei, Clv, Cld, Sed, Dey, Iny, Inx, Dex, Txa, Tya, Txs, Tay, Tax, Tsx, Nop, Slo, Rla, Sre, Rra, Dcp, Isc, Lax, Sax, Anc, Alr, Arr, Sbx, Jam}
use Rattle.nj_isa.specs.declared.modes.Mode.{Mode}
use Rattle.nj_isa.specs.declared.modes.Mode.TheVariants.{Implied, Accumulator, Immediate, Zp, ZpX, ZpY, Abs, AbsX, AbsY, IndX, IndY, Indirect, Relative}
use Rattle.nj_isa.specs.declared.modes.Kind.{Kind}
use Rattle.nj_isa.specs.declared.modes.Kind.TheVariants.{Read, Write, Modify}
use Rattle.nj_isa.specs.declared.table.OpRow.{OpRow}

-- one opcode of an operation in a mode
pub record Entry : Type 0 where
  pub op : Op
  pub mode : Mode
  pub code : ℕ

-- the opcodes of one operation, each under its mode
abbrev pub of : Op → List (Mode × ℕ) → List Entry
of op codes = map (λ (p : Mode × ℕ). record { op = op; mode = p.0; code = p.1 }) codes

-- the 151 official opcodes (NESdev Wiki, "CPU unofficial opcodes", the table of all opcodes without the unofficial
-- ones)
abbrev pub official_opcodes : List Entry
official_opcodes =
    of Ora ((Immediate, 0x09) ∷ (Zp, 0x05) ∷ (ZpX, 0x15) ∷ (Abs, 0x0D) ∷ (AbsX, 0x1D) ∷ (AbsY, 0x19) ∷ (IndX, 0x01) ∷ (IndY, 0x11) ∷ [])
    ++ of And ((Immediate, 0x29) ∷ (Zp, 0x25) ∷ (ZpX, 0x35) ∷ (Abs, 0x2D) ∷ (AbsX, 0x3D) ∷ (AbsY, 0x39) ∷ (IndX, 0x21) ∷ (IndY, 0x31) ∷ [])
    ++ of Eor ((Immediate, 0x49) ∷ (Zp, 0x45) ∷ (ZpX, 0x55) ∷ (Abs, 0x4D) ∷ (AbsX, 0x5D) ∷ (AbsY, 0x59) ∷ (IndX, 0x41) ∷ (IndY, 0x51) ∷ [])
    ++ of Adc ((Immediate, 0x69) ∷ (Zp, 0x65) ∷ (ZpX, 0x75) ∷ (Abs, 0x6D) ∷ (AbsX, 0x7D) ∷ (AbsY, 0x79) ∷ (IndX, 0x61) ∷ (IndY, 0x71) ∷ [])
    ++ of Sta ((Zp, 0x85) ∷ (ZpX, 0x95) ∷ (Abs, 0x8D) ∷ (AbsX, 0x9D) ∷ (AbsY, 0x99) ∷ (IndX, 0x81) ∷ (IndY, 0x91) ∷ [])
    ++ of Lda ((Immediate, 0xA9) ∷ (Zp, 0xA5) ∷ (ZpX, 0xB5) ∷ (Abs, 0xAD) ∷ (AbsX, 0xBD) ∷ (AbsY, 0xB9) ∷ (IndX, 0xA1) ∷ (IndY, 0xB1) ∷ [])
    ++ of Cmp ((Immediate, 0xC9) ∷ (Zp, 0xC5) ∷ (ZpX, 0xD5) ∷ (Abs, 0xCD) ∷ (AbsX, 0xDD) ∷ (AbsY, 0xD9) ∷ (IndX, 0xC1) ∷ (IndY, 0xD1) ∷ [])
    ++ of Sbc ((Immediate, 0xE9) ∷ (Zp, 0xE5) ∷ (ZpX, 0xF5) ∷ (Abs, 0xED) ∷ (AbsX, 0xFD) ∷ (AbsY, 0xF9) ∷ (IndX, 0xE1) ∷ (IndY, 0xF1) ∷ [])
    ++ of Ldx ((Immediate, 0xA2) ∷ (Zp, 0xA6) ∷ (ZpY, 0xB6) ∷ (Abs, 0xAE) ∷ (AbsY, 0xBE) ∷ [])
    ++ of Ldy ((Immediate, 0xA0) ∷ (Zp, 0xA4) ∷ (ZpX, 0xB4) ∷ (Abs, 0xAC) ∷ (AbsX, 0xBC) ∷ [])
    ++ of Stx ((Zp, 0x86) ∷ (ZpY, 0x96) ∷ (Abs, 0x8E) ∷ [])
    ++ of Sty ((Zp, 0x84) ∷ (ZpX, 0x94) ∷ (Abs, 0x8C) ∷ [])
    ++ of Cpx ((Immediate, 0xE0) ∷ (Zp, 0xE4) ∷ (Abs, 0xEC) ∷ [])
    ++ of Cpy ((Immediate, 0xC0) ∷ (Zp, 0xC4) ∷ (Abs, 0xCC) ∷ [])
    ++ of Bit ((Zp, 0x24) ∷ (Abs, 0x2C) ∷ [])
    ++ of Inc ((Zp, 0xE6) ∷ (ZpX, 0xF6) ∷ (Abs, 0xEE) ∷ (AbsX, 0xFE) ∷ [])
    ++ of Dec ((Zp, 0xC6) ∷ (ZpX, 0xD6) ∷ (Abs, 0xCE) ∷ (AbsX, 0xDE) ∷ [])
    ++ of Asl ((Accumulator, 0x0A) ∷ (Zp, 0x06) ∷ (ZpX, 0x16) ∷ (Abs, 0x0E) ∷ (AbsX, 0x1E) ∷ [])
    ++ of Rol ((Accumulator, 0x2A) ∷ (Zp, 0x26) ∷ (ZpX, 0x36) ∷ (Abs, 0x2E) ∷ (AbsX, 0x3E) ∷ [])
    ++ of Lsr ((Accumulator, 0x4A) ∷ (Zp, 0x46) ∷ (ZpX, 0x56) ∷ (Abs, 0x4E) ∷ (AbsX, 0x5E) ∷ [])
    ++ of Ror ((Accumulator, 0x6A) ∷ (Zp, 0x66) ∷ (ZpX, 0x76) ∷ (Abs, 0x6E) ∷ (AbsX, 0x7E) ∷ [])
    ++ of Jmp ((Abs, 0x4C) ∷ (Indirect, 0x6C) ∷ [])
    ++ of Jsr ((Abs, 0x20) ∷ [])
    ++ of Rts ((Implied, 0x60) ∷ [])
    ++ of Rti ((Implied, 0x40) ∷ [])
    ++ of Brk ((Implied, 0x00) ∷ [])
    ++ of Bpl ((Relative, 0x10) ∷ [])
    ++ of Bmi ((Relative, 0x30) ∷ [])
    ++ of Bvc ((Relative, 0x50) ∷ [])
    ++ of Bvs ((Relative, 0x70) ∷ [])
    ++ of Bcc ((Relative, 0x90) ∷ [])
    ++ of Bcs ((Relative, 0xB0) ∷ [])
    ++ of Bne ((Relative, 0xD0) ∷ [])
    ++ of Beq ((Relative, 0xF0) ∷ [])
    ++ of Php ((Implied, 0x08) ∷ [])
    ++ of Plp ((Implied, 0x28) ∷ [])
    ++ of Pha ((Implied, 0x48) ∷ [])
    ++ of Pla ((Implied, 0x68) ∷ [])
    ++ of Clc ((Implied, 0x18) ∷ [])
    ++ of Sec ((Implied, 0x38) ∷ [])
    ++ of Cli ((Implied, 0x58) ∷ [])
    ++ of Sei ((Implied, 0x78) ∷ [])
    ++ of Clv ((Implied, 0xB8) ∷ [])
    ++ of Cld ((Implied, 0xD8) ∷ [])
    ++ of Sed ((Implied, 0xF8) ∷ [])
    ++ of Dey ((Implied, 0x88) ∷ [])
    ++ of Iny ((Implied, 0xC8) ∷ [])
    ++ of Inx ((Implied, 0xE8) ∷ [])
    ++ of Dex ((Implied, 0xCA) ∷ [])
    ++ of Txa ((Implied, 0x8A) ∷ [])
    ++ of Tya ((Implied, 0x98) ∷ [])
    ++ of Txs ((Implied, 0x9A) ∷ [])
    ++ of Tay ((Implied, 0xA8) ∷ [])
    ++ of Tax ((Implied, 0xAA) ∷ [])
    ++ of Tsx ((Implied, 0xBA) ∷ [])
    ++ of Nop ((Implied, 0xEA) ∷ [])

-- the 85 unofficial opcodes that do the same on every NMOS 6502 (NESdev Wiki, "CPU unofficial opcodes")
abbrev pub unofficial_opcodes : List Entry
unofficial_opcodes =
    of Slo ((Zp, 0x07) ∷ (ZpX, 0x17) ∷ (Abs, 0x0F) ∷ (AbsX, 0x1F) ∷ (AbsY, 0x1B) ∷ (IndX, 0x03) ∷ (IndY, 0x13) ∷ [])
    ++ of Rla ((Zp, 0x27) ∷ (ZpX, 0x37) ∷ (Abs, 0x2F) ∷ (AbsX, 0x3F) ∷ (AbsY, 0x3B) ∷ (IndX, 0x23) ∷ (IndY, 0x33) ∷ [])
    ++ of Sre ((Zp, 0x47) ∷ (ZpX, 0x57) ∷ (Abs, 0x4F) ∷ (AbsX, 0x5F) ∷ (AbsY, 0x5B) ∷ (IndX, 0x43) ∷ (IndY, 0x53) ∷ [])
    ++ of Rra ((Zp, 0x67) ∷ (ZpX, 0x77) ∷ (Abs, 0x6F) ∷ (AbsX, 0x7F) ∷ (AbsY, 0x7B) ∷ (IndX, 0x63) ∷ (IndY, 0x73) ∷ [])
    ++ of Dcp ((Zp, 0xC7) ∷ (ZpX, 0xD7) ∷ (Abs, 0xCF) ∷ (AbsX, 0xDF) ∷ (AbsY, 0xDB) ∷ (IndX, 0xC3) ∷ (IndY, 0xD3) ∷ [])
    ++ of Isc ((Zp, 0xE7) ∷ (ZpX, 0xF7) ∷ (Abs, 0xEF) ∷ (AbsX, 0xFF) ∷ (AbsY, 0xFB) ∷ (IndX, 0xE3) ∷ (IndY, 0xF3) ∷ [])
    ++ of Lax ((Zp, 0xA7) ∷ (ZpY, 0xB7) ∷ (Abs, 0xAF) ∷ (AbsY, 0xBF) ∷ (IndX, 0xA3) ∷ (IndY, 0xB3) ∷ [])
    ++ of Sax ((Zp, 0x87) ∷ (ZpY, 0x97) ∷ (Abs, 0x8F) ∷ (IndX, 0x83) ∷ [])
    ++ of Anc ((Immediate, 0x0B) ∷ (Immediate, 0x2B) ∷ [])
    ++ of Alr ((Immediate, 0x4B) ∷ [])
    ++ of Arr ((Immediate, 0x6B) ∷ [])
    ++ of Sbx ((Immediate, 0xCB) ∷ [])
    ++ of Sbc ((Immediate, 0xEB) ∷ [])
    ++ of Nop ((Implied, 0x1A) ∷ (Implied, 0x3A) ∷ (Implied, 0x5A) ∷ (Implied, 0x7A) ∷ (Implied, 0xDA) ∷ (Implied, 0xFA) ∷ [])
    ++ of Nop ((Immediate, 0x80) ∷ (Immediate, 0x82) ∷ (Immediate, 0x89) ∷ (Immediate, 0xC2) ∷ (Immediate, 0xE2) ∷ [])
    ++ of Nop ((Zp, 0x04) ∷ (Zp, 0x44) ∷ (Zp, 0x64) ∷ [])
    ++ of Nop ((ZpX, 0x14) ∷ (ZpX, 0x34) ∷ (ZpX, 0x54) ∷ (ZpX, 0x74) ∷ (ZpX, 0xD4) ∷ (ZpX, 0xF4) ∷ [])
    ++ of Nop ((Abs, 0x0C) ∷ [])
    ++ of Nop ((AbsX, 0x1C) ∷ (AbsX, 0x3C) ∷ (AbsX, 0x5C) ∷ (AbsX, 0x7C) ∷ (AbsX, 0xDC) ∷ (AbsX, 0xFC) ∷ [])

-- a shift of A reads, one of memory reads and writes
abbrev pub shift_kind : Mode → Kind
shift_kind Accumulator = Read
shift_kind _ = Modify

-- what an instruction does with the byte at its address: stores write, shifts and counts on memory read and write, also
-- those that go on with A, and all else reads (NESdev Wiki, "CPU addressing modes" and "CPU unofficial opcodes")
abbrev pub kind_of : Op → Mode → Kind
kind_of Sta mode = Write
kind_of Stx mode = Write
kind_of Sty mode = Write
kind_of Sax mode = Write
kind_of Inc mode = Modify
kind_of Dec mode = Modify
kind_of Slo mode = Modify
kind_of Rla mode = Modify
kind_of Sre mode = Modify
kind_of Rra mode = Modify
kind_of Dcp mode = Modify
kind_of Isc mode = Modify
kind_of Asl mode = shift_kind mode
kind_of Rol mode = shift_kind mode
kind_of Lsr mode = shift_kind mode
kind_of Ror mode = shift_kind mode
kind_of _ mode = Read

-- the row of an opcode, a jam where the list has none
abbrev pub row_in : List Entry → ℕ → OpRow
row_in [] opcode = record { op = Jam; mode = Implied; kind = Read }
row_in (e ∷ rest) opcode =
    if e.code == opcode then record { op = e.op; mode = e.mode; kind = kind_of e.op e.mode } else row_in rest opcode

-- the row of an opcode (NESdev Wiki, "CPU unofficial opcodes"); that the other 20 jam is this project's own profile
unfoldable pub row_of : ℕ → OpRow
row_of opcode = row_in (official_opcodes ++ unofficial_opcodes) opcode

-- whether a list has an opcode
abbrev pub has_opcode : List Entry → ℕ → Bool
has_opcode [] opcode = false
has_opcode (e ∷ rest) opcode = if e.code == opcode then true else has_opcode rest opcode

-- whether an opcode is one of the 151 official ones
unfoldable pub is_official : ℕ → Bool
is_official opcode = has_opcode official_opcodes opcode

-- whether an opcode of an operation is official: NOP and SBC have unofficial ones beside $EA and the eight of the
-- manual
abbrev pub in_manual : Op → ℕ → Bool
in_manual Nop opcode = opcode == 0xEA
in_manual Sbc opcode = not (opcode == 0xEB)
in_manual Slo opcode = false
in_manual Rla opcode = false
in_manual Sre opcode = false
in_manual Rra opcode = false
in_manual Dcp opcode = false
in_manual Isc opcode = false
in_manual Lax opcode = false
in_manual Sax opcode = false
in_manual Anc opcode = false
in_manual Alr opcode = false
in_manual Arr opcode = false
in_manual Sbx opcode = false
in_manual Jam opcode = false
in_manual _ opcode = true
