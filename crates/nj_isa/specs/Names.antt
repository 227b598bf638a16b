-- The mnemonics and the lengths of instructions.
use Rattle.std.specs.Prelude.{ℕ, List, codes}
use Rattle.nj_isa.specs.declared.operations.Op.{Op}
use Rattle.nj_isa.specs.declared.operations.Op.TheVariants.{Adc, And, Asl, Bcc, Bcs, Beq, Bit, Bmi, Bne, Bpl, Brk, Bvc, Bvs, Clc, Cld, Cli, Clv, Cmp, Cpx, Cpy, Dec, Dex, Dey, Eor, Inc, Inx, Iny, Jmp, Jsr, Lda, Ldx, Ldy, Lsr, Nop, Ora, Pha, Php, Pla, Plp, Rol, Ror, Rti, Rts, Sbc, Sec, Sed, Sei, Sta, Stx, Sty, Tax, Tay, Tsx, Txa, Txs, Tya, Slo, Rla, Sre, Rra, Dcp, Isc, Lax, Sax, Anc, Alr, Arr, Sbx, Jam}
use Rattle.nj_isa.specs.declared.modes.Mode.{Mode}
use Rattle.nj_isa.specs.declared.modes.Mode.TheVariants.{Implied, Accumulator, Abs, AbsX, AbsY, Indirect}

-- the mnemonic of an operation (NMOS 6502 instruction set; NESdev Wiki, "CPU unofficial opcodes")
unfoldable pub name_of : Op → List ℕ
name_of Adc = codes "ADC"
name_of And = codes "AND"
name_of Asl = codes "ASL"
name_of Bcc = codes "BCC"
name_of Bcs = codes "BCS"
name_of Beq = codes "BEQ"
name_of Bit = codes "BIT"
name_of Bmi = codes "BMI"
name_of Bne = codes "BNE"
name_of Bpl = codes "BPL"
name_of Brk = codes "BRK"
name_of Bvc = codes "BVC"
name_of Bvs = codes "BVS"
name_of Clc = codes "CLC"
name_of Cld = codes "CLD"
name_of Cli = codes "CLI"
name_of Clv = codes "CLV"
name_of Cmp = codes "CMP"
name_of Cpx = codes "CPX"
name_of Cpy = codes "CPY"
name_of Dec = codes "DEC"
name_of Dex = codes "DEX"
name_of Dey = codes "DEY"
name_of Eor = codes "EOR"
name_of Inc = codes "INC"
name_of Inx = codes "INX"
name_of Iny = codes "INY"
name_of Jmp = codes "JMP"
name_of Jsr = codes "JSR"
name_of Lda = codes "LDA"
name_of Ldx = codes "LDX"
name_of Ldy = codes "LDY"
name_of Lsr = codes "LSR"
name_of Nop = codes "NOP"
name_of Ora = codes "ORA"
name_of Pha = codes "PHA"
name_of Php = codes "PHP"
name_of Pla = codes "PLA"
name_of Plp = codes "PLP"
name_of Rol = codes "ROL"
name_of Ror = codes "ROR"
name_of Rti = codes "RTI"
name_of Rts = codes "RTS"
name_of Sbc = codes "SBC"
name_of Sec = codes "SEC"
name_of Sed = codes "SED"
name_of Sei = codes "SEI"
name_of Sta = codes "STA"
name_of Stx = codes "STX"
name_of Sty = codes "STY"
name_of Tax = codes "TAX"
name_of Tay = codes "TAY"
name_of Tsx = codes "TSX"
name_of Txa = codes "TXA"
name_of Txs = codes "TXS"
name_of Tya = codes "TYA"
name_of Slo = codes "SLO"
name_of Rla = codes "RLA"
name_of Sre = codes "SRE"
name_of Rra = codes "RRA"
name_of Dcp = codes "DCP"
name_of Isc = codes "ISC"
name_of Lax = codes "LAX"
name_of Sax = codes "SAX"
name_of Anc = codes "ANC"
name_of Alr = codes "ALR"
name_of Arr = codes "ARR"
name_of Sbx = codes "SBX"
name_of Jam = codes "JAM"

-- bytes of an instruction in a mode, the opcode among them (NMOS 6502 addressing modes)
abbrev pub length_of : Mode → ℕ
length_of Implied = 1
length_of Accumulator = 1
length_of Abs = 3
length_of AbsX = 3
length_of AbsY = 3
length_of Indirect = 3
length_of _ = 2
