-- The listing of bytes: address, bytes, mnemonic and operand, one line an instruction. The layout is our own;
-- mnemonics and operands are spelled as in the MCS6500 Family Programming Manual.
use Rattle.std.specs.Prelude.{ℕ, zero, suc, ◌+◌, ◌-◌, ◌*◌, ◌/◌, ◌%◌, ◌==◌, ◌&&◌, not, nat_lt, Bool, false, List, [], ◌∷◌, ◌++◌, length, take, codes, slice_index, if◌then◌else◌}
use Rattle.std.specs.List.{flat_map}
use Rattle.nj_isa.specs.declared.modes.Mode.{Mode}
use Rattle.nj_isa.specs.declared.modes.Mode.TheVariants.{Implied, Accumulator, Immediate, Zp, ZpX, ZpY, Abs, AbsX, AbsY, IndX, IndY, Indirect, Relative}
use Rattle.nj_isa.specs.Names.{name_of, length_of}
use Rattle.nj_isa.specs.Table.{row_of}
use Rattle.nj_isa.specs.Timing.{is_jam}

-- a hex digit, its letters in capitals
abbrev pub hex_digit : ℕ → ℕ
hex_digit n = if nat_lt n 10 then 48 + n else 55 + n

-- two hex digits of a byte
unfoldable pub hex2 : ℕ → List ℕ
hex2 n = hex_digit (n / 16 % 16) ∷ hex_digit (n % 16) ∷ []

-- four hex digits of a number mod 65,536
unfoldable pub hex4 : ℕ → List ℕ
hex4 n = hex2 (n / 256 % 256) ++ hex2 (n % 256)

-- a byte, signed in two's complement, added to an address mod 65,536 (NMOS 6502 relative addressing)
abbrev pub branch_target : ℕ → ℕ → ℕ
branch_target at offset = (at + 2 + offset + (if nat_lt offset 128 then 0 else 65280)) % 65536

-- the operand of an instruction at an address, by its two bytes behind the opcode; a blank stands before it
unfoldable pub operand_text : Mode → ℕ → ℕ → ℕ → List ℕ
operand_text Implied at low high = []
operand_text Accumulator at low high = codes " A"
operand_text Immediate at low high = codes " #$" ++ hex2 low
operand_text Zp at low high = codes " $" ++ hex2 low
operand_text ZpX at low high = codes " $" ++ hex2 low ++ codes ",X"
operand_text ZpY at low high = codes " $" ++ hex2 low ++ codes ",Y"
operand_text Abs at low high = codes " $" ++ hex4 (low + 256 * high)
operand_text AbsX at low high = codes " $" ++ hex4 (low + 256 * high) ++ codes ",X"
operand_text AbsY at low high = codes " $" ++ hex4 (low + 256 * high) ++ codes ",Y"
operand_text IndX at low high = codes " ($" ++ hex2 low ++ codes ",X)"
operand_text IndY at low high = codes " ($" ++ hex2 low ++ codes "),Y"
operand_text Indirect at low high = codes " ($" ++ hex4 (low + 256 * high) ++ codes ")"
operand_text Relative at low high = codes " $" ++ hex4 (branch_target at low)

-- the number in an operand, in hex digits; none where the mode has none
abbrev pub number_text : Mode → ℕ → ℕ → ℕ → List ℕ
number_text Implied at low high = []
number_text Accumulator at low high = []
number_text Abs at low high = hex4 (low + 256 * high)
number_text AbsX at low high = hex4 (low + 256 * high)
number_text AbsY at low high = hex4 (low + 256 * high)
number_text Indirect at low high = hex4 (low + 256 * high)
number_text Relative at low high = hex4 (branch_target at low)
number_text _ at low high = hex2 low

-- a blank and a byte
abbrev pub spaced : ℕ → List ℕ
spaced byte = 32 ∷ hex2 byte

-- the blanks that fill three bytes' columns
abbrev pub filling : ℕ → List ℕ
filling count = if count == 1 then codes "      " else if count == 2 then codes "   " else []

-- an address and the bytes there, filled to eight columns, with a blank behind
unfoldable pub place_text : ℕ → List ℕ → List ℕ
place_text at bytes = hex4 at ++ flat_map spaced bytes ++ filling (length bytes) ++ codes " "

-- the line of an instruction
unfoldable pub instruction_text : ℕ → List ℕ → List ℕ
instruction_text at bytes =
    place_text at bytes ++ name_of (row_of (slice_index bytes 0)).op
    ++ operand_text (row_of (slice_index bytes 0)).mode at (slice_index bytes 1) (slice_index bytes 2) ++ 10 ∷ []

-- the line of a byte that is no instruction
unfoldable pub byte_text : ℕ → ℕ → List ℕ
byte_text at byte = place_text at (byte ∷ []) ++ codes ".BYTE $" ++ hex2 byte ++ 10 ∷ []

-- the address behind
abbrev pub next_to : ℕ → ℕ
next_to at = (at + 1) % 65536

-- such a line for each byte
abbrev pub bytes_text : ℕ → List ℕ → List ℕ
bytes_text at [] = []
bytes_text at (byte ∷ bytes) = byte_text at byte ++ bytes_text (next_to at) bytes

-- the bytes of the instruction that an opcode begins
abbrev pub span_of : ℕ → ℕ
span_of opcode = length_of (row_of opcode).mode

-- the bytes are one whole instruction, which does not jam
abbrev pub is_whole : List ℕ → Bool
is_whole [] = false
is_whole (opcode ∷ operand) = not (is_jam (row_of opcode).op) && (length operand + 1 == span_of opcode)

-- the listing from an address on, after so many bytes that the last line shows
abbrev pub listed : ℕ → ℕ → List ℕ → List ℕ
listed at shown [] = []
listed at (suc shown) (byte ∷ bytes) = listed (next_to at) shown bytes
listed at zero (byte ∷ bytes) =
    if is_jam (row_of byte).op then byte_text at byte ++ listed (next_to at) 0 bytes
    else if nat_lt (length bytes + 1) (span_of byte) then bytes_text at (byte ∷ bytes)
    else instruction_text at (take (span_of byte) (byte ∷ bytes)) ++ listed (next_to at) (span_of byte - 1) bytes

-- the listing of bytes from an origin on
unfoldable pub listing_of : ℕ → List ℕ → List ℕ
listing_of origin bytes = listed origin 0 bytes
