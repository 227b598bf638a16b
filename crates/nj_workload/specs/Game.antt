-- The cartridge that is made from a number, in the format iNES (NESdev Wiki, "iNES" and "NROM"). The game is ours.
use Rattle.std.specs.Prelude.{ℕ, List, [], ◌∷◌, ◌++◌, replicate}
use Rattle.nj_workload.specs.Generator.{bytes_from}

-- so many zeros
unfoldable pub zeros : ℕ → List ℕ
zeros count = replicate count 0

-- NES and $1A, one unit of program memory, one of pattern memory, and ten zeros (NESdev Wiki, "iNES")
abbrev pub header : List ℕ
header = 78 ∷ 69 ∷ 83 ∷ 26 ∷ 1 ∷ 1 ∷ 0 ∷ 0 ∷ 0 ∷ 0 ∷ 0 ∷ 0 ∷ 0 ∷ 0 ∷ 0 ∷ 0 ∷ []

-- at $8000: SEI, NMI on by $80 to $2000, and a jump to itself (NMOS 6502 opcodes; NESdev Wiki, "PPU registers")
abbrev pub reset_code : List ℕ
reset_code = 120 ∷ 169 ∷ 128 ∷ 141 ∷ 0 ∷ 32 ∷ 76 ∷ 6 ∷ 128 ∷ []

-- at $8009, in each NMI: reads the pad, moves $10 and $11 by its directions, and then puts $10 through the table at
-- $8100 if A is pressed, and $11 through that at $8200 if B is pressed (NMOS 6502 opcodes; NESdev Wiki, "Controller
-- reading")
abbrev pub frame_code : List ℕ
frame_code =
    169 ∷ 1 ∷ 141 ∷ 22 ∷ 64 ∷ 74 ∷ 141 ∷ 22 ∷ 64 ∷ 162 ∷ 8 ∷ 173 ∷ 22 ∷ 64 ∷ 74 ∷ 38
    ∷ 18 ∷ 202 ∷ 208 ∷ 247 ∷ 166 ∷ 16 ∷ 165 ∷ 18 ∷ 74 ∷ 144 ∷ 1 ∷ 232 ∷ 74 ∷ 144 ∷ 1 ∷ 202
    ∷ 74 ∷ 144 ∷ 2 ∷ 230 ∷ 17 ∷ 74 ∷ 144 ∷ 2 ∷ 198 ∷ 17 ∷ 165 ∷ 18 ∷ 16 ∷ 4 ∷ 189 ∷ 0
    ∷ 129 ∷ 170 ∷ 134 ∷ 16 ∷ 36 ∷ 18 ∷ 80 ∷ 7 ∷ 166 ∷ 17 ∷ 189 ∷ 0 ∷ 130 ∷ 133 ∷ 17 ∷ 64 ∷ []

-- at $FFFA, little-endian: NMI to $8009, reset and IRQ to $8000 (NESdev Wiki, "CPU memory map")
abbrev pub vectors : List ℕ
vectors = 9 ∷ 128 ∷ 0 ∷ 128 ∷ 0 ∷ 128 ∷ []

-- the first page of program memory: both pieces of code, then zeros (ours)
unfoldable pub code_page : List ℕ
code_page = reset_code ++ (frame_code ++ zeros 183)

-- the 16 KiB of program memory: code, two tables, zeros and, in its last six bytes, the vectors (NESdev Wiki, "NROM")
unfoldable pub program_memory : List ℕ → List ℕ
program_memory tables = code_page ++ (tables ++ (zeros 15610 ++ vectors))

-- the file: header, program memory, and 8 KiB of pattern memory, all zeros (NESdev Wiki, "iNES")
unfoldable pub file_with : List ℕ → List ℕ
file_with tables = header ++ (program_memory tables ++ zeros 8192)

-- the tables of a number: its first 256 bytes, and the next 256 (ours)
unfoldable pub tables_of : ℕ → List ℕ
tables_of number = bytes_from number 0 256 ++ bytes_from number 256 256

-- the cartridge's file of a number (ours)
abbrev pub game_file : ℕ → List ℕ
game_file number = file_with (tables_of number)
