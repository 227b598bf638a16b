-- The header of a cartridge file: NESdev Wiki, "iNES" and "NES 2.0".
use Rattle.std.specs.Prelude.{ℕ, ◌+◌, ◌*◌, ◌/◌, ◌%◌, ◌==◌, nat_eq, Bool, ◌&&◌, ◌||◌, if◌then◌else◌, List, [], ◌∷◌, take, slice_index, slice_range}
use Rattle.std.specs.List.{starts_with, list_all}

-- the four bytes at the head of a file: NES and $1A (NESdev Wiki, "iNES")
abbrev pub ines_name : List ℕ
ines_name = 78 ∷ 69 ∷ 83 ∷ 26 ∷ []

-- the first four bytes, as many as there are, are those of the format (that a shorter file may begin so is our own)
abbrev pub is_named : List ℕ → Bool
is_named file = starts_with nat_eq ines_name (take 4 file)

-- bits 2 and 3 of byte 7 have the value 2 (NESdev Wiki, "NES 2.0")
unfoldable pub is_nes_2 : List ℕ → Bool
is_nes_2 file = slice_index file 7 / 4 % 4 == 2

-- byte 7 may be read: bits 2 and 3 are 0 and so are bytes 12 to 15 (NESdev Wiki, "iNES", "Variant comparison")
unfoldable pub is_clean : List ℕ → Bool
is_clean file = slice_index file 7 / 4 % 4 == 0 && list_all (λ byte. byte == 0) (slice_range file 12 16)

-- the mapper's number: its low nybble, its high nybble, and bits 8 to 11 (NESdev Wiki, "iNES" and "NES 2.0")
unfoldable pub mapper_of : List ℕ → ℕ
mapper_of file =
    slice_index file 6 / 16
    + (if is_nes_2 file || is_clean file then 16 * (slice_index file 7 / 16) else 0)
    + (if is_nes_2 file then 256 * (slice_index file 8 % 16) else 0)

-- the count of 16 KiB units of program memory (NESdev Wiki, "iNES" and "NES 2.0")
unfoldable pub prg_units_of : List ℕ → ℕ
prg_units_of file = slice_index file 4 + (if is_nes_2 file then 256 * (slice_index file 9 % 16) else 0)

-- the count of 8 KiB units of pattern memory; 0 stands for RAM (NESdev Wiki, "iNES" and "NES 2.0")
unfoldable pub chr_units_of : List ℕ → ℕ
chr_units_of file = slice_index file 5 + (if is_nes_2 file then 256 * (slice_index file 9 / 16) else 0)

-- the timing: 0 is NTSC, 1 PAL, 2 both, 3 Dendy; NTSC where the header does not say (NESdev Wiki, "NES 2.0")
unfoldable pub timing_of : List ℕ → ℕ
timing_of file = if is_nes_2 file then slice_index file 12 % 4 else 0

-- the length of the header and of both memories (NESdev Wiki, "iNES")
abbrev pub need_of : List ℕ → ℕ
need_of file = 16 + 16384 * prg_units_of file + 8192 * chr_units_of file

-- the place behind the program memory (NESdev Wiki, "iNES")
abbrev pub prg_end : List ℕ → ℕ
prg_end file = 16 + 16384 * prg_units_of file
