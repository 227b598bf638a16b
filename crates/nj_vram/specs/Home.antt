-- Where each address of the picture's own memory stands (NESdev Wiki, "PPU memory map", "Mirroring" and
-- "PPU palettes").
use Rattle.std.specs.Prelude.{ℕ, ◌+◌, ◌*◌, ◌/◌, ◌%◌, Bool, true, false, nat_lt, nat_le, ◌==◌, ◌&&◌, if◌then◌else◌, replicate, slice_index, slice_set}
use Rattle.nj_vram.specs.declared.Vram.{Vram}

-- the home of an address: a byte of the nametables, or a colour of the palette
pub data Home : Type 0 where
  Cell : ℕ → Home
  Colour : ℕ → Home

-- which of the two 1 KiB nametables an address is in: bit 10 chooses under vertical mirroring, bit 11 under
-- horizontal mirroring (NESdev Wiki, "Mirroring")
unfoldable pub table_of : Bool → ℕ → ℕ
table_of true at = at / 1024 % 2
table_of false at = at / 2048 % 2

-- the byte of the nametables that an address below $3F00 names; $3000 and up repeat $2000 and up
unfoldable pub cell_of : Bool → ℕ → ℕ
cell_of vertical at = table_of vertical at * 1024 + at % 1024

-- the colour that an address from $3F00 on names: 32 colours, repeated, where $10, $14, $18 and $1C are the
-- background's $00, $04, $08 and $0C (NESdev Wiki, "PPU palettes")
unfoldable pub colour_of : ℕ → ℕ
colour_of at = if nat_le 16 (at % 32) && at % 4 == 0 then at % 16 else at % 32

-- the home of an address from $2000 to $3FFF (NESdev Wiki, "PPU memory map")
unfoldable pub home : Bool → ℕ → Home
home vertical at = if nat_lt at 0x3F00 then Cell (cell_of vertical at) else Colour (colour_of at)

-- the byte at a home; a colour has six bits
abbrev pub got_at : Home → Vram → ℕ
got_at (Cell n) m = slice_index m.cells n
got_at (Colour n) m = slice_index m.palette n % 64

-- the memory after a byte was put at a home; a colour keeps six bits
abbrev pub written_at : Home → ℕ → Vram → Vram
written_at (Cell n) value m = record m { cells = slice_set m.cells n value }
written_at (Colour n) value m = record m { palette = slice_set m.palette n (value % 64) }

-- the byte that an address names
unfoldable pub got : Vram → ℕ → ℕ
got m at = got_at (home m.vertical at) m

-- the memory after a write at an address
unfoldable pub written : Vram → ℕ → ℕ → Vram
written m at value = written_at (home m.vertical at) value m

-- the memory at power-on, all 0 (this project's own choice)
unfoldable pub blank : Bool → Vram
blank vertical = record { vertical = vertical; cells = replicate 2048 0; palette = replicate 32 0 }
