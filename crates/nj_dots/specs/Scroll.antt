-- The picture's internal scroll registers (NESdev Wiki, "PPU scrolling"). v and t are yyy NN YYYYY XXXXX: fine Y,
-- two bits of the nametable, coarse Y, coarse X.
use Rattle.std.specs.Prelude.{ℕ, ◌+◌, ◌-◌, ◌*◌, ◌/◌, ◌%◌, ◌<◌, true, false, ◌==◌, if◌then◌else◌}
use Rattle.nj_dots.specs.declared.scroll.Scroll.{Scroll}

-- v and t have 15 bits, fine X has three
pub record IsScroll (s : Scroll) : Type 0 where
  pub v : s.v < 32768
  pub t : s.t < 32768
  pub x : s.x < 8

-- the tile to the right; after column 31 it is column 0 of the other nametable across ("Coarse X increment")
unfoldable pub next_column : ℕ → ℕ
next_column v =
    if v % 32 == 31
    then v / 2048 * 2048 + (1 - v / 1024 % 2) * 1024 + v / 32 % 32 * 32
    else v + 1

-- the first line of the next row of tiles: after row 29 it is row 0 of the other nametable down, after row 31 row
-- 0 of the same ("Y increment")
unfoldable pub next_tile_row : ℕ → ℕ
next_tile_row v =
    if v / 32 % 32 == 29 then (1 - v / 2048 % 2) * 2048 + v / 1024 % 2 * 1024 + v % 32
    else (if v / 32 % 32 == 31 then v / 1024 % 4 * 1024 + v % 32
    else v % 4096 + 32)

-- the line below ("Y increment")
unfoldable pub next_row : ℕ → ℕ
next_row v = if v / 4096 % 8 == 7 then next_tile_row v else v + 4096

-- v with the horizontal bits of t: bit 10 and coarse X ("At dot 257 of each scanline")
unfoldable pub with_horizontal : ℕ → ℕ → ℕ
with_horizontal t v = v / 2048 * 2048 + t / 1024 % 2 * 1024 + v / 32 % 32 * 32 + t % 32

-- v with the vertical bits of t: fine Y, bit 11 and coarse Y ("During dots 280 to 304 of the pre-render scanline")
unfoldable pub with_vertical : ℕ → ℕ → ℕ
with_vertical t v = t / 2048 % 16 * 2048 + v / 1024 % 2 * 1024 + t / 32 % 32 * 32 + v % 32

-- a write of $2005: coarse and fine X first, then coarse and fine Y ("$2005 first write", "second write")
unfoldable pub scrolled : ℕ → Scroll → Scroll
scrolled value s =
    if s.w
    then record s { t = value % 8 * 4096 + s.t / 1024 % 4 * 1024 + value / 8 * 32 + s.t % 32; w = false }
    else record s { t = s.t / 32 * 32 + value / 8; x = value % 8; w = true }

-- a write of $2006: six high bits first, then the low byte, and t becomes v ("$2006 first write", "second write")
unfoldable pub addressed : ℕ → Scroll → Scroll
addressed value s =
    if s.w
    then record s { v = s.t / 256 * 256 + value; t = s.t / 256 * 256 + value; w = false }
    else record s { t = value % 64 * 256 + s.t % 256; w = true }
