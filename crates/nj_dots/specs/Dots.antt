-- What each dot does (NESdev Wiki, "PPU rendering", "PPU scrolling" and "NMI"). The dots at which `near` changes and
-- the hit flag rises, the hold, the one act that latches sprite zero and counts sprites at dot 257 and the fetch of a
-- tile's row as one act are this project's own.
use Rattle.std.specs.Prelude.{ℕ, zero, suc, ◌+◌, ◌-◌, ◌*◌, ◌/◌, ◌%◌, ◌^◌, Bool, true, false, not, ◌&&◌, ◌||◌, ◌==◌, nat_lt, nat_le, if◌then◌else◌, List, None}
use Rattle.nj_vram.specs.Home.{got}
use Rattle.nj_sprite0.specs.Sprite.{has_bit, opaque_row, in_range_of, sprite_row_of, shows_at}
use Rattle.nj_dots.specs.declared.position.Position.{Position}
use Rattle.nj_dots.specs.declared.scroll.Scroll.{Scroll}
use Rattle.nj_dots.specs.declared.screen.Screen.{Screen}
use Rattle.nj_dots.specs.Scroll.{next_column, next_row, with_horizontal, with_vertical}
use Rattle.nj_dots.specs.Screen.{place_of, is_rendering, shows_both_layers, shows_left_columns, is_next, first_sprite}

-- a hit that was near raises its flag, one dot after the pixel
unfoldable pub raised : Screen → Screen
raised s = record s { sprite_zero_hit = s.sprite_zero_hit || s.near; near = false }

-- vertical blank begins: its flag rises unless it is held, and the end of the frame is marked for the machine
unfoldable pub blank_begun : Screen → Screen
blank_begun s = record s { vertical_blank = s.vertical_blank || not s.hold; hold = false; ended = true }

-- vertical blank ends: the three flags fall
unfoldable pub blank_ended : Screen → Screen
blank_ended s = record s { vertical_blank = false; sprite_zero_hit = false; sprite_overflow = false }

-- vertical blank begins at dot (241,1) and ends at dot (261,1)
unfoldable pub flagged : Screen → Screen
flagged s = if is_next 241 1 s then blank_begun s else (if is_next 261 1 s then blank_ended s else s)

-- the background bit of a pixel: bit 15 - x of the shift register, x the fine X
unfoldable pub background_bit : ℕ → ℕ → Bool
background_bit shift x = shift / 2 ^ (15 - x) % 2 == 1

-- the pixel of a dot, counted from 0, is in the columns that are shown
unfoldable pub is_shown_column : ℕ → ℕ → Bool
is_shown_column mask pixel = nat_le 8 pixel || shows_left_columns mask

-- the dot's pixel, 0 to 254 of a visible line, is a hit of sprite zero (NESdev Wiki, "PPU OAM", "Sprite zero hits")
unfoldable pub is_hit_pixel : Screen → Bool
is_hit_pixel s =
    nat_lt s.position.line 240 && nat_le s.position.dot 255 && shows_both_layers s.mask
    && background_bit s.shift s.scroll.x && shows_at s.sprite_row (s.position.dot - 1)
    && is_shown_column s.mask (s.position.dot - 1)

-- a pixel: a hit is near, and the shift register moves left by one
unfoldable pub pixel : Screen → Screen
pixel s = record s { near = is_hit_pixel s; shift = s.shift * 2 % 65536 }

-- where the row of a tile stands that v shows, in the table of bit 4 of $2000
unfoldable pub fetch_place : ℕ → ℕ → ℕ → ℕ
fetch_place control tile v = (if has_bit control 4 then 4096 else 0) + tile * 16 + v / 4096 % 8

-- which pixels of the tile's row at v are opaque
unfoldable pub fetched_row : List ℕ → Screen → ℕ
fetched_row pattern s =
    opaque_row pattern (fetch_place s.control (got s.vram (0x2000 + s.scroll.v % 4096)) s.scroll.v)

-- coarse X moves on
abbrev pub column_stepped : Scroll → Scroll
column_stepped c = record c { v = next_column c.v }

-- Y moves on
abbrev pub row_stepped : Scroll → Scroll
row_stepped c = record c { v = next_row c.v }

-- the last dot of a tile: its successor's row but one replaces the low eight bits of the shift register
unfoldable pub tile_fetched : List ℕ → Screen → Screen
tile_fetched pattern s =
    record s { shift = s.shift / 256 * 256 + fetched_row pattern s; scroll = column_stepped s.scroll }

-- the last tile of a line, and then the Y step
unfoldable pub line_ended : List ℕ → Screen → Screen
line_ended pattern s = let f = tile_fetched pattern s in record f { scroll = row_stepped f.scroll }

-- every eighth dot ends a tile, dot 256 the line
unfoldable pub tile_ended : List ℕ → Screen → Screen
tile_ended pattern s =
    if s.position.dot == 256 then line_ended pattern s
    else (if s.position.dot % 8 == 0 then tile_fetched pattern s else s)

-- a visible line has more sprites than the eight that it can show (NESdev Wiki, "PPU sprite evaluation", "Sprite
-- overflow"; all 64 are counted, which is this project's own)
unfoldable pub overflows : List ℕ → ℕ → ℕ → Bool
overflows oam control line = nat_lt line 240 && nat_le 9 (in_range_of oam line (has_bit control 5))

-- dot 257: the horizontal bits are copied, the OAM address becomes 0, the row of sprite zero is latched, the overflow
-- flag rises where the line has too many sprites
unfoldable pub latched : List ℕ → Screen → Screen
latched pattern s =
    record s {
      scroll = (let c = s.scroll in record c { v = with_horizontal c.t c.v });
      oam_address = 0;
      sprite_overflow = s.sprite_overflow || overflows s.oam s.control s.position.line;
      sprite_row =
          sprite_row_of (first_sprite s.oam) s.position.line (has_bit s.control 5) (has_bit s.control 3) pattern;
    }

-- the vertical bits are copied at dots 280 to 304 of the pre-render line
unfoldable pub vertical_copied : Screen → Scroll
vertical_copied s =
    let c = s.scroll in
    if s.position.line == 261 && nat_le 280 s.position.dot && nat_le s.position.dot 304
    then record c { v = with_vertical c.t c.v } else c

-- dots 258 to 320, the fetches of sprites: the OAM address becomes 0
unfoldable pub sprites_fetched : Screen → Screen
sprites_fetched s = record s { oam_address = 0; scroll = vertical_copied s }

-- dots 328 and 336: the next line's first tiles
unfoldable pub prefetched : List ℕ → Screen → Screen
prefetched pattern s =
    record s { shift = s.shift % 256 * 256 + fetched_row pattern s; scroll = column_stepped s.scroll }

-- a dot of a drawn line with rendering on
unfoldable pub shown : List ℕ → Screen → Screen
shown pattern s =
    let dot = s.position.dot in
    if nat_le 1 dot && nat_le dot 256 then tile_ended pattern (pixel s)
    else (if dot == 257 then latched pattern s
    else (if nat_le 258 dot && nat_le dot 320 then sprites_fetched s
    else (if dot == 328 || dot == 336 then prefetched pattern s
    else s)))

-- no sprite row is latched
unfoldable pub emptied : Screen → Screen
emptied s = record s { sprite_row = None }

-- a dot of a drawn line with rendering off: dot 257 empties the sprite row
unfoldable pub hidden : Screen → Screen
hidden s = if s.position.dot == 257 then emptied s else s

-- the lines that are drawn: 0 to 239, and the pre-render line 261
unfoldable pub is_drawn_line : ℕ → Bool
is_drawn_line line = nat_lt line 240 || line == 261

-- the work of the dot on its line
unfoldable pub drawn : List ℕ → Screen → Screen
drawn pattern s =
    if is_drawn_line s.position.line then (if is_rendering s.mask then shown pattern s else hidden s) else s

-- the frame's last dot: (261,340), or (261,339) in an odd frame with rendering on (NESdev Wiki, "PPU rendering",
-- "Pre-render scanline")
unfoldable pub is_last_dot : Screen → Bool
is_last_dot s = is_next 261 340 s || (is_next 261 339 s && s.odd_frame && is_rendering s.mask)

-- the next dot of the frame
unfoldable pub after_position : Position → Position
after_position p = if p.dot == 340 then record { line = p.line + 1; dot = 0 } else record p { dot = p.dot + 1 }

-- a new frame begins at (0,0), and the parity changes
unfoldable pub frame_begun : Screen → Screen
frame_begun s = record s { position = record { line = 0; dot = 0 }; odd_frame = not s.odd_frame }

-- the next dot of the same frame
unfoldable pub advanced : Screen → Screen
advanced s = record s { position = after_position s.position }

-- the position moves on
unfoldable pub moved : Screen → Screen
moved s = if is_last_dot s then frame_begun s else advanced s

-- the picture after its next dot
unfoldable pub dot_of : List ℕ → Screen → Screen
dot_of pattern s = moved (drawn pattern (flagged (raised s)))

-- the picture after its next n dots
unfoldable pub after_dots : ℕ → List ℕ → Screen → Screen
after_dots zero pattern s = s
after_dots (suc n) pattern s = dot_of pattern (after_dots n pattern s)

-- how many dots there are up to and including the next (241,1) or (261,1): places count the frame's dots from 0, and
-- the last dot is left out in an odd frame with rendering on
unfoldable pub to_event : Screen → ℕ
to_event s =
    let place = place_of s.position in
    if nat_le place 82182 then 82183 - place
    else (if nat_le place 89002 then 89003 - place
    else (if nat_le place 89340 && s.odd_frame && is_rendering s.mask then 171524 - place else 171525 - place))
