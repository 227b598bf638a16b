-- The row of sprite zero that a line latches (NESdev Wiki, "PPU OAM" and "PPU pattern tables").
use Rattle.std.specs.Prelude.{ℕ, ◌+◌, ◌-◌, ◌*◌, ◌/◌, ◌%◌, ◌^◌, Bool, true, false, nat_lt, nat_le, ◌==◌, ◌&&◌, if◌then◌else◌, List, map, count_by, slice_index, bit_or, Option, Some, None}
use Rattle.std.specs.List.{range_with_len}
use Rattle.nj_sprite0.specs.declared.row.SpriteRow.{SpriteRow}

-- how many rows a sprite has (NESdev Wiki, "PPU registers", bit 5 of $2000)
unfoldable pub height_of : Bool → ℕ
height_of true = 16
height_of false = 8

-- a line is one of the sprite's, whose byte 0 is its first line (NESdev Wiki, "PPU sprite evaluation")
unfoldable pub is_in_range : ℕ → ℕ → Bool → Bool
is_in_range top line tall = nat_le top line && nat_lt line (top + height_of tall)

-- the first lines of the 64 sprites, byte 0 of each four of OAM (NESdev Wiki, "PPU OAM")
unfoldable pub tops_of : List ℕ → List ℕ
tops_of oam = map (λ sprite. slice_index oam (sprite * 4)) (range_with_len 0 64)

-- how many of the 64 sprites have this line as one of theirs (NESdev Wiki, "PPU sprite evaluation"; that all 64 are
-- counted is this project's own and no statement about the real evaluation)
unfoldable pub in_range_of : List ℕ → ℕ → Bool → ℕ
in_range_of oam line tall = count_by (λ top. is_in_range top line tall) (tops_of oam)

-- a bit of a byte is set
unfoldable pub has_bit : ℕ → ℕ → Bool
has_bit byte bit = byte / 2 ^ bit % 2 == 1

-- the row of the sprite that a line shows, counted from below where bit 7 of the attributes flips it
unfoldable pub row_number : ℕ → ℕ → ℕ → Bool → ℕ
row_number top attributes line tall =
    if has_bit attributes 7 then height_of tall - 1 - (line - top) else line - top

-- where a sprite's row stands in pattern memory; a tall sprite has its table in bit 0 of the tile byte, and
-- its lower half in the next tile (NESdev Wiki, "PPU OAM", byte 1)
unfoldable pub row_place : ℕ → ℕ → Bool → Bool → ℕ
row_place tile row true high_table = tile % 2 * 4096 + (tile / 2 * 2 + row / 8) * 16 + row % 8
row_place tile row false high_table = (if high_table then 4096 else 0) + tile * 16 + row

-- which pixels of a tile's row are opaque: those with a bit in either plane, bit 7 leftmost
-- (NESdev Wiki, "PPU pattern tables")
unfoldable pub opaque_row : List ℕ → ℕ → ℕ
opaque_row pattern place = bit_or (slice_index pattern place) (slice_index pattern (place + 8))

-- a byte with its bits in reverse order
unfoldable pub reversed : ℕ → ℕ
reversed b =
    b % 2 * 128 + b / 2 % 2 * 64 + b / 4 % 2 * 32 + b / 8 % 2 * 16
    + b / 16 % 2 * 8 + b / 32 % 2 * 4 + b / 64 % 2 * 2 + b / 128 % 2

-- the opaque pixels as shown, in reverse order where bit 6 of the attributes flips them
unfoldable pub shown_bits : ℕ → ℕ → ℕ
shown_bits attributes bits = if has_bit attributes 6 then reversed bits else bits

-- the row that dot 257 of a line latches of the sprite in OAM bytes 0 to 3: first line, tile, attributes, x
-- (one act at one dot is this project's own; NESdev Wiki, "PPU rendering", has the real fetches)
unfoldable pub sprite_row_of : List ℕ → ℕ → Bool → Bool → List ℕ → Option SpriteRow
sprite_row_of oam line tall high_table pattern =
    if nat_le line 239 && is_in_range (slice_index oam 0) line tall
    then Some (record {
      x = slice_index oam 3;
      bits = shown_bits (slice_index oam 2)
          (opaque_row pattern
          (row_place (slice_index oam 1) (row_number (slice_index oam 0) (slice_index oam 2) line tall) tall high_table));
    })
    else None

-- the row has an opaque pixel at x, bit 7 leftmost
unfoldable pub is_opaque_at : SpriteRow → ℕ → Bool
is_opaque_at row x = nat_le row.x x && nat_lt x (row.x + 8) && has_bit row.bits (7 - (x - row.x))

-- the same of what is latched, which may be nothing
abbrev pub shows_at : Option SpriteRow → ℕ → Bool
shows_at None x = false
shows_at (Some row) x = is_opaque_at row x
