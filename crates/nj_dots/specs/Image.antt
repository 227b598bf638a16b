-- The picture's part of a machine's image (the layout is this project's own): nametables from byte 2,048, OAM from
-- 4,096, palette from 4,352, and 64 bytes of registers from 4,384. The mirroring and the end mark are no part of it.
use Rattle.std.specs.Prelude.{◌≡◌, ℕ, ◌+◌, ◌*◌, ◌/◌, ◌%◌, ◌==◌, Bool, true, false, not, List, [], ◌∷◌, ◌++◌, length, take, drop, replicate, slice_index, Option, Some, None, if◌then◌else◌}
use Rattle.nj_sprite0.specs.declared.row.SpriteRow.{SpriteRow}
use Rattle.nj_dots.specs.declared.screen.Screen.{Screen}
use Rattle.nj_dots.specs.Screen.{IsScreen}

-- a flag as a byte
abbrev pub flag_byte : Bool → ℕ
flag_byte true = 1
flag_byte false = 0

-- the sprite row as three bytes: whether there is one
abbrev pub row_flag : Option SpriteRow → ℕ
row_flag None = 0
row_flag (Some row) = 1

-- its left edge
abbrev pub row_left : Option SpriteRow → ℕ
row_left None = 0
row_left (Some row) = row.x

-- its pixels
abbrev pub row_pixels : Option SpriteRow → ℕ
row_pixels None = 0
row_pixels (Some row) = row.bits

-- registers and flags as 26 bytes, words low byte first
unfoldable pub register_bytes : Screen → List ℕ
register_bytes s =
    s.position.line % 256 ∷ s.position.line / 256 ∷ s.position.dot % 256 ∷ s.position.dot / 256
    ∷ flag_byte s.odd_frame ∷ s.control ∷ s.mask
    ∷ flag_byte s.vertical_blank ∷ flag_byte s.sprite_zero_hit ∷ flag_byte s.sprite_overflow
    ∷ flag_byte s.hold ∷ flag_byte s.near
    ∷ s.scroll.v % 256 ∷ s.scroll.v / 256 ∷ s.scroll.t % 256 ∷ s.scroll.t / 256 ∷ s.scroll.x ∷ flag_byte s.scroll.w
    ∷ s.buffer ∷ s.latch ∷ s.oam_address ∷ s.shift % 256 ∷ s.shift / 256
    ∷ row_flag s.sprite_row ∷ row_left s.sprite_row ∷ row_pixels s.sprite_row ∷ []

-- a word of the registers, as it stands from byte i on
abbrev pub word_at : List ℕ → ℕ → ℕ
word_at bytes i = slice_index bytes i + 256 * slice_index bytes (i + 1)

-- a flag
abbrev pub flag_at : List ℕ → ℕ → Bool
flag_at bytes i = not (slice_index bytes i == 0)

-- a sprite row
abbrev pub row_at : List ℕ → ℕ → Option SpriteRow
row_at bytes i =
    if flag_at bytes i then Some (record { x = slice_index bytes (i + 1); bits = slice_index bytes (i + 2) }) else None

-- the picture with registers and flags taken from their 26 bytes, and no end marked
unfoldable pub with_registers : List ℕ → Screen → Screen
with_registers bytes s = record s {
  position = record { line = word_at bytes 0; dot = word_at bytes 2 };
  odd_frame = flag_at bytes 4;
  control = slice_index bytes 5;
  mask = slice_index bytes 6;
  vertical_blank = flag_at bytes 7;
  sprite_zero_hit = flag_at bytes 8;
  sprite_overflow = flag_at bytes 9;
  hold = flag_at bytes 10;
  near = flag_at bytes 11;
  scroll = record { v = word_at bytes 12; t = word_at bytes 14; x = slice_index bytes 16; w = flag_at bytes 17 };
  buffer = slice_index bytes 18;
  latch = slice_index bytes 19;
  oam_address = slice_index bytes 20;
  shift = word_at bytes 21;
  sprite_row = row_at bytes 23;
  ended = false;
}

-- the 2,400 bytes of the picture; the last 38 are 0
unfoldable pub picture_bytes : Screen → List ℕ
picture_bytes s = s.vram.cells ++ (s.oam ++ (s.vram.palette ++ (register_bytes s ++ replicate 38 0)))

-- a list with the part from a place on replaced
abbrev pub overwritten : ℕ → List ℕ → List ℕ → List ℕ
overwritten at part whole = take at whole ++ (part ++ drop (at + length part) whole)

-- the image with the picture's part replaced
unfoldable pub with_picture : Screen → List ℕ → List ℕ
with_picture s image = take 2048 image ++ (picture_bytes s ++ drop 4448 image)

-- the picture's part of an image
unfoldable pub picture_part : List ℕ → List ℕ
picture_part image = take 2400 (drop 2048 image)

-- the image's part is that of a picture between two units, when no end is marked
pub record Holds (image : List ℕ) (s : Screen) : Type 0 where
  pub fits : IsScreen s
  pub unmarked : s.ended ≡ false
  pub bytes : picture_part image ≡ picture_bytes s

-- some picture of this mirroring stands in the image
abbrev pub IsStored : Bool → List ℕ → Type 0
IsStored vertical image = (s : Screen) × (Holds image s × (s.vram.vertical ≡ vertical))
