-- What the definitions of dots and accesses mean, in the words of the NESdev Wiki.
use Rattle.std.specs.Prelude.{◌≡◌, ℕ, zero, suc, ◌+◌, ◌-◌, ◌*◌, ◌/◌, ◌%◌, ◌<◌, ◌≤◌, true, false, ◌&&◌, ◌⊎◌, if◌then◌else◌}
use Rattle.nj_sprite0.specs.Sprite.{has_bit, in_range_of}
use Rattle.nj_dots.specs.declared.screen.Screen.{Screen}
use Rattle.nj_dots.specs.Screen.{is_rendering, shows_left_columns}

-- the next dot is this one
pub record IsNext (l d : ℕ) (s : Screen) : Type 0 where
  pub line : s.position.line ≡ l
  pub dot : s.position.dot ≡ d

-- the next dot is the frame's first, (0,0)
abbrev pub IsStart : Screen → Type 0
IsStart s = IsNext 0 0 s

-- how many dots a frame has from its first one on: 341 of each of 262 lines, one less in an odd frame with rendering on
-- (NESdev Wiki, "PPU frame timing")
unfoldable pub frame_length : Screen → ℕ
frame_length s = if s.odd_frame && is_rendering s.mask then 89341 else 89342

-- the next dot is one at which the vertical blank flag changes
abbrev pub IsEvent : Screen → Type 0
IsEvent s = IsNext 241 1 s ⊎ IsNext 261 1 s

-- the first picture with what a dot may change while rendering is off, taken from the second
abbrev pub with_timing : Screen → Screen → Screen
with_timing s e = record s {
  position = e.position;
  odd_frame = e.odd_frame;
  vertical_blank = e.vertical_blank;
  sprite_zero_hit = e.sprite_zero_hit;
  sprite_overflow = e.sprite_overflow;
  hold = e.hold;
  near = e.near;
  sprite_row = e.sprite_row;
  ended = e.ended;
}

-- the picture differs in nothing else: each cell, scroll register, latch and address is as it was
pub record ChangesTimingAlone (s e : Screen) : Type 0 where
  pub same : e ≡ with_timing s e

-- a visible pixel that may be a hit of sprite zero is next: no 255, and none of hidden left columns
pub record IsHitPlace (s : Screen) : Type 0 where
  pub line : s.position.line < 240
  pub from : 1 ≤ s.position.dot
  pub last : s.position.dot ≤ 255
  pub left : shows_left_columns s.mask ≡ false → 9 ≤ s.position.dot

-- a step repeated
unfoldable pub repeated : ℕ → (ℕ → ℕ) → ℕ → ℕ
repeated zero step v = v
repeated (suc n) step v = step (repeated n step v)

-- the same place of the other nametable across, with bit 10 turned
unfoldable pub other_across : ℕ → ℕ
other_across v = v / 2048 * 2048 + (1 - v / 1024 % 2) * 1024 + v % 1024

-- the same place of the other nametable down, with bit 11 turned
unfoldable pub other_down : ℕ → ℕ
other_down v = v / 4096 * 4096 + (1 - v / 2048 % 2) * 2048 + v % 2048

-- dot 257 of a visible line is next, with rendering on, and the line is one of at least nine sprites (bit 5 of $2000
-- makes them tall)
pub record IsOverflow (s : Screen) : Type 0 where
  pub line : s.position.line < 240
  pub dot : s.position.dot ≡ 257
  pub renders : is_rendering s.mask ≡ true
  pub sprites : 9 ≤ in_range_of s.oam s.position.line (has_bit s.control 5)
