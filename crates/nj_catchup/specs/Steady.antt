-- Reads of $2002 that pending dots do not change (NESdev Wiki, "PPU registers", "NMI"; the words are this project's
-- own).
use Rattle.std.specs.Prelude.{◌≡◌, ◌≢◌, ◌<◌, ◌≤◌, ℕ, ◌+◌, ◌-◌, ◌*◌, false, List, slice_index, Option, None, ◌⊎◌}
use Rattle.nj_sprite0.specs.declared.row.SpriteRow.{SpriteRow}
use Rattle.nj_sprite0.specs.Sprite.{has_bit, height_of, shows_at}
use Rattle.nj_dots.specs.declared.screen.Screen.{Screen}
use Rattle.nj_dots.specs.Screen.{place_of}
use Rattle.nj_dots.specs.Dots.{after_dots, to_event}

-- the dots end before the one ahead of the next change of the vertical blank flag, and they leave the hit flag and the
-- overflow flag as they are
pub record IsSteady (dots : ℕ) (pattern : List ℕ) (s : Screen) : Type 0 where
  pub apart : dots + 1 < to_event s
  pub hit : (after_dots dots pattern s).sprite_zero_hit ≡ s.sprite_zero_hit
  pub overflow : (after_dots dots pattern s).sprite_overflow ≡ s.sprite_overflow

-- a dot that a number of dots may lead to, on the same line or on the next
abbrev pub IsAlong : ℕ → ℕ → ℕ → Type 0
IsAlong from dots to = (to ≡ from + dots) ⊎ ((340 ≤ from + dots) × (to ≤ from + dots - 340))

-- a dot that latches no row of sprite zero and counts no sprites, and whose pixel is none of this row's
pub record IsAside (row : Option SpriteRow) (dot : ℕ) : Type 0 where
  pub latch : dot ≢ 257
  pub miss : 1 ≤ dot → dot ≤ 255 → shows_at row (dot - 1) ≡ false

-- no row of sprite zero is latched, and the dots latch none: they end in this frame, at dot 257 of the first of its
-- lines or before, or begin below the last
pub record IsAway (dots : ℕ) (s : Screen) : Type 0 where
  pub row : s.sprite_row ≡ None
  pub frame : place_of s.position + dots ≤ 89341
  pub lines : (place_of s.position + dots ≤ slice_index s.oam 0 * 341 + 257)
      ⊎ (slice_index s.oam 0 + height_of (has_bit s.control 5) ≤ s.position.line)
