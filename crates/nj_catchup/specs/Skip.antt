-- Visible lines of which nothing is left but Y, and what a line leaves of which more is left (NESdev Wiki, "PPU
-- rendering", "PPU scrolling"; the words are this project's own).
use Rattle.std.specs.Prelude.{◌≡◌, ◌<◌, ◌≤◌, ℕ, ◌+◌, true, false, ◌||◌, List, slice_index}
use Rattle.nj_sprite0.specs.Sprite.{has_bit, is_in_range}
use Rattle.nj_dots.specs.declared.screen.Screen.{Screen}
use Rattle.nj_dots.specs.Screen.{IsScreen, is_rendering}
use Rattle.nj_dots.specs.Scroll.{next_row}
use Rattle.nj_dots.specs.Dots.{latched, overflows, prefetched}
use Rattle.nj_dots.specs.Laws.{repeated}
use Rattle.nj_catchup.specs.Idle.{at_dot}

-- dot 257 of a visible line is next, with rendering on and no hit near
pub record IsLineEnd (s : Screen) : Type 0 where
  pub line : s.position.line < 240
  pub dot : s.position.dot ≡ 257
  pub renders : is_rendering s.mask ≡ true
  pub far : s.near ≡ false

-- so many lines from this one on, all visible and with a visible one behind them: sprite zero has none of them, and
-- none of them raises the overflow flag
pub record IsPlain (n : ℕ) (s : Screen) : Type 0 where
  pub within : s.position.line + n < 240
  pub row : (l : ℕ) → s.position.line ≤ l → l < s.position.line + n
      → is_in_range (slice_index s.oam 0) l (has_bit s.control 5) ≡ false
  pub overflow : (l : ℕ) → s.position.line ≤ l → l < s.position.line + n
      → (s.sprite_overflow || overflows s.oam s.control l) ≡ s.sprite_overflow

-- so many lines on, by Y alone
unfoldable pub lines_on : ℕ → Screen → Screen
lines_on n s = record s {
  position = (let q = s.position in record q { line = q.line + n });
  scroll = (let c = s.scroll in record c { v = repeated n next_row c.v });
}

-- dots 257 to 336: the line's latches, and the next line's first two tiles
unfoldable pub line_prepared : List ℕ → Screen → Screen
line_prepared pattern s = at_dot (prefetched pattern (prefetched pattern (latched pattern s))) 337
