-- Visible dots where no pixel is a hit: what is left of them is the fetch of tiles and the shift register (NESdev Wiki,
-- "PPU rendering", "PPU scrolling"; the words are this project's own).
use Rattle.std.specs.Prelude.{◌≡◌, ◌<◌, ◌≤◌, ℕ, zero, suc, ◌+◌, ◌-◌, ◌*◌, ◌/◌, ◌%◌, Bool, true, false, ◌&&◌, ◌==◌, nat_lt, if◌then◌else◌, List, Option}
use Rattle.nj_sprite0.specs.declared.row.SpriteRow.{SpriteRow}
use Rattle.nj_sprite0.specs.Sprite.{shows_at}
use Rattle.nj_dots.specs.declared.screen.Screen.{Screen}
use Rattle.nj_dots.specs.Screen.{is_rendering, shows_both_layers}
use Rattle.nj_dots.specs.Dots.{prefetched, row_stepped}
use Rattle.nj_catchup.specs.Idle.{at_dot}

-- the pixel of a dot may be a hit: both layers are shown, and the latched row has an opaque pixel there
unfoldable pub may_hit : ℕ → Option SpriteRow → ℕ → Bool
may_hit mask row dot = shows_both_layers mask && shows_at row (dot - 1)

-- the next dots are those of visible pixels with rendering on, and none of them can be a hit
pub record IsQuiet (n : ℕ) (s : Screen) : Type 0 where
  pub line : s.position.line < 240
  pub from : 1 ≤ s.position.dot
  pub last : s.position.dot + n ≤ 257
  pub renders : is_rendering s.mask ≡ true
  pub far : s.near ≡ false
  pub misses : (d : ℕ) → s.position.dot ≤ d → d < s.position.dot + n → may_hit s.mask s.sprite_row d ≡ false

-- v a number of tiles to the right, 32 at most; past column 31 it is in the other nametable across
unfoldable pub columns_on : ℕ → ℕ → ℕ
columns_on n v =
    if nat_lt (v % 32 + n) 32 then v + n
    else v / 2048 * 2048 + (1 - v / 1024 % 2) * 1024 + v / 32 % 32 * 32 + (v % 32 + n - 32)

-- a number of tiles further on, none of them fetched
unfoldable pub jumped : ℕ → Screen → Screen
jumped n s = record s {
  position = (let q = s.position in record q { dot = q.dot + 8 * n });
  scroll = (let c = s.scroll in record c { v = columns_on n c.v });
}

-- the eight dots of a tile
unfoldable pub tile_run : List ℕ → Screen → Screen
tile_run pattern s = at_dot (prefetched pattern s) (s.position.dot + 8)

-- a number of tiles
unfoldable pub tiles_run : ℕ → List ℕ → Screen → Screen
tiles_run zero pattern s = s
tiles_run (suc n) pattern s = tile_run pattern (tiles_run n pattern s)

-- after the line's last tile Y moves on
unfoldable pub line_finished : Screen → Screen
line_finished s = if s.position.dot == 257 then (record s { scroll = row_stepped s.scroll }) else s
