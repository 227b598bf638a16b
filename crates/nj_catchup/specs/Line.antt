-- A visible line with a row of sprite zero (NESdev Wiki, "PPU rendering", "Sprite zero hits"; the words are this
-- project's own).
use Rattle.std.specs.Prelude.{◌≡◌, ℕ, ◌-◌, ◌/◌, ◌%◌, ◌^◌, true, Some, None}
use Rattle.nj_sprite0.specs.declared.row.SpriteRow.{SpriteRow}
use Rattle.nj_dots.specs.declared.screen.Screen.{Screen}
use Rattle.nj_dots.specs.Screen.{shows_both_layers}
use Rattle.nj_catchup.specs.Tiles.{IsQuiet}

-- the opaque pixels that the next eight dots show, leftmost in bit 7: where they begin is said by the fine X
unfoldable pub shown_byte : Screen → ℕ
shown_byte s = s.shift / 2 ^ (8 - s.scroll.x) % 256

-- dot 1 of a visible line that latched this row, both layers shown and no hit near: without the row the line is quiet
pub record IsRowLine (row : SpriteRow) (s : Screen) : Type 0 where
  pub quiet : IsQuiet 256 (record s { sprite_row = None })
  pub first : s.position.dot ≡ 1
  pub both : shows_both_layers s.mask ≡ true
  pub latched : s.sprite_row ≡ Some row
