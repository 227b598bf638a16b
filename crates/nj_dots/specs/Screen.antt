-- The state of the picture, and what of it other definitions read (NESdev Wiki, "PPU registers").
use Rattle.std.specs.Prelude.{◌≡◌, ℕ, ◌+◌, ◌*◌, ◌<◌, Bool, false, ◌||◌, ◌&&◌, ◌==◌, List, [], ◌∷◌, length, replicate, slice_index, None}
use Rattle.nj_vram.specs.Home.{blank}
use Rattle.nj_vram.specs.Laws.{IsSized}
use Rattle.nj_sprite0.specs.Sprite.{has_bit}
use Rattle.nj_dots.specs.declared.position.Position.{Position}
use Rattle.nj_dots.specs.declared.screen.Screen.{Screen}

-- the picture at power-on: all 0, the next dot is (0,0) (this project's own choice)
unfoldable pub power_on : Bool → Screen
power_on vertical = record {
  position = record { line = 0; dot = 0 };
  odd_frame = false;
  control = 0;
  mask = 0;
  vertical_blank = false;
  sprite_zero_hit = false;
  sprite_overflow = false;
  hold = false;
  near = false;
  scroll = record { v = 0; t = 0; x = 0; w = false };
  buffer = 0;
  latch = 0;
  oam_address = 0;
  shift = 0;
  sprite_row = None;
  ended = false;
  oam = replicate 256 0;
  vram = blank vertical;
}

-- the place of a dot in its frame, all dots of 341 a line counted from 0
abbrev pub place_of : Position → ℕ
place_of p = p.line * 341 + p.dot

-- the position is one of a frame: 262 lines of 341 dots
pub record IsPlaced (p : Position) : Type 0 where
  pub line : p.line < 262
  pub dot : p.dot < 341

-- position and fine X are in their ranges, the memories have their sizes
pub record IsScreen (s : Screen) : Type 0 where
  pub placed : IsPlaced s.position
  pub fine_x : s.scroll.x < 8
  pub oam : length s.oam ≡ 256
  pub vram : IsSized s.vram

-- rendering is on: background or sprites are shown (NESdev Wiki, "PPU registers", $2001)
unfoldable pub is_rendering : ℕ → Bool
is_rendering mask = has_bit mask 3 || has_bit mask 4

-- both layers are shown, as a hit needs
unfoldable pub shows_both_layers : ℕ → Bool
shows_both_layers mask = has_bit mask 3 && has_bit mask 4

-- both layers are shown in the eight left columns too
unfoldable pub shows_left_columns : ℕ → Bool
shows_left_columns mask = has_bit mask 1 && has_bit mask 2

-- the NMI line: the vertical blank flag, where bit 7 of $2000 lets it through (NESdev Wiki, "NMI")
unfoldable pub nmi_line_of : Screen → Bool
nmi_line_of s = s.vertical_blank && has_bit s.control 7

-- the next dot is this one
unfoldable pub is_next : ℕ → ℕ → Screen → Bool
is_next line dot s = s.position.line == line && s.position.dot == dot

-- bytes 0 to 3 of OAM, sprite zero (NESdev Wiki, "PPU OAM")
unfoldable pub first_sprite : List ℕ → List ℕ
first_sprite oam = slice_index oam 0 ∷ slice_index oam 1 ∷ slice_index oam 2 ∷ slice_index oam 3 ∷ []
