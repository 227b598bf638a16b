-- Places of a frame, its dots counted from 0 (NESdev Wiki, "PPU rendering", "Pre-render scanline", for the dot that is
-- left out).
use Rattle.std.specs.Prelude.{◌≡◌, ◌≢◌, ◌<◌, ◌≤◌, ℕ, ◌+◌, ◌-◌, ◌/◌, ◌%◌, Bool, false, ◌&&◌, nat_le, nat_lt, if◌then◌else◌, None, ◌⊎◌}
use Rattle.nj_dots.specs.declared.screen.Screen.{Screen}
use Rattle.nj_dots.specs.Screen.{is_rendering}

-- how many dots the frame has, seen from a place in it: past the dot that may be left out it is whole
unfoldable pub frame_dots : ℕ → Bool → ℕ
frame_dots place skips = if nat_le place 89340 && skips then 89341 else 89342

-- the place a number of dots ahead, in this frame or the next
unfoldable pub place_ahead : ℕ → ℕ → Bool → ℕ
place_ahead dots place skips =
    if nat_lt (place + dots) (frame_dots place skips) then place + dots else place + dots - frame_dots place skips

-- the picture with its position at another place of the frame
abbrev pub at_place : Screen → ℕ → Screen
at_place s place = record s { position = record { line = place / 341; dot = place % 341 } }

-- the dot of a place neither changes the vertical blank flag nor is the frame's last
pub record IsBetween (place : ℕ) : Type 0 where
  pub begins : place ≢ 82182
  pub ends : place ≢ 89002
  pub last : place < 89341

-- such a dot does nothing but move the position on: rendering is off and no row of sprite zero is latched, or it is
-- below the visible lines and before the pre-render line (NESdev Wiki, "PPU rendering")
pub record IsBlank (s : Screen) (place : ℕ) : Type 0 where
  pub between : IsBetween place
  pub still : ((is_rendering s.mask ≡ false) × (s.sprite_row ≡ None)) ⊎ ((81840 ≤ place) × (place < 89001))
