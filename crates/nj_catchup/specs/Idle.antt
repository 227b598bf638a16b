-- Which dots do nothing but move the position on (NESdev Wiki, "PPU rendering", read for what is left of a dot when
-- nothing is drawn; the words are this project's own).
use Rattle.std.specs.Prelude.{ℕ, Bool, not, ◌&&◌, ◌||◌, ◌==◌, nat_le, nat_lt, if◌then◌else◌}
use Rattle.nj_dots.specs.declared.screen.Screen.{Screen}

-- with rendering on: the fetches of sprites once the OAM address is clear, and the fetches between two tiles of the
-- next line
unfoldable pub is_idle_shown : Bool → ℕ → Bool
is_idle_shown cleared dot =
    (nat_le 258 dot && nat_le dot 320 && cleared)
    || ((nat_le 321 dot && nat_le dot 327) || ((nat_le 329 dot && nat_le dot 335) || nat_le 337 dot))

-- with rendering off: all but dot 257, which empties the sprite row
unfoldable pub is_idle_hidden : ℕ → Bool
is_idle_hidden dot = not (dot == 257)

-- a dot of a line that is drawn or not, with rendering on or off; the first two dots, at which flags change, and the
-- last two, at which lines and frames end, are left out
unfoldable pub is_idle : Bool → Bool → Bool → ℕ → Bool
is_idle drawn rendering cleared dot =
    nat_le 2 dot && nat_le dot 338
    && (if drawn then (if rendering then is_idle_shown cleared dot else is_idle_hidden dot) else nat_le 2 dot)

-- the line is visible and the OAM address clear
unfoldable pub is_cleared : Screen → Bool
is_cleared s = nat_lt s.position.line 240 && s.oam_address == 0

-- the picture with its position at another dot of the line
abbrev pub at_dot : Screen → ℕ → Screen
at_dot s d = record s { position = (let q = s.position in record q { dot = d }) }
