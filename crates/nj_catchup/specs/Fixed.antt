-- A status that stays: reads of $2002 that all answer one byte and change nothing (NESdev Wiki, "PPU registers").
use Rattle.std.specs.Prelude.{◌≡◌, ◌<◌, ℕ, false, List}
use Rattle.nj_dots.specs.declared.screen.Screen.{Screen}
use Rattle.nj_dots.specs.Dots.{after_dots}
use Rattle.nj_dots.specs.Registers.{status_byte, read_byte, after_read}

-- after each number of dots below this one, a read of $2002 answers this byte and leaves the picture as it is
pub record IsFixed (status dots : ℕ) (pattern : List ℕ) (s : Screen) : Type 0 where
  pub byte : (d : ℕ) → d < dots → read_byte 2 (after_dots d pattern s) ≡ status
  pub same : (d : ℕ) → d < dots → after_read 2 pattern (after_dots d pattern s) ≡ after_dots d pattern s

-- $2002 was read, and nothing has changed since then of what a read of it answers and clears
pub record IsRead (s : Screen) : Type 0 where
  pub latch : s.latch ≡ status_byte s
  pub vertical_blank : s.vertical_blank ≡ false
  pub w : s.scroll.w ≡ false
