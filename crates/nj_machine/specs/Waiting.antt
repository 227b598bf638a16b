-- A loop that waits, and how long its turns are known (this project's own).
use Rattle.std.specs.Prelude.{◌≡◌, ◌<◌, ◌≤◌, ℕ, List, Option, Some, None}
use Rattle.nj_banked.specs.Banked.{pattern_of}
use Rattle.nj_cpu.specs.declared.state.Cpu.{Cpu}
use Rattle.nj_dots.specs.declared.screen.Screen.{Screen}
use Rattle.nj_dots.specs.Screen.{nmi_line_of}
use Rattle.nj_dots.specs.Dots.{to_event}
use Rattle.nj_catchup.specs.Fixed.{IsFixed}
use Rattle.nj_turns.specs.Dry.{begun}
use Rattle.nj_turns.specs.Turn.{IsTurn}
use Rattle.nj_machine.specs.State.{Cells}

-- where a status is told, reads of $2002 answer it and change nothing for so many dots
abbrev pub Holds : Option ℕ → ℕ → List ℕ → Screen → Type 0
Holds None dots pattern s = Unit {0}
Holds (Some status) dots pattern s = IsFixed status dots pattern s

-- the processor is in a loop whose turn takes so many cycles and reads memory alone, and $2002 while its status stays;
-- for so many dots at most, which end with the picture's next event at the latest, each turn does the same. Where there
-- are no such dots nothing is said of the loop
pub record IsWait (cpu : Cpu) (c : Cells) (cycles dots : ℕ) : Type 0 where
  pub status : Option ℕ
  pub turn : 0 < dots → IsTurn cpu (begun c.ram c.board status (nmi_line_of c.screen) c.bus_byte) cycles
  pub before_event : dots ≤ to_event c.screen
  pub holds : Holds status dots (pattern_of c.board) c.screen
  pub no_page : c.page ≡ None
  pub some : 0 < cycles
  pub few : cycles ≤ 255
