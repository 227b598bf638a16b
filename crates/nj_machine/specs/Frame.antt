-- One frame, and the play of a movie.
use Rattle.std.specs.Prelude.{◌≡◌, ℕ, zero, suc, ◌+◌, ◌-◌, ◌*◌, ◌<◌, nat_le, Bool, false, if◌then◌else◌, List, fold, length, Option, Some, None}
use Rattle.nj_ines.specs.Cartridge.{Cartridge}
use Rattle.nj_banked.specs.Banks.{IsBanks}
use Rattle.nj_cpu.specs.declared.state.UnitEnd.{UnitEnd}
use Rattle.nj_cpu.specs.declared.state.UnitEnd.TheVariants.{Done, Jammed as JammedUnit}
use Rattle.nj_cpu.specs.Unit.{unit_of}
use Rattle.nj_dots.specs.Screen.{IsScreen}
use Rattle.nj_machine.specs.State.{Cells, State, power_on}
use Rattle.nj_machine.specs.Wires.{wires}
use Rattle.nj_machine.specs.declared.FrameEnd.{FrameEnd}
use Rattle.nj_machine.specs.declared.FrameEnd.TheVariants.{Picture, Jammed}

-- how many dots are left up to and including dot (241,1), from the dot that is the next one; a dot that is skipped
-- makes the number fall by one more
unfoldable pub left_at : ℕ → ℕ → ℕ
left_at line dot =
    let place = line * 341 + dot in if nat_le place 82182 then 82183 - place else 171525 - place

-- the same from a state
unfoldable pub dots_left : State → ℕ
dots_left s = left_at s.cells.screen.position.line s.cells.screen.position.dot

-- how a unit ended the frame, if it did: by a jam, or by running dot (241,1)
abbrev pub end_by : UnitEnd → Bool → Option FrameEnd
end_by JammedUnit ended = Some Jammed
end_by Done ended = if ended then Some Picture else None

-- the mark of dot (241,1) is taken off
abbrev pub unmarked : Cells → Cells
unmarked c = record c { screen = (let s = c.screen in record s { ended = false }) }

-- the state after one unit with this pad, and how the unit ended the frame
unfoldable pub unit_step : ℕ → State → State × Option FrameEnd
unit_step pad s =
    let u = unit_of wires s.cpu (record { cells = s.cells; pad = pad }) in
    (record { cpu = u.cpu; cells = unmarked u.held.cells }, end_by u.end_ u.held.cells.screen.ended)

-- what a unit leaves where it ended the frame, else what follows it
abbrev pub or_on : State → Option FrameEnd → (State → State × FrameEnd) → State × FrameEnd
or_on s None next = next s
or_on s (Some end) next = (s, end)

-- units up to and including the first that ends the frame, at most this many
unfoldable pub units_until : ℕ → ℕ → State → State × FrameEnd
units_until pad zero s = (s, Picture)
units_until pad (suc n) s = or_on (unit_step pad s).0 (unit_step pad s).1 (units_until pad n)

-- one frame with this pad: units up to and including the first that runs dot (241,1), or up to a jam. Each unit that
-- does not end it runs dots, so that it has no more units than dots are left
unfoldable pub frame : State → ℕ → State × FrameEnd
frame s pad = units_until pad (dots_left s) s

-- the state after one frame for each pad, from this one
abbrev pub frames : State → List ℕ → State
frames s pads = fold (λ s pad. (frame s pad).0) s pads

-- the state after a movie: one frame for each pad, from power-on
abbrev pub play : Cartridge → List ℕ → State
play cart movie = frames (power_on cart) movie

-- the memories have their sizes, and the picture's numbers their ranges
pub record IsSized (c : Cells) : Type 0 where
  pub screen : IsScreen c.screen
  pub ram : length c.ram ≡ 2048
  pub board : IsBanks c.board

-- what a state between two units keeps: its memories have their sizes, its next dot is in the picture, and its mark is
-- clear
pub record IsReady (s : State) : Type 0 where
  pub sized : IsSized s.cells
  pub clear : s.cells.screen.ended ≡ false

-- the state after n units
abbrev pub units : ℕ → ℕ → State → State
units pad zero s = s
units pad (suc n) s = units pad n (unit_step pad s).0

-- the unit after n units is the first that ends the frame, and ends it so
pub record IsFirstEnd (s : State) (pad : ℕ) (n : ℕ) (end : State × FrameEnd) : Type 0 where
  pub before : (k : ℕ) → k < n → (unit_step pad (units pad k s)).1 ≡ None
  pub at_ : unit_step pad (units pad n s) ≡ (end.0, Some end.1)
