-- The units of one frame, as they are seen. All of it is this project's own.
use Rattle.std.specs.Prelude.{ℕ, zero, suc, ◌+◌, List, [], ◌∷◌, Option, Some, None, if◌then◌else◌}
use Rattle.nj_machine.specs.State.{State, is_jammed}
use Rattle.nj_machine.specs.Frame.{dots_left, unit_step}
use Rattle.nj_machine.specs.Seen.{seen_of}
use Rattle.nj_machine.specs.declared.FrameEnd.{FrameEnd}
use Rattle.nj_machine.specs.declared.seeing.UnitSeen.{UnitSeen}

-- what follows a unit in its frame: nothing where it ended the frame
abbrev pub behind_unit : Option FrameEnd → List UnitSeen → List UnitSeen
behind_unit (Some end) units = []
behind_unit None units = units

-- the units from a state on up to the first that ends the frame, at most this many
abbrev pub units_from : ℕ → ℕ → State → List UnitSeen
units_from pad zero s = []
units_from pad (suc n) s = seen_of pad s ∷ behind_unit (unit_step pad s).1 (units_from pad n (unit_step pad s).0)

-- the units of the frame with this pad: none where the processor was jammed before. As in a frame each unit that does
-- not end it runs dots, so that it has no more units than dots are left
unfoldable pub frame_units : ℕ → State → List UnitSeen
frame_units pad s = if is_jammed s then [] else units_from pad (dots_left s) s
