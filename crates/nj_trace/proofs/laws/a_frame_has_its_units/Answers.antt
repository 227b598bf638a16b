use Rattle.nj_trace.proofs.FrameUnits.{frame_has}
use Rattle.nj_trace.proofs.laws.a_frame_has_its_units.Goals as goal

pub returns : goal.returns
returns c s pad ready runs =
    frame_has (record { nearer = c.frames_are_units.ensures.nearer; ready = c.frames_are_units.ensures.ready }) s
    pad ready runs
    (c.frame_is_first.ensures s pad ready)
