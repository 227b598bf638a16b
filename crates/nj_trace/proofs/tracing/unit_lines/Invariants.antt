use Rattle.std.proofs.Common.{◌≡◌, ◌+◌, ◌≤◌, ◌++◌, length}
use Rattle.std.specs.List.{flat_map}
use Rattle.nj_machine.specs.Frame.{dots_left, IsReady}
use Rattle.nj_trace.specs.Units.{units_from, frame_units}
use Rattle.nj_trace.specs.Trace.{unit_line}
use Rattle.nj_trace.proofs.tracing.unit_lines.Given as goal

-- the units that are left bring what is missing, and none of the units so far ended the frame
abbrev pub invariant-loop-text : goal.invariant-loop-text
invariant-loop-text g l = record {
  ready : IsReady l.machine;
  text : l.text.items ++ flat_map unit_line (units_from l.pad (dots_left l.machine) l.machine)
      ≡ flat_map unit_line (frame_units l.pad l.fn.machine);
  count : l.count + length (units_from l.pad (dots_left l.machine) l.machine) ≡ length (frame_units l.pad l.fn.machine);
  few : l.count + dots_left l.machine ≤ 171525;
  steps : l.steps ≡ l.fn.steps;
}

abbrev pub decreases-loop-text : goal.decreases-loop-text
decreases-loop-text g l = dots_left l.machine
