use Rattle.std.proofs.Common.{◌≡◌, ◌+◌, ◌-◌, ◌≤◌, ◌++◌, length, take}
use Rattle.std.specs.List.{flat_map, range_with_len}
use Rattle.nj_machine.specs.Frame.{play}
use Rattle.nj_trace.specs.Watch.{line_after, watch_text}
use Rattle.nj_trace.proofs.watching.watch.Given as goal

-- the lines of the frames that are left bring what is missing
abbrev pub invariant-loop-frame : goal.invariant-loop-frame
invariant-loop-frame g l = record {
  text : l.text.items ++ flat_map (line_after l.cart l.script.properties l.movie)
      (range_with_len (l.frame + 1) (length l.movie - l.frame)) ≡ watch_text l.cart l.script.properties l.movie;
  machine : l.machine ≡ play l.cart (take l.frame l.movie);
  frames : l.steps ≤ l.fn.steps + l.frame;
  never_falls : l.fn.steps ≤ l.steps;
}
