use Rattle.std.proofs.Common.{◌≡◌, ◌+◌, ◌≤◌, take, fold}
use Rattle.nj_machine.specs.Frame.{frame}
use Rattle.nj_commands.proofs.play.run_frames.Given as goal

-- the pads so far were played, each in at most one step
abbrev pub invariant-loop-pad : goal.invariant-loop-pad
invariant-loop-pad g l = record {
  state : l.machine ≡ fold (λ s pad. (frame s pad).0) l.fn.machine (take l.pad-index l.pads);
  frames : l.steps ≤ l.fn.steps + l.pad-index;
  never_falls : l.fn.steps ≤ l.steps;
}
