use Rattle.std.proofs.Common.{◌≡◌, ◌+◌, ◌≤◌}
use Rattle.nj_machine.specs.State.{rom_of}
use Rattle.nj_game.specs.Words.{held}
use Rattle.nj_candidate.proofs.candidate.hold_pad.Given as goal

-- the pad was held so far, each frame in at most one step
abbrev pub invariant-loop-frame : goal.invariant-loop-frame
invariant-loop-frame g l = record {
  state : l.machine ≡ held l._frame l.pad l.fn.machine;
  cartridge : rom_of l.machine ≡ rom_of l.fn.machine;
  frames : l.steps ≤ l.fn.steps + l._frame;
  never_falls : l.fn.steps ≤ l.steps;
}
