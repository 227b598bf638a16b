use Rattle.std.proofs.Common.{◌≡◌, ◌+◌, ◌≤◌, take}
use Rattle.nj_machine.specs.State.{rom_of}
use Rattle.nj_machine.specs.Frame.{frames}
use Rattle.nj_machine.proofs.frames.Console.play.Given as goal

-- the pads so far were played, each in at most one step
abbrev pub invariant-loop-pad : goal.invariant-loop-pad
invariant-loop-pad g l = record {
  played : l.self ≡ frames l.fn.self (take l.pad-index l.pads);
  cartridge : rom_of l.self ≡ rom_of l.fn.self;
  counted : l.steps ≤ l.fn.steps + l.pad-index;
  never_falls : l.fn.steps ≤ l.steps;
}
