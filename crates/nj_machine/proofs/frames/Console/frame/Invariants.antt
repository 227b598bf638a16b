use Rattle.nj_machine.specs.Frame.{dots_left}
use Rattle.nj_machine.proofs.Fuel.{StillIn}
use Rattle.nj_machine.proofs.frames.Console.frame.Given as goal

-- the frame is still the one that began, the cartridge the same, and the processor not jammed
abbrev pub invariant-loop-end : goal.invariant-loop-end
invariant-loop-end g l = StillIn l.fn.pad l.fn.self l.self

abbrev pub decreases-loop-end : goal.decreases-loop-end
decreases-loop-end g l = dots_left l.self
