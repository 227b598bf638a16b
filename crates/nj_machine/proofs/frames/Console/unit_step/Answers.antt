-- A step tells whether it left a jam.
use Rattle.nj_machine.proofs.Units.{step_tells}
use Rattle.nj_machine.proofs.frames.Console.unit_step.Goals as goal

pub returns-then-ne-clause-jammed : goal.returns-then-ne-clause-jammed
returns-then-ne-clause-jammed g c = step_tells _ _ _ _ c.see_unit-step.ensures.step

pub returns-else-ne-clause-jammed : goal.returns-else-ne-clause-jammed
returns-else-ne-clause-jammed g c = step_tells _ _ _ _ c.see_unit-step.ensures.step
