-- The words before this place are run again.
use Rattle.std.proofs.Common.{length}
use Rattle.nj_machine.specs.State.{rom_of}
use Rattle.nj_machine.specs.Image.{of_image}
use Rattle.nj_candidate.specs.Resuming.{Reached}
use Rattle.nj_candidate.proofs.Replays.{Task, AreRunTo}
use Rattle.nj_candidate.proofs.resuming.replay_all.Given as goal

abbrev pub invariant-loop-place : goal.invariant-loop-place
invariant-loop-place g l =
    let from : Reached =
    record { state = of_image (rom_of l.fn.begun.machine) l.fn.begun.image.items; judged = l.fn.begun.judged } in
    let task : Task = record {
      saved = l.saved;
      script = l.script;
      from = from;
      base = l.fn.begun.image.items;
      limit = l.limit;
      rom = rom_of l.fn.begun.machine;
      steps = l.fn.steps;
    } in
    AreRunTo task l.place l.again.pool l.again.judged.items (length l.own.items) l.machine l.steps
