-- The pads so far were run, each judged by what was satisfied before it.
use Rattle.std.proofs.Common.{◌≡◌, ◌+◌, ◌*◌, ◌≤◌, take}
use Rattle.nj_machine.specs.State.{rom_of}
use Rattle.nj_machine.specs.Image.{of_image}
use Rattle.nj_candidate.specs.Resuming.{Reached, replayed}
use Rattle.nj_candidate.proofs.resuming.replay.Given as goal

abbrev pub invariant-loop-pad : goal.invariant-loop-pad
invariant-loop-pad g l =
    let from : Reached = record { state = of_image (rom_of l.fn.machine) l.fn.image; judged = l.fn.judged } in
    let to : Reached = record { state = l.machine; judged = l.told } in
    record {
      reached : to ≡ replayed l.script from (take l.pad-index l.word);
      cartridge : rom_of l.machine ≡ rom_of l.fn.machine;
      frames : l.steps ≤ l.fn.steps + l.script.hold * l.pad-index;
      never_falls : l.fn.steps ≤ l.steps;
    }
