use Rattle.std.proofs.Common.{◌≡◌, ◌+◌, ◌*◌, ◌≤◌, ◌++◌, take}
use Rattle.nj_machine.specs.State.{rom_of}
use Rattle.nj_search_defs.specs.Game.{Word}
use Rattle.nj_game.specs.Plan.{Plan}
use Rattle.nj_replay.specs.Replay.{IsAfter}
use Rattle.nj_clean.proofs.bench.run_steps.Given as goal

-- so many steps were run
abbrev pub invariant-loop-pad : goal.invariant-loop-pad
invariant-loop-pad g l = record {
  after : (plan : Plan) (word : Word) → plan.script ≡ l.script → IsAfter plan word l.fn.machine l.fn.before
      → IsAfter plan (word ++ take l.pad-index l.pads) l.machine l.judged;
  cartridge : rom_of l.machine ≡ rom_of l.fn.machine;
  frames : l.steps ≤ l.fn.steps + l.script.hold * l.pad-index;
  never_falls : l.fn.steps ≤ l.steps;
}
