use Rattle.std.proofs.Common.{◌≡◌, ◌+◌, ◌≤◌, [], length, take, drop}
use Rattle.nj_game.specs.Plan.{Plan, held_pads}
use Rattle.nj_replay.specs.Reading.{first_pads}
use Rattle.nj_replay.specs.Replay.{IsAfter}
use Rattle.nj_replay.proofs.running.Run.follow.Given as goal

-- so many steps of the word were run, and the rest of it is left
abbrev pub invariant-loop-rest : goal.invariant-loop-rest
invariant-loop-rest g l = record {
  within : l.count ≤ length (first_pads l.hold l.behind);
  left : l.rest ≡ held_pads l.hold (drop l.count (first_pads l.hold l.behind));
  counted : l.count + length l.rest ≤ length l.behind;
  frames : l.steps + length l.rest ≤ l.fn.steps + length l.behind;
  never_falls : l.fn.steps ≤ l.steps;
  after :
      (plan : Plan) → plan.script.rules ≡ l.rules → plan.script.hold ≡ l.hold →
      IsAfter plan [] l.fn.self.machine l.fn.self.judged →
      IsAfter plan (take l.count (first_pads l.hold l.behind)) l.self.machine l.self.judged;
}

abbrev pub decreases-loop-rest : goal.decreases-loop-rest
decreases-loop-rest g l = length l.rest
