use Rattle.std.proofs.Common.{◌≡◌, ◌≤◌, ◌+◌, ◌*◌, length, fold, take, drop}
use Rattle.nj_clean.specs.Presses.{presses_from, presses}
use Rattle.nj_clean.specs.Sweeps.{tried, swept}
use Rattle.nj_clean.specs.Bench.{plan_in, StandsAt, IsWon}
use Rattle.nj_clean.proofs.Words.{buttons_in}
use Rattle.nj_clean.proofs.sweeping.sweep.Given as goal

-- the steps that are left bring what is missing
abbrev pub invariant-loop-step : goal.invariant-loop-step
invariant-loop-step g l = record {
  order : l.at ≤ l.step;
  long : length l.won.word.items ≡ length l.fn.won.word.items;
  word : fold (tried (plan_in l.setting)) l.won.word.items (presses_from l.step (drop l.step l.won.word.items))
      ≡ swept (plan_in l.setting) l.fn.won.word.items;
  won : IsWon (plan_in l.setting) l.won;
  stands : StandsAt (plan_in l.setting) (take l.at l.won.word.items) l.bench;
  frames : l.steps + l.setting.script.now.hold * length l.fn.won.word.items * buttons_in (drop l.step l.won.word.items)
      ≤ l.fn.steps + l.setting.script.now.hold * length l.fn.won.word.items * length (presses l.fn.won.word.items);
  never_falls : l.fn.steps ≤ l.steps;
}
