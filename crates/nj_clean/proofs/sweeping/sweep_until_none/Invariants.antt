use Rattle.std.proofs.Common.{◌≡◌, ◌≤◌, ◌+◌, ◌-◌, ◌*◌, length}
use Rattle.nj_clean.specs.Presses.{presses}
use Rattle.nj_clean.specs.Sweeps.{cleaned}
use Rattle.nj_clean.specs.Bench.{plan_in, Stands, IsWon}
use Rattle.nj_clean.proofs.Words.{AreBytes}
use Rattle.nj_clean.proofs.sweeping.sweep_until_none.Given as goal

-- the word is cleaned to the same, and each sweep so far released a press
abbrev pub invariant-loop-bench : goal.invariant-loop-bench
invariant-loop-bench g l = record {
  stands : Stands (plan_in l.setting) l.bench;
  won : IsWon (plan_in l.setting) l.won;
  bytes : AreBytes l.won.word.items;
  long : length l.won.word.items ≡ length l.fn.won.word.items;
  same : cleaned (plan_in l.setting) l.won.word.items ≡ cleaned (plan_in l.setting) l.fn.won.word.items;
  counted : l.before ≡ length (presses l.won.word.items);
  within : l.before ≤ length (presses l.fn.won.word.items);
  frames : l.steps ≤ (l.fn.steps + length l.setting.start.now) + l.setting.script.now.hold * length l.fn.won.word.items
      * length (presses l.fn.won.word.items) * (length (presses l.fn.won.word.items) - l.before);
  never_falls : l.fn.steps ≤ l.steps;
}

abbrev pub decreases-loop-bench : goal.decreases-loop-bench
decreases-loop-bench g l = l.before
