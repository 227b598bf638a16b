use Rattle.std.proofs.Common.{◌≡◌, ◌≤◌, ◌+◌, ◌-◌, ◌*◌, length, map, filter, fold, take, drop}
use Rattle.nj_pad.specs.Pad.{buttons_in_turn}
use Rattle.nj_clean.specs.Presses.{holds, press_at, buttons_of}
use Rattle.nj_clean.specs.Sweeps.{tried}
use Rattle.nj_clean.specs.Bench.{plan_in, StandsAt, IsWon, Alters}
use Rattle.nj_clean.proofs.sweeping.try_step.Given as goal

-- the buttons that are left bring what is missing
abbrev pub invariant-loop-bit : goal.invariant-loop-bit
invariant-loop-bit g l = record {
  word : fold (tried (plan_in l.setting)) l.won.word.items
      (map (press_at l.step) (filter (holds l.pad) (drop l.bit buttons_in_turn)))
      ≡ fold (tried (plan_in l.setting)) l.fn.won.word.items (map (press_at l.step) (buttons_of l.pad));
  alters : Alters l.step l.fn.won.word.items l.won.word.items;
  won : IsWon (plan_in l.setting) l.won;
  stands : StandsAt (plan_in l.setting) (take l.step l.fn.won.word.items) l.bench;
  frames : l.steps + l.setting.script.now.hold * (length l.fn.won.word.items - l.step)
      * length (filter (holds l.pad) (drop l.bit buttons_in_turn))
      ≤ l.fn.steps + l.setting.script.now.hold * (length l.fn.won.word.items - l.step) * length (buttons_of l.pad);
  never_falls : l.fn.steps ≤ l.steps;
}
