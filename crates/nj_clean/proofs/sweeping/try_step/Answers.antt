use Rattle.std.proofs.Common.{◌≤◌, ◌+◌, ◌-◌, ◌*◌, ◌∷◌, [], length, filter, drop, subst, arith}
use Rattle.nj_pad.specs.Pad.{buttons_in_turn}
use Rattle.nj_clean.specs.Presses.{holds, press_at}
use Rattle.nj_clean.specs.Sweeps.{tried}
use Rattle.nj_clean.specs.Bench.{plan_in, StandsAt}
use Rattle.nj_clean.proofs.Costs.{sweep_on}
use Rattle.nj_clean.proofs.Tries.{alters_on, button_left, buttons_counted}
use Rattle.nj_clean.proofs.sweeping.try_step.Goals as goal

pub loop-bit-preserved : goal.loop-bit-preserved
loop-bit-preserved g c =
    let plan = plan_in c.args.setting in
    let word = c.args.won.now.word.items in
    let bit = c.loop-bit.bit in
    let button = c.button_at-button.result in
    let all = drop bit buttons_in_turn in
    let rest = drop (bit + 1) buttons_in_turn in
    let inv = c.loop-bit.invariant in
    let told = c.try_button.ensures in
    let hold = c.args.setting.script.now.hold in
    let once = length (filter (holds c.args.pad) (button ∷ [])) in
    record {
      word =
          button_left (tried plan) (press_at c.args.step)
          (holds c.args.pad) c.loop-bit.won.word.items c.try_button.new.won.word.items _ button all rest
          c.button_at-button.ensures told.word inv.word;
      alters =
          alters_on c.args.step word c.loop-bit.won.word.items c.try_button.new.won.word.items inv.alters told.alters;
      won = told.won;
      stands = subst (λ w. StandsAt plan w c.try_button.new.bench) inv.alters.before told.stands;
      frames =
          sweep_on (hold * (length word - c.args.step)) (length (filter (holds c.args.pad) all)) once
          (length (filter (holds c.args.pad) rest)) c.loop-bit.steps
          c.try_button.new.steps _
          (buttons_counted (holds c.args.pad) button all rest c.button_at-button.ensures) inv.frames
          (subst (λ n. c.try_button.new.steps ≤ c.loop-bit.steps + hold * (n - c.args.step) * once) inv.alters.long
          told.frames);
      never_falls = omega (arith, inv.never_falls, told.never_falls);
    }
