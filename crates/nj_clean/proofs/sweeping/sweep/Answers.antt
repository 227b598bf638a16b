use Rattle.std.proofs.Common.{◌≡◌, ◌<◌, ◌≤◌, ◌+◌, ◌*◌, List, ℕ, length, fold, get_or, take, drop, refl, ap, sym, ◌∙◌, subst, arith}
use Rattle.std.proofs.lemmas.List.{get_or_default, drop_all}
use Rattle.nj_clean.specs.Presses.{buttons_of, presses_from, presses}
use Rattle.nj_clean.specs.Sweeps.{tried, swept}
use Rattle.nj_clean.specs.Bench.{plan_in, StandsAt}
use Rattle.nj_clean.proofs.Words.{buttons_in, presses_count}
use Rattle.nj_clean.proofs.Standing.{take_fewer}
use Rattle.nj_clean.proofs.Costs.{sweep_on}
use Rattle.nj_clean.proofs.Tries.{step_on, step_counts}
use Rattle.nj_clean.proofs.sweeping.sweep.Goals as goal

pub loop-step-init : goal.loop-step-init
unfolding swept
loop-step-init g c =
    let plan = plan_in c.args.setting in
    let word = c.args.won.now.word.items in
    let size = c.args.setting.script.now.hold * length word in
    let all : size * buttons_in word ≡ size * length (presses word) = ap (λ n. size * n) (sym (presses_count 0 word)) in
    record {
      order = omega arith;
      long = refl;
      word = refl;
      won = c.requires.won;
      stands = c.in_ok-rewind.ensures plan c.requires.stands;
      frames = omega (arith, all);
      never_falls = omega arith;
    }

pub loop-step-preserved : goal.loop-step-preserved
loop-step-preserved g c =
    let plan = plan_in c.args.setting in
    let word = c.loop-step.won.word.items in
    let new = c.sweep_step-at.new.won.word.items in
    let step = c.loop-step.step in
    let inv = c.loop-step.invariant in
    let told = c.sweep_step-at.ensures in
    let hold = c.args.setting.script.now.hold in
    let pad = get_or word step 0 in
    let within : step < length word = omega (arith, c.loop-step-test.true, c.len-step-end.ensures, inv.long) in
    let is : pad ≡ get_or word step pad = get_or_default word step 0 pad within in
    record {
      order = omega (arith, told.order);
      long = told.alters.long ∙ inv.long;
      word = step_on plan word new _ step pad within is told.alters told.word inv.word;
      won = told.won;
      stands =
          subst (λ w. StandsAt plan w c.sweep_step-at.new.bench)
          (sym (take_fewer new word c.sweep_step-at.result step told.order told.alters.before)) told.stands;
      frames =
          sweep_on (hold * length c.args.won.now.word.items) (buttons_in (drop step word)) (length (buttons_of pad))
          (buttons_in (drop (step + 1) new))
          c.loop-step.steps c.sweep_step-at.new.steps _ (step_counts word new step pad within is told.alters) inv.frames
          (subst (λ n. c.sweep_step-at.new.steps ≤ c.loop-step.steps + hold * n * length (buttons_of pad)) inv.long
          told.frames);
      never_falls = omega (arith, inv.never_falls, told.never_falls);
    }

pub sweep_step-at-requires-clause-order : goal.sweep_step-at-requires-clause-order
sweep_step-at-requires-clause-order g c = c.loop-step.invariant.order

pub sweep_step-at-requires-clause-step : goal.sweep_step-at-requires-clause-step
sweep_step-at-requires-clause-step g c =
    omega (arith, c.loop-step-test.true, c.len-step-end.ensures, c.loop-step.invariant.long)

pub sweep_step-at-requires-clause-stands : goal.sweep_step-at-requires-clause-stands
sweep_step-at-requires-clause-stands g c = c.loop-step.invariant.stands

pub sweep_step-at-requires-clause-won : goal.sweep_step-at-requires-clause-won
sweep_step-at-requires-clause-won g c = c.loop-step.invariant.won

pub returns-clause-word : goal.returns-clause-word
returns-clause-word g c =
    let word = c.loop-step.won.word.items in
    let past : length word ≤ c.loop-step.step =
    omega (arith, c.loop-step-test.false, c.len-step-end.ensures, c.loop-step.invariant.long) in
    sym (ap (λ (ws : List ℕ). fold (tried (plan_in c.args.setting)) word (presses_from c.loop-step.step ws))
    (drop_all c.loop-step.step word past)) ∙ c.loop-step.invariant.word

pub returns-clause-won : goal.returns-clause-won
returns-clause-won g c = c.loop-step.invariant.won

pub returns-clause-stands : goal.returns-clause-stands
returns-clause-stands g c = c.loop-step.invariant.stands.stands

pub returns-clause-frames : goal.returns-clause-frames
returns-clause-frames g c = omega (arith, c.loop-step.invariant.frames)

pub returns-clause-never_falls : goal.returns-clause-never_falls
returns-clause-never_falls g c = c.loop-step.invariant.never_falls
