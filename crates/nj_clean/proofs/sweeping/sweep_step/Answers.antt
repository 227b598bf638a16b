use Rattle.std.proofs.Common.{◌≡◌, ◌<◌, ◌≤◌, ◌+◌, ◌-◌, ◌*◌, length, map, fold, take, get_or, ap, sym, subst, ◌∙◌, arith}
use Rattle.std.proofs.lemmas.List.{get_or_default}
use Rattle.nj_clean.specs.Presses.{press_at, buttons_of}
use Rattle.nj_clean.specs.Sweeps.{tried}
use Rattle.nj_clean.specs.Bench.{plan_in, StandsAt}
use Rattle.nj_clean.proofs.Pads.{some_button}
use Rattle.nj_clean.proofs.Costs.{step_cost}
use Rattle.nj_clean.proofs.Tries.{alters_none}
use Rattle.nj_clean.proofs.sweeping.sweep_step.Goals as goal

pub returns-clause-frames : goal.returns-clause-frames
returns-clause-frames g c =
    let word = c.args.won.now.word.items in
    let hold = c.args.setting.script.now.hold in
    let pad = get_or word c.args.step 0 in
    let is : c.index-pad.result.now ≡ pad = c.index-pad.ensures ∙ get_or_default _ _ _ 0 c.requires.step in
    let held : 0 < length (buttons_of c.pad.inside.0) =
    some_button c.pad.inside.0 (omega arith) (omega (arith, c.if-pad-eq0.false)) in
    let same = ap (λ x. length (buttons_of x)) (c.pad.view_is ∙ is) in
    let cost = step_cost hold (length word) c.args.at c.args.step (length (buttons_of pad)) c.requires.order
    (omega (arith, c.requires.step)) (omega (arith, held, same)) in
    let tries : c.try_step.new.steps
    ≤ c.move_front.new.steps + hold * (length word - c.args.step) * length (buttons_of pad) =
    subst (λ x. c.try_step.new.steps ≤ c.move_front.new.steps + hold * (length word - c.args.step)
    * length (buttons_of x)) is c.try_step.ensures.frames in
    omega (arith, cost, tries, c.move_front.ensures.frames)

pub returns-then-pad-eq0-clause-alters : goal.returns-then-pad-eq0-clause-alters
returns-then-pad-eq0-clause-alters g c = alters_none c.args.step c.args.won.now.word.items

pub returns-then-pad-eq0-clause-won : goal.returns-then-pad-eq0-clause-won
returns-then-pad-eq0-clause-won g c = c.requires.won

pub returns-then-pad-eq0-clause-stands : goal.returns-then-pad-eq0-clause-stands
returns-then-pad-eq0-clause-stands g c = c.requires.stands

pub returns-then-pad-eq0-clause-frames : goal.returns-then-pad-eq0-clause-frames
returns-then-pad-eq0-clause-frames g c = omega arith

pub move_front-requires-clause-stands : goal.move_front-requires-clause-stands
move_front-requires-clause-stands g c =
    subst (λ w. StandsAt (plan_in c.args.setting) (take c.args.at w) c.args.bench.now) (sym c.as_slice.ensures.value)
    c.requires.stands

pub move_front-requires-clause-within : goal.move_front-requires-clause-within
move_front-requires-clause-within g c = omega (arith, ap length c.as_slice.ensures.value, c.requires.step)

pub try_step-requires-clause-stands : goal.try_step-requires-clause-stands
try_step-requires-clause-stands g c =
    subst (λ w. StandsAt (plan_in c.args.setting) (take c.args.step w) c.move_front.new.self) c.as_slice.ensures.value
    c.move_front.ensures.stands

pub try_step-requires-clause-won : goal.try_step-requires-clause-won
try_step-requires-clause-won g c = c.requires.won

pub returns-clause-word : goal.returns-clause-word
returns-clause-word g c =
    let word = c.args.won.now.word.items in
    let is : c.index-pad.result.now ≡ get_or word c.args.step 0 =
    c.index-pad.ensures ∙ get_or_default _ _ _ 0 c.requires.step in
    c.try_step.ensures.word
    ∙ ap (λ p. fold (tried (plan_in c.args.setting)) word (map (press_at c.args.step) (buttons_of p))) is

pub returns-clause-alters : goal.returns-clause-alters
returns-clause-alters g c = c.try_step.ensures.alters

pub returns-clause-won : goal.returns-clause-won
returns-clause-won g c = c.try_step.ensures.won

pub returns-clause-stands : goal.returns-clause-stands
returns-clause-stands g c = c.try_step.ensures.stands

pub returns-clause-never_falls : goal.returns-clause-never_falls
returns-clause-never_falls g c = omega (arith, c.move_front.ensures.never_falls, c.try_step.ensures.never_falls)
