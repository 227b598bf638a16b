use Rattle.std.proofs.Common.{◌≡◌, ◌<◌, ◌≤◌, ◌+◌, ◌-◌, ◌*◌, length, ap, sym, ◌∙◌, subst, arith}
use Rattle.nj_clean.specs.Presses.{presses}
use Rattle.nj_clean.specs.Sweeps.{cleaned}
use Rattle.nj_clean.specs.Bench.{plan_in}
use Rattle.nj_clean.proofs.Words.{AreBytes}
use Rattle.nj_clean.proofs.Sweeps.{swept_long, swept_bytes, cleaned_swept, last_sweep, fewer_left}
use Rattle.nj_clean.proofs.Costs.{sweeps_on, sweeps_end}
use Rattle.nj_clean.proofs.sweeping.sweep_until_none.Goals as goal

pub returns-in_err-sweep-clause-frames : goal.returns-in_err-sweep-clause-frames
returns-in_err-sweep-clause-frames g c =
    let inv = c.loop-bench.invariant in
    let hold = c.args.setting.script.now.hold in
    let word = c.args.won.now.word.items in
    let ran : c.sweep.new.steps ≤ c.loop-bench.steps + hold * length word * c.loop-bench.before =
    subst (λ n. c.sweep.new.steps ≤ c.loop-bench.steps + hold * length word * n) (sym inv.counted)
    (subst (λ n. c.sweep.new.steps ≤ c.loop-bench.steps + hold * n * length (presses c.loop-bench.won.word.items))
    inv.long c.sweep.ensures.frames) in
    sweeps_end (hold * length word)
    (length (presses word)) c.loop-bench.before c.loop-bench.steps c.sweep.new.steps _ inv.within inv.frames ran

pub press_count-left-requires : goal.press_count-left-requires
press_count-left-requires g c =
    let plan = plan_in c.args.setting in
    let long = ap length c.in_ok-sweep.ensures.word ∙ swept_long plan c.loop-bench.won.word.items
    ∙ c.loop-bench.invariant.long in
    omega (arith, ap length c.as_slice-in-loop-bench.ensures.value, long, c.requires.few)

pub returns-then-left-before-clause-word : goal.returns-then-left-before-clause-word
returns-then-left-before-clause-word g c =
    let inv = c.loop-bench.invariant in
    last_sweep (plan_in c.args.setting) c.args.won.now.word.items c.loop-bench.won.word.items c.sweep.new.won.word.items
    c.press_count-left.result c.loop-bench.before
    inv.bytes c.in_ok-sweep.ensures.word
    (c.press_count-left.ensures ∙ ap (λ w. length (presses w)) c.as_slice-in-loop-bench.ensures.value) inv.counted
    c.if-left-before.true inv.same

pub returns-then-left-before-clause-frames : goal.returns-then-left-before-clause-frames
returns-then-left-before-clause-frames g c =
    let inv = c.loop-bench.invariant in
    let hold = c.args.setting.script.now.hold in
    let word = c.args.won.now.word.items in
    let ran : c.sweep.new.steps ≤ c.loop-bench.steps + hold * length word * c.loop-bench.before =
    subst (λ n. c.sweep.new.steps ≤ c.loop-bench.steps + hold * length word * n) (sym inv.counted)
    (subst (λ n. c.sweep.new.steps ≤ c.loop-bench.steps + hold * n * length (presses c.loop-bench.won.word.items))
    inv.long c.sweep.ensures.frames) in
    sweeps_end (hold * length word)
    (length (presses word)) c.loop-bench.before c.loop-bench.steps c.sweep.new.steps _ inv.within inv.frames ran

pub loop-bench-smaller : goal.loop-bench-smaller
loop-bench-smaller g c =
    let inv = c.loop-bench.invariant in
    fewer_left (plan_in c.args.setting) c.loop-bench.won.word.items c.sweep.new.won.word.items c.press_count-left.result
    c.loop-bench.before inv.bytes
    c.in_ok-sweep.ensures.word (c.press_count-left.ensures
    ∙ ap (λ w. length (presses w)) c.as_slice-in-loop-bench.ensures.value) inv.counted c.if-left-before.false

pub loop-bench-preserved : goal.loop-bench-preserved
loop-bench-preserved g c =
    let plan = plan_in c.args.setting in
    let inv = c.loop-bench.invariant in
    let hold = c.args.setting.script.now.hold in
    let given = c.args.won.now.word.items in
    let word = c.loop-bench.won.word.items in
    let is = c.in_ok-sweep.ensures.word in
    let counted = c.press_count-left.ensures ∙ ap (λ w. length (presses w)) c.as_slice-in-loop-bench.ensures.value in
    let fewer =
    fewer_left plan word c.sweep.new.won.word.items c.press_count-left.result c.loop-bench.before inv.bytes is counted
    inv.counted c.if-left-before.false in
    let ran : c.sweep.new.steps ≤ c.loop-bench.steps + hold * length given * c.loop-bench.before =
    subst (λ n. c.sweep.new.steps ≤ c.loop-bench.steps + hold * length given * n) (sym inv.counted)
    (subst (λ n. c.sweep.new.steps ≤ c.loop-bench.steps + hold * n * length (presses word)) inv.long
    c.sweep.ensures.frames) in
    record {
      stands = c.in_ok-sweep.ensures.stands;
      won = c.sweep.ensures.won;
      bytes = subst AreBytes (sym is) (swept_bytes plan word inv.bytes);
      long = ap length is ∙ swept_long plan word ∙ inv.long;
      same = ap (cleaned plan) is ∙ cleaned_swept plan word inv.bytes ∙ inv.same;
      counted = counted;
      within = omega (arith, fewer, inv.within);
      frames =
          sweeps_on (hold * length given) (length (presses given)) c.loop-bench.before c.press_count-left.result
          c.loop-bench.steps c.sweep.new.steps _ fewer
          inv.within inv.frames ran;
      never_falls = omega (arith, inv.never_falls, c.sweep.ensures.never_falls);
    }

pub sweep-requires-clause-stands : goal.sweep-requires-clause-stands
sweep-requires-clause-stands g c = c.loop-bench.invariant.stands

pub sweep-requires-clause-won : goal.sweep-requires-clause-won
sweep-requires-clause-won g c = c.loop-bench.invariant.won

pub returns-in_err-sweep-clause-won : goal.returns-in_err-sweep-clause-won
returns-in_err-sweep-clause-won g c = c.sweep.ensures.won

pub returns-in_err-sweep-clause-never_falls : goal.returns-in_err-sweep-clause-never_falls
returns-in_err-sweep-clause-never_falls g c =
    omega (arith, c.loop-bench.invariant.never_falls, c.sweep.ensures.never_falls)

pub returns-then-left-before-clause-won : goal.returns-then-left-before-clause-won
returns-then-left-before-clause-won g c = c.sweep.ensures.won

pub returns-then-left-before-clause-never_falls : goal.returns-then-left-before-clause-never_falls
returns-then-left-before-clause-never_falls g c =
    omega (arith, c.loop-bench.invariant.never_falls, c.sweep.ensures.never_falls)
