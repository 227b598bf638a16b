use Rattle.std.proofs.Common.{sym, ◌∙◌, arith}
use Rattle.nj_replay.proofs.Leaving.{left_at_end, left_here, left_next, left_nowhere}
use Rattle.nj_replay.proofs.reading.first_left.Goals as goal

pub returns-in_default-clause-frame : goal.returns-in_default-clause-frame
returns-in_default-clause-frame c =
    let told = c.in_default.ensures in
    left_at_end c.args.whole.now c.args.movie.now c.loop-frame.frame c.loop-frame-test.true told.lookup.3
    c.loop-frame.invariant.1

pub returns-then-shown-pad-clause-frame : goal.returns-then-shown-pad-clause-frame
returns-then-shown-pad-clause-frame c =
    let told = c.in-Some.ensures in
    left_here c.args.whole.now c.args.movie.now c.loop-frame.frame c.index-whole-frame.result c.in-Some.shown.now
    c.loop-frame-test.true told.lookup.3.0
    c.index-whole-frame.is told.lookup.1 (λ e. c.if-shown-pad.true (c.shown.view_is ∙ e ∙ sym c.pad.view_is))
    c.loop-frame.invariant.1

pub loop-frame-preserved : goal.loop-frame-preserved
loop-frame-preserved c =
    let told = c.in-Some.ensures in (
      omega (arith, told.lookup.3.0),
      left_next c.args.whole.now c.args.movie.now c.loop-frame.frame c.index-whole-frame.result c.in-Some.shown.now
          c.loop-frame-test.true told.lookup.3.0
          c.index-whole-frame.is told.lookup.1 (sym c.shown.view_is ∙ c.if-shown-pad.false ∙ c.pad.view_is)
          c.loop-frame.invariant.1,
    )

pub returns-clause-frame : goal.returns-clause-frame
returns-clause-frame c =
    left_nowhere c.args.whole.now c.args.movie.now c.loop-frame.frame c.loop-frame-test.false c.loop-frame.invariant.1
