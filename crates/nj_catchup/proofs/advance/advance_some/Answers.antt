-- Dots keep the ranges.
use Rattle.std.proofs.Common.{◌≡◌, ap, sym, ◌∙◌, subst, arith}
use Rattle.nj_dots.specs.Screen.{IsScreen}
use Rattle.nj_dots.specs.Dots.{after_dots}
use Rattle.nj_dots.proofs.Kept.{after_dots-fits}
use Rattle.nj_catchup.proofs.Sums.{dots-zero}
use Rattle.nj_catchup.proofs.advance.advance_some.Goals as goal

pub returns-then-ending-gt0-clause-fits : goal.returns-then-ending-gt0-clause-fits
returns-then-ending-gt0-clause-fits c =
    let p = c.args.pattern.now in
    subst IsScreen (sym (c.end_line-ending.ensures.dots p))
    (after_dots-fits c.end_line-ending.result p c.args.screen.now c.requires.fits)

pub run_more-requires-clause-fits : goal.run_more-requires-clause-fits
run_more-requires-clause-fits c =
    let p = c.args.pattern.now in
    subst IsScreen (sym (c.end_line-ending.ensures.dots p))
    (after_dots-fits c.end_line-ending.result p c.args.screen.now c.requires.fits)

pub returns-clause-dots : goal.returns-clause-dots
returns-clause-dots c =
    let p = c.args.pattern.now in
    let none : c.end_line-ending.result ≡ 0 = omega (arith, c.if-ending-gt0.false) in
    c.run_more.ensures.dots
    ∙ ap (after_dots c.run_more.result p) (c.end_line-ending.ensures.dots p
    ∙ dots-zero c.end_line-ending.result p c.args.screen.now none)
