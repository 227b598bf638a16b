-- Dots keep the ranges.
use Rattle.std.proofs.Common.{◌≡◌, ap, sym, ◌∙◌, subst, arith}
use Rattle.nj_dots.specs.Screen.{IsScreen}
use Rattle.nj_dots.specs.Dots.{after_dots}
use Rattle.nj_dots.proofs.Kept.{after_dots-fits}
use Rattle.nj_catchup.proofs.Sums.{dots-zero}
use Rattle.nj_catchup.proofs.advance.run_more.Goals as goal

pub returns-then-blank-gt0-clause-fits : goal.returns-then-blank-gt0-clause-fits
returns-then-blank-gt0-clause-fits c =
    let p = c.args.pattern.now in
    subst IsScreen (sym (c.run_blank-blank.ensures.dots p))
    (after_dots-fits c.run_blank-blank.result p c.args.screen.now c.requires.fits)

pub run_drawn-requires-clause-fits : goal.run_drawn-requires-clause-fits
run_drawn-requires-clause-fits c =
    let p = c.args.pattern.now in
    subst IsScreen (sym (c.run_blank-blank.ensures.dots p))
    (after_dots-fits c.run_blank-blank.result p c.args.screen.now c.requires.fits)

pub returns-clause-dots : goal.returns-clause-dots
returns-clause-dots c =
    let p = c.args.pattern.now in
    let none : c.run_blank-blank.result ≡ 0 = omega (arith, c.if-blank-gt0.false) in
    c.run_drawn.ensures.dots
    ∙ ap (after_dots c.run_drawn.result p) (c.run_blank-blank.ensures.dots p
    ∙ dots-zero c.run_blank-blank.result p c.args.screen.now none)
