-- Dots keep the ranges.
use Rattle.std.proofs.Common.{◌≡◌, ap, sym, ◌∙◌, subst, arith}
use Rattle.nj_dots.specs.Screen.{IsScreen}
use Rattle.nj_dots.specs.Dots.{after_dots}
use Rattle.nj_dots.proofs.Kept.{after_dots-fits}
use Rattle.nj_catchup.proofs.Sums.{dots-zero}
use Rattle.nj_catchup.proofs.advance.run_drawn.Goals as goal

pub returns-then-lines-gt0-clause-fits : goal.returns-then-lines-gt0-clause-fits
returns-then-lines-gt0-clause-fits c =
    let p = c.args.pattern.now in
    subst IsScreen (sym c.run_lines-lines.ensures.dots)
    (after_dots-fits c.run_lines-lines.result p c.args.screen.now c.requires.fits)

pub run_idle-requires-clause-fits : goal.run_idle-requires-clause-fits
run_idle-requires-clause-fits c =
    let p = c.args.pattern.now in
    subst IsScreen (sym c.run_lines-lines.ensures.dots)
    (after_dots-fits c.run_lines-lines.result p c.args.screen.now c.requires.fits)

pub returns-clause-dots : goal.returns-clause-dots
returns-clause-dots c =
    let p = c.args.pattern.now in
    let none : c.run_lines-lines.result ≡ 0 = omega (arith, c.if-lines-gt0.false) in
    c.run_idle.ensures.dots
    ∙ ap (after_dots c.run_idle.result p) (c.run_lines-lines.ensures.dots
    ∙ dots-zero c.run_lines-lines.result p c.args.screen.now none)
