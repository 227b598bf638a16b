-- Dots keep the ranges, and one dot is a dot.
use Rattle.std.proofs.Common.{◌≡◌, ap, sym, ◌∙◌, subst, arith}
use Rattle.nj_dots.specs.Screen.{IsScreen}
use Rattle.nj_dots.specs.Dots.{dot_of}
use Rattle.nj_dots.proofs.Kept.{after_dots-fits}
use Rattle.nj_catchup.proofs.Sums.{dots-one, dots-zero}
use Rattle.nj_catchup.proofs.advance.run_shown.Goals as goal

pub dot-requires-clause-fits : goal.dot-requires-clause-fits
dot-requires-clause-fits c =
    subst IsScreen (sym c.run_pixels-dots.ensures.dots)
    (after_dots-fits c.run_pixels-dots.result c.args.pattern.now c.args.screen.now c.requires.fits)

pub returns-then-dots-gt0-clause-fits : goal.returns-then-dots-gt0-clause-fits
returns-then-dots-gt0-clause-fits c =
    subst IsScreen (sym c.run_pixels-dots.ensures.dots)
    (after_dots-fits c.run_pixels-dots.result c.args.pattern.now c.args.screen.now c.requires.fits)

pub returns-else-dots-gt0-clause-dots : goal.returns-else-dots-gt0-clause-dots
returns-else-dots-gt0-clause-dots c =
    let none : c.run_pixels-dots.result ≡ 0 = omega (arith, c.if-dots-gt0.false) in
    c.dot.ensures.dot
    ∙ ap (dot_of c.args.pattern.now) (c.run_pixels-dots.ensures.dots
    ∙ dots-zero c.run_pixels-dots.result c.args.pattern.now c.args.screen.now none)
    ∙ sym (dots-one c.args.pattern.now c.args.screen.now)
