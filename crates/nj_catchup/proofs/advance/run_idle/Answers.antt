-- Dots keep the ranges.
use Rattle.std.proofs.Common.{◌≤◌, subst, arith}
use Rattle.nj_dots.specs.Screen.{IsScreen}
use Rattle.nj_dots.proofs.Kept.{after_dots-fits}
use Rattle.nj_catchup.proofs.advance.run_idle.Goals as goal
use Rattle.nj_catchup.proofs.advance.run_idle.Goals.{then-from-left, else-from-left}

pub returns-after-from-left-clause-fits : goal.returns-after-from-left-clause-fits
returns-after-from-left-clause-fits c =
    let s = c.args.screen.now in
    let n = c.if-from-left.dots in
    let within : n ≤ c.idle_dots-idle.result = elim c.if-from-left.branch [
      | then-from-left w ↦ omega (arith, w.dots-is)
      | else-from-left w ↦ omega (arith, w.dots-is, w.if-from-left, c.from.ensures)
    ] in
    subst IsScreen (c.idle_dots-idle.ensures.idle c.args.pattern.now n within)
    (after_dots-fits n c.args.pattern.now s c.requires.fits)
