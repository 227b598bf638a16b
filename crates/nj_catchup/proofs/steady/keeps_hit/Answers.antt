-- The hit flag is up, or no pending dot is a hit.
use Rattle.std.proofs.Common.{sym, ◌∙◌}
use Rattle.nj_catchup.proofs.Status.{hit-after}
use Rattle.nj_catchup.proofs.Misses.{hit-missed}
use Rattle.nj_catchup.proofs.steady.keeps_hit.Goals as goal

pub returns-then-screen : goal.returns-then-screen
returns-then-screen c = λ p up.
    hit-after c.args.dots p c.args.screen.now c.requires.fits c.requires.before_event up ∙ sym up

pub returns-then-not-screen : goal.returns-then-not-screen
returns-then-not-screen c = λ p misses.
    hit-missed c.args.dots p c.args.screen.now c.requires.fits c.requires.before_event c.if-not-screen.true
    (λ n within from. c.has_no_hit.ensures p n misses within from)
