-- Where they cannot stay pending, the pending ones run first, and then the others.
use Rattle.std.proofs.Common.{ap, ◌∙◌}
use Rattle.nj_dots.specs.Dots.{after_dots}
use Rattle.nj_catchup.specs.Limit.{pending_of}
use Rattle.nj_catchup.proofs.Sums.{dots-zero}
use Rattle.nj_catchup.proofs.CatchUpPicture.run.Goals as goal

pub returns-then-defer : goal.returns-then-defer
returns-then-defer c =
    let e = c.run_all.new.self in
    dots-zero (pending_of e.lull) c.args.pattern.now e.screen c.run_all.ensures.pending ∙ c.run_all.ensures.screen
    ∙ ap (after_dots c.args.dots c.args.pattern.now) (c.defer.ensures.due c.args.pattern.now c.if-defer.true)
