-- What was spare is then all of it.
use Rattle.std.proofs.Common.{ap, ◌∙◌}
use Rattle.nj_dots.specs.Dots.{after_dots}
use Rattle.nj_catchup.proofs.Limits.{lull-after}
use Rattle.nj_catchup.proofs.CatchUp.catch_up.Goals as goal

pub invariant_of-self : goal.invariant_of-self
invariant_of-self c =
    let s = c.args.self.now in
    let p = c.args.pattern.now in
    record {
      fits = c.advance.ensures.fits;
      lulls = lull-after s.lull p s.screen c.advance.new.screen s.fits c.advance.ensures.fits s.lulls
          (c.advance.ensures.dots ∙ ap (λ n. after_dots n p s.screen) c.pending-pending.ensures);
    }

pub returns-clause-screen : goal.returns-clause-screen
returns-clause-screen c =
    c.advance.ensures.dots ∙ ap (λ n. after_dots n c.args.pattern.now c.args.self.now.screen) c.pending-pending.ensures
