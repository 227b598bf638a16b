-- What is steady of the kept picture is fixed behind its pending dots.
use Rattle.std.proofs.Common.{◌≡◌, ◌-◌, sym, ap, ◌∙◌, subst}
use Rattle.nj_dots.specs.Dots.{after_dots}
use Rattle.nj_catchup.specs.Limit.{pending_of}
use Rattle.nj_catchup.specs.Fixed.{IsFixed}
use Rattle.nj_catchup.proofs.Fixes.{fixed}
use Rattle.nj_catchup.proofs.CatchUp.fixed_dots.Goals as goal

pub returns : goal.returns
returns c = λ p.
    let s = c.args.self.now in
    let dots : c.saturating_sub.result ≡ c.steady_dots.result - pending_of s.lull =
    c.saturating_sub.ensures ∙ ap (λ n. c.steady_dots.result - n) c.pending.ensures in
    subst (λ n. IsFixed s.screen.latch n p (after_dots (pending_of s.lull) p s.screen)) (sym dots)
    (fixed c.sprite_overflow_is_timed.ensures.fallen (pending_of s.lull) c.steady_dots.result p s.screen s.fits
    (c.was_read.ensures c.if-not-was_read.false) (c.steady_dots.ensures p))
