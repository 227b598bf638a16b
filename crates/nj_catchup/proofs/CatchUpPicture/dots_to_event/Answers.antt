-- The pending dots are before the event.
use Rattle.std.proofs.Common.{◌≡◌, ◌+◌, arith}
use Rattle.nj_dots.specs.Dots.{after_dots, to_event}
use Rattle.nj_dots.proofs.Events.{to_event-after}
use Rattle.nj_catchup.specs.Limit.{pending_of}
use Rattle.nj_catchup.proofs.CatchUpPicture.dots_to_event.Goals as goal

pub returns : goal.returns
returns c = λ p.
    let s = c.args.self.now in
    let left : to_event (after_dots (pending_of s.lull) p s.screen) + pending_of s.lull ≡ to_event s.screen =
    to_event-after (pending_of s.lull) p s.screen s.fits s.lulls.before_event in
    omega (arith, left, c.dots_to_event.ensures, c.pending.ensures)
