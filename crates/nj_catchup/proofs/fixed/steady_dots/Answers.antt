-- The dots end before the event.
use Rattle.std.proofs.Common.{arith}
use Rattle.nj_dots.proofs.Events.{to_event-positive}
use Rattle.nj_catchup.proofs.fixed.steady_dots.Goals as goal

pub is_steady-requires-clause-before_event : goal.is_steady-requires-clause-before_event
is_steady-requires-clause-before_event c =
    omega (
      arith,
      c.saturating_sub-far.ensures,
      c.dots_to_event-event.ensures,
      to_event-positive c.args.screen.now c.requires.fits.placed,
    )

pub is_steady-requires-2-clause-before_event : goal.is_steady-requires-2-clause-before_event
is_steady-requires-2-clause-before_event c =
    omega (
      arith,
      c.min-near.ensures,
      c.saturating_sub-far.ensures,
      c.dots_to_event-event.ensures,
      to_event-positive c.args.screen.now c.requires.fits.placed,
    )
