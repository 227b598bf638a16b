use Rattle.std.proofs.Common.{◌-◌, ◌<◌, arith}
use Rattle.nj_dots.specs.Screen.{IsScreen}
use Rattle.nj_dots.specs.Dots.{after_dots, to_event}
use Rattle.nj_dots.proofs.Kept.{after_dots-fits}
use Rattle.nj_dots.proofs.Events.{one-event, event-one, to_event-after, to_event-positive}
use Rattle.nj_dots.proofs.laws.events_are_counted.Goals as goal

pub returns-clause-event : goal.returns-clause-event
returns-clause-event c p s fits =
    let k = to_event s - 1 in
    let some : 0 < to_event s = to_event-positive s fits.placed in
    let there : IsScreen (after_dots k p s) = after_dots-fits k p s fits in
    one-event (after_dots k p s) there.placed (omega (arith, to_event-after k p s fits (omega (arith, some)), some))

pub returns-clause-no_earlier : goal.returns-clause-no_earlier
returns-clause-no_earlier c p s k fits below at =
    absurd (omega (arith, to_event-after k p s fits (omega (arith, below)), event-one (after_dots k p s) at, below))

pub returns-clause-some : goal.returns-clause-some
returns-clause-some c s fits = to_event-positive s fits.placed
