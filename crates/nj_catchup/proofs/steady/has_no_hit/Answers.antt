-- The row is missed, or none is latched.
use Rattle.std.proofs.Common.{arith}
use Rattle.nj_catchup.proofs.Ahead.{to_event-small}
use Rattle.nj_catchup.proofs.Away.{away-miss}
use Rattle.nj_catchup.proofs.steady.has_no_hit.Goals as goal

pub returns-else-misses_row : goal.returns-else-misses_row
returns-else-misses_row c = λ p n away within from.
    away-miss n c.args.dots p c.args.screen.now c.requires.fits within c.requires.before_event
    (c.stays_away.ensures away)

pub stays_away-requires-clause-few : goal.stays_away-requires-clause-few
stays_away-requires-clause-few c =
    omega (arith, to_event-small c.args.screen.now c.requires.fits, c.requires.before_event)
