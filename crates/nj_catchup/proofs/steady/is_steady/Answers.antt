-- Both flags are kept.
use Rattle.std.proofs.Common.{arith}
use Rattle.nj_catchup.proofs.Ahead.{to_event-small}
use Rattle.nj_catchup.proofs.steady.is_steady.Goals as goal

pub overflow_add-dots : goal.overflow_add-dots
overflow_add-dots c = omega (arith, to_event-small c.args.screen.now c.requires.fits, c.requires.before_event)
