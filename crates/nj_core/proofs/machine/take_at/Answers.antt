-- Nothing is taken from an empty list.
use Rattle.std.proofs.Common.{sym}
use Rattle.nj_core.proofs.Seen.{nothing_taken}
use Rattle.nj_core.proofs.machine.take_at.Goals as goal

pub returns-in-None-clause-workers : goal.returns-in-None-clause-workers
returns-in-None-clause-workers c =
    nothing_taken c.args.workers.now _ c.args.w c.args.v (sym c.if-not-is_idle_at.ensures)
    (sym c.in-None.ensures.piece) c.take_first_at.ensures.rest
