-- The worker is changed, if it exists.
use Rattle.std.proofs.Common.{arith, is_ok}
use Rattle.nj_core.proofs.Seen.{finish_set}
use Rattle.nj_core.proofs.machine.finish_at.Goals as goal

pub returns-clause-workers : goal.returns-clause-workers
returns-clause-workers c =
    finish_set (is_ok c.finish.result) c.args.workers.now c.args.w _ _
    (omega (arith, c.if-w-workers.false)) c.finish.ensures.worker
