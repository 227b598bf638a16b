-- The worker is changed, if it exists.
use Rattle.std.proofs.Common.{arith}
use Rattle.nj_core.specs.Machine.{holding}
use Rattle.nj_core.proofs.Seen.{set_changed, past_changed}
use Rattle.nj_core.proofs.machine.hold_at.Goals as goal

pub returns-then-w-workers : goal.returns-then-w-workers
returns-then-w-workers c =
    set_changed (holding c.args.piece) c.args.workers.now c.args.w _ _
    (omega (arith, c.if-w-workers.true)) c.hold.ensures

pub returns-else-w-workers : goal.returns-else-w-workers
returns-else-w-workers c =
    past_changed (holding c.args.piece) c.args.workers.now c.args.w (omega (arith, c.if-w-workers.false))
