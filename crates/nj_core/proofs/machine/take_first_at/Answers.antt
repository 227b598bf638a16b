-- The worker is changed, if it exists.
use Rattle.std.proofs.Common.{arith, sym, ◌∙◌}
use Rattle.nj_core.specs.Machine.{first_piece, without_first}
use Rattle.nj_core.proofs.Seen.{set_changed, past_changed, read_at}
use Rattle.nj_core.proofs.machine.take_first_at.Goals as goal

pub returns-then-v-workers-clause-rest : goal.returns-then-v-workers-clause-rest
returns-then-v-workers-clause-rest c =
    past_changed without_first c.args.workers.now c.args.v (omega (arith, c.if-v-workers.true))

pub returns-clause-piece : goal.returns-clause-piece
returns-clause-piece c =
    c.take_first.ensures.piece
    ∙ sym (read_at first_piece c.args.workers.now c.args.v _ (omega (arith, c.if-v-workers.false)))

pub returns-clause-rest : goal.returns-clause-rest
returns-clause-rest c =
    set_changed without_first c.args.workers.now c.args.v _ _
    (omega (arith, c.if-v-workers.false)) c.take_first.ensures.rest
