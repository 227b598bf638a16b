use Rattle.std.proofs.Common.{arith}
use Rattle.nj_rules.proofs.Satisfied.{status_after-from}
use Rattle.nj_rules.proofs.judging.status_of.Goals as goal

pub returns : goal.returns
returns c =
    status_after-from c.args.rules.now c.args.ram.now c.args.old c.loop-number.status c.loop-number.number
    c.loop-number.invariant.1 (omega arith) c.loop-number.invariant.0
