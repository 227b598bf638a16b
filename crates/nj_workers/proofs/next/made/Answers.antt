-- Without memory for the table nothing was counted.
use Rattle.nj_workers.proofs.Counters.{counted_none}
use Rattle.nj_workers.proofs.next.made.Goals as goal

pub returns-in_err-table-clause-frames : goal.returns-in_err-table-clause-frames
returns-in_err-table-clause-frames g c = counted_none _ _ c.args.steps.now.items
