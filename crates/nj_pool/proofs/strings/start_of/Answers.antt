-- A string begins at the end of the one before.
use Rattle.nj_pool.proofs.Behind.{start_later}
use Rattle.nj_pool.proofs.strings.start_of.Goals as goal

pub returns-else-place-eq0 : goal.returns-else-place-eq0
returns-else-place-eq0 c = start_later c.args.ends.now c.args.place c.requires c.if-place-eq0.false
