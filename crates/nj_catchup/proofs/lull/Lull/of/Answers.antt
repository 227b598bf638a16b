-- All of the limit is spare.
use Rattle.std.proofs.Common.{refl}
use Rattle.nj_catchup.proofs.Limits.{lull-begins}
use Rattle.nj_catchup.proofs.lull.Lull.of.Goals as goal

pub returns-clause-lull : goal.returns-clause-lull
returns-clause-lull c = lull-begins _ c.args.screen.now c.requires c.limit-limit.ensures refl c.nmi_line.ensures
