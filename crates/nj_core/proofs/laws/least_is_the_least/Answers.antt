-- The law.
use Rattle.nj_core.proofs.Ownership.{least_law}
use Rattle.nj_core.proofs.laws.least_is_the_least.Goals as goal

pub returns : goal.returns
returns c = least_law
