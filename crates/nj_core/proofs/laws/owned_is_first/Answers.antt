-- The law.
use Rattle.nj_core.proofs.Ownership.{owned_first}
use Rattle.nj_core.proofs.laws.owned_is_first.Goals as goal

pub returns : goal.returns
returns c = owned_first
