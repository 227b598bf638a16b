-- The law.
use Rattle.nj_core.proofs.Orders.{owned_claims}
use Rattle.nj_core.proofs.laws.owned_claims_are_first.Goals as goal

pub returns : goal.returns
returns c = owned_claims
