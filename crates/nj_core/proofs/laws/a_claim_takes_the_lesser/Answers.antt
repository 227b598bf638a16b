-- The law.
use Rattle.nj_core.proofs.Ownership.{takes_lesser}
use Rattle.nj_core.proofs.laws.a_claim_takes_the_lesser.Goals as goal

pub returns : goal.returns
returns c = takes_lesser
