-- The law of claims together.
use Rattle.nj_hands.proofs.Claims.{claimed_none, claimed_joined, claimed_moved}
use Rattle.nj_hands.proofs.laws.claims_go_together.Goals as goal

pub returns-clause-none : goal.returns-clause-none
returns-clause-none c = claimed_none

pub returns-clause-joined : goal.returns-clause-joined
returns-clause-joined c = claimed_joined

pub returns-clause-moved : goal.returns-clause-moved
returns-clause-moved c = claimed_moved
