-- The law of claims.
use Rattle.nj_seen.proofs.Claims.{own_claims, moved_claims}
use Rattle.nj_seen.proofs.laws.claims_are_of_rows.Goals as goal

pub returns : goal.returns
returns c = record { own = own_claims; moved = moved_claims }
