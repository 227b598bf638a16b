-- The law of different numbers.
use Rattle.nj_claims.proofs.Entries.{numbers_fit}
use Rattle.nj_claims.proofs.laws.different_numbers_fit.Goals as goal

pub returns : goal.returns
returns c = numbers_fit
