use Rattle.nj_alu.proofs.Overflow.{fits, only_then}
use Rattle.nj_alu.proofs.laws.overflow_tells_signed_sum.Goals as goal

-- by the lemmas of that name
pub returns : goal.returns
returns c = record { fits = fits; only_then = only_then }
