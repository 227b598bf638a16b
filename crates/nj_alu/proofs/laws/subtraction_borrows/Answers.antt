use Rattle.nj_alu.proofs.Borrow.{value, carry}
use Rattle.nj_alu.proofs.laws.subtraction_borrows.Goals as goal

-- by the lemmas of that name
pub returns : goal.returns
returns c = record { value = value; carry = carry }
