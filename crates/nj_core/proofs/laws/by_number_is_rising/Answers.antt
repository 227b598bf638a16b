-- The law.
use Rattle.nj_core.proofs.Numbers.{rising}
use Rattle.nj_core.proofs.laws.by_number_is_rising.Goals as goal

pub returns : goal.returns
returns c = rising
