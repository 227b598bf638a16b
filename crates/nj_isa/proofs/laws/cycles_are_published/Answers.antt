use Rattle.nj_isa.proofs.Published.{cycles}
use Rattle.nj_isa.proofs.laws.cycles_are_published.Goals as goal

-- each list is as long as published
pub returns : goal.returns
returns c = cycles
