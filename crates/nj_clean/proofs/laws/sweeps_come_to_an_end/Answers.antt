use Rattle.nj_clean.proofs.Sweeps.{cleaned_ends, only_end}
use Rattle.nj_clean.proofs.laws.sweeps_come_to_an_end.Goals as goal

pub returns-clause-ends : goal.returns-clause-ends
returns-clause-ends c = cleaned_ends

pub returns-clause-only : goal.returns-clause-only
returns-clause-only c = only_end
