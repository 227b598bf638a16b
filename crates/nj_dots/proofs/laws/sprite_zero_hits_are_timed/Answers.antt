use Rattle.nj_dots.proofs.Flags.{hit-risen, near-dot}
use Rattle.nj_dots.proofs.laws.sprite_zero_hits_are_timed.Goals as goal

pub returns-clause-risen : goal.returns-clause-risen
returns-clause-risen c p s low high = hit-risen p s low high

pub returns-clause-near : goal.returns-clause-near
returns-clause-near c p s near = near-dot p s near
