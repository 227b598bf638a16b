use Rattle.nj_expand.proofs.Counts.{candidates_few, step_few}
use Rattle.nj_expand.proofs.Ends.{kept_few}
use Rattle.nj_expand.proofs.laws.a_step_is_bounded.Goals as goal

pub returns-clause-candidates : goal.returns-clause-candidates
returns-clause-candidates c = candidates_few c.allowed_pads_come_once.ensures.named

pub returns-clause-kept : goal.returns-clause-kept
returns-clause-kept c = kept_few

pub returns-clause-both : goal.returns-clause-both
returns-clause-both c = step_few c.allowed_pads_come_once.ensures.named
