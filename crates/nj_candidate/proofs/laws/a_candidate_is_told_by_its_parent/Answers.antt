use Rattle.nj_candidate.proofs.Words.{told_row, told_status, told_allowed}
use Rattle.nj_candidate.proofs.laws.a_candidate_is_told_by_its_parent.Goals as goal

pub returns-clause-row : goal.returns-clause-row
returns-clause-row c plan word pad number =
    told_row plan word pad number (c.a_word_goes_on.ensures.state plan word pad)
    (c.a_word_goes_on.ensures.status plan word pad) (c.a_word_goes_on.ensures.judged plan word pad)

pub returns-clause-status : goal.returns-clause-status
returns-clause-status c = told_status

pub returns-clause-allowed : goal.returns-clause-allowed
returns-clause-allowed c = told_allowed
