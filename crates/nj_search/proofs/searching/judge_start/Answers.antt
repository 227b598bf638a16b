use Rattle.nj_search.proofs.Going.{going, start_wins, start_fails}
use Rattle.nj_search.proofs.searching.judge_start.Goals as goal

pub returns-in-Go : goal.returns-in-Go
returns-in-Go c planned none is =
    going planned c.args.search c.judged-first.result none is c.judged-first.ensures.judged c.in-Go.is

pub returns-in_ok-movie-in-Win : goal.returns-in_ok-movie-in-Win
returns-in_ok-movie-in-Win c planned none is =
    start_wins planned c.args.search c.judged-first.result c.in_ok-movie-in-Win.field-0 c.won_at_once.result none is
    c.judged-first.ensures.judged c.in-Win.is c.in_ok-movie-in-Win.ensures c.won_at_once.ensures

pub returns-in-Fail : goal.returns-in-Fail
returns-in-Fail c planned none is =
    start_fails planned c.args.search c.judged-first.result none is c.judged-first.ensures.judged c.in-Fail.is
