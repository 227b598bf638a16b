use Rattle.nj_game.proofs.Children.{movie_start, state_start, status_start, judged_start}
use Rattle.nj_game.proofs.the_empty_word_is_the_start.Goals as goal

pub returns-clause-movie : goal.returns-clause-movie
returns-clause-movie c = movie_start

pub returns-clause-state : goal.returns-clause-state
returns-clause-state c = state_start

pub returns-clause-status : goal.returns-clause-status
returns-clause-status c = status_start

pub returns-clause-judged : goal.returns-clause-judged
returns-clause-judged c = judged_start
