use Rattle.nj_game.proofs.Children.{frames_child, state_child, status_child, judged_child}
use Rattle.nj_game.proofs.a_word_goes_on.Goals as goal

pub returns-clause-frames : goal.returns-clause-frames
returns-clause-frames c = frames_child

pub returns-clause-state : goal.returns-clause-state
returns-clause-state c = state_child

pub returns-clause-status : goal.returns-clause-status
returns-clause-status c = status_child

pub returns-clause-judged : goal.returns-clause-judged
returns-clause-judged c = judged_child
