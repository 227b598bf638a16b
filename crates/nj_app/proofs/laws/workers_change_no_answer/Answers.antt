-- By what the words say.
use Rattle.nj_app.proofs.Workers.{one_answer}
use Rattle.nj_app.proofs.laws.workers_change_no_answer.Goals as goal

pub returns : goal.returns
returns c = one_answer c.pieces_are_said.ensures
