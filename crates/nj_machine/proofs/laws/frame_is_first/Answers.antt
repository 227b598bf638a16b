use Rattle.nj_machine.proofs.First.{first}
use Rattle.nj_machine.proofs.laws.frame_is_first.Goals as goal

pub returns : goal.returns
returns c = first
