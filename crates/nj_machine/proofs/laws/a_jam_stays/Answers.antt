use Rattle.nj_machine.proofs.Fuel.{frame_jammed}
use Rattle.nj_machine.proofs.laws.a_jam_stays.Goals as goal

pub returns : goal.returns
returns c = frame_jammed
