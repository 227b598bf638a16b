use Rattle.nj_game.proofs.Jams.{held_to}
use Rattle.nj_game.proofs.a_jam_ends_its_step.Goals as goal

pub returns : goal.returns
returns c = held_to c.a_jam_stays.ensures
