use Rattle.nj_game.proofs.Plays.{held_more}
use Rattle.nj_game.proofs.one_more_frame_is_held.Goals as goal

pub returns : goal.returns
returns c = held_more
