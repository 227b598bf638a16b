use Rattle.nj_game.proofs.Satisfied.{stays}
use Rattle.nj_game.proofs.a_satisfied_rule_stays.Goals as goal

pub returns : goal.returns
returns c = stays c.naming_is_one_level_deep.ensures
