use Rattle.nj_game.proofs.Satisfied.{met_along}
use Rattle.nj_game.proofs.a_rule_is_satisfied_once_it_was_met.Goals as goal

pub returns : goal.returns
returns c = met_along c.naming_is_one_level_deep.ensures
