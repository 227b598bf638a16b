use Rattle.nj_search_defs.proofs.Lengths.{steps_are_counted}
use Rattle.nj_search_defs.proofs.steps_are_counted.Goals as goal

pub returns : goal.returns
returns c = steps_are_counted
