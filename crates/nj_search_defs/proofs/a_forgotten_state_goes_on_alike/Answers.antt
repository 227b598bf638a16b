use Rattle.nj_search_defs.proofs.Forgetting.{a_forgotten_state_goes_on_alike}
use Rattle.nj_search_defs.proofs.a_forgotten_state_goes_on_alike.Goals as goal

pub returns : goal.returns
returns c = a_forgotten_state_goes_on_alike
