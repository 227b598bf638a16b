use Rattle.nj_search_defs.proofs.Places.{winners_tell_parents}
use Rattle.nj_search_defs.proofs.winners_tell_parents.Goals as goal

pub returns : goal.returns
returns c = winners_tell_parents
