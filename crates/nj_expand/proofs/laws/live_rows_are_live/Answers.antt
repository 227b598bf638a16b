use Rattle.nj_expand.proofs.Lifts.{rows_of_lives}
use Rattle.nj_expand.proofs.laws.live_rows_are_live.Goals as goal

pub returns : goal.returns
returns c = rows_of_lives
