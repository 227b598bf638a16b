-- Rows of different numbers.
use Rattle.nj_rows.proofs.Rows.{preferred}
use Rattle.nj_rows.proofs.order_is_preference.Goals as goal

pub returns : goal.returns
returns c = preferred
