-- The law of rows in any order.
use Rattle.nj_seen.proofs.Chosen.{same_winner, same_fresh}
use Rattle.nj_seen.proofs.laws.rows_in_any_order.Goals as goal

pub returns : goal.returns
returns c = record { winner = same_winner c.any_order_is_one.ensures; fresh = same_fresh }
