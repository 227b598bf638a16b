-- The law.
use Rattle.nj_core.proofs.Orders.{any_order}
use Rattle.nj_core.proofs.laws.any_order_is_one_thread.Goals as goal

pub returns : goal.returns
returns c = any_order
