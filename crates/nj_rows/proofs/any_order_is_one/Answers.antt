-- The law, of every type of list.
use Rattle.nj_rows.proofs.Orders.{in_order_any}
use Rattle.nj_rows.proofs.Rows.{row_order_sorts, only_equal_tie}
use Rattle.nj_rows.specs.Order.{is_row_before}
use Rattle.nj_rows.proofs.any_order_is_one.Goals as goal

pub returns : goal.returns
returns c = in_order_any is_row_before row_order_sorts only_equal_tie
