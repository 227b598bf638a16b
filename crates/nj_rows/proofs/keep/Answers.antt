-- The sorted rows are the rows in order.
use Rattle.std.proofs.Common.{rules, ◌∙◌, ap, take}
use Rattle.nj_rows.proofs.Rows.{sorted_rows}
use Rattle.nj_rows.proofs.keep.Goals as goal

pub returns : goal.returns
returns c =
    c.truncate.ensures.items
    ∙ ap (take c.args.n) (sorted_rows _ _ c.sort_unstable_by.ensures.permutation c.sort_unstable_by.ensures.sorted
    (λ a r f k. search rules))
