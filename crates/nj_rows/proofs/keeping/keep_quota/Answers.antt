-- The kept of the sorted rows.
use Rattle.std.proofs.Common.{rules, ◌∙◌, ap, sym}
use Rattle.nj_search_defs.specs.Quota.{limited}
use Rattle.nj_search_defs.proofs.Limited.{limited_all}
use Rattle.nj_rows.specs.Order.{is_alike_row, is_row_before}
use Rattle.nj_search_defs.specs.Order.{in_order}
use Rattle.nj_rows.proofs.Rows.{sorted_rows}
use Rattle.nj_rows.proofs.keeping.keep_quota.Goals as goal

pub returns : goal.returns
returns c =
    c.truncate.ensures.items
    ∙ (c.gather-kept.ensures
    ∙ ap (limited is_alike_row c.args.n c.args.quota)
    (sorted_rows _ _ c.sort_unstable_by.ensures.permutation c.sort_unstable_by.ensures.sorted
    (λ a r f k. search rules)))

pub returns-then-n-quota : goal.returns-then-n-quota
returns-then-n-quota c =
    c.keep.ensures ∙ sym (limited_all is_alike_row c.args.n c.args.quota c.if-n-quota.true
    (in_order is_row_before c.args.rows.now.items))
