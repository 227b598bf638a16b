-- The sorted keys are the keys in order.
use Rattle.std.proofs.Common.{◌∙◌, ap, nat_lt}
use Rattle.nj_search_defs.specs.Order.{in_order}
use Rattle.nj_seen.proofs.Keys.{in_rising_order}
use Rattle.nj_seen.proofs.telling.rising.Goals as goal

pub returns : goal.returns
returns c =
    c.from_vec.ensures
    ∙ (in_rising_order c.into_vec-keys.result.items c.sort_unstable.new.self.items c.sort_unstable.ensures.permutation
    c.sort_unstable.ensures.sorted
    ∙ ap (in_order nat_lt) c.into_vec-keys.ensures)
