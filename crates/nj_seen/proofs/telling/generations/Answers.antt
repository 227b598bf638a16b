-- The lists in order are the generations.
use Rattle.std.proofs.Common.{nat_lt, map, ap, ◌∙◌}
use Rattle.nj_search_defs.specs.Order.{in_order}
use Rattle.nj_seen.specs.Held.{generations_from, seen_in}
use Rattle.nj_seen.proofs.Owners.{told_in_order}
use Rattle.nj_seen.proofs.telling.generations.Goals as goal

pub returns : goal.returns
unfolding seen_in
returns c =
    c.from_vec.ensures
    ∙ (c.in_ok-told.ensures
    ∙ (ap (map (in_order nat_lt)) c.in_ok-lists.ensures
    ∙ (told_in_order c.args.words.now c.args.keys.oldest c.saturating_sub-count.result
    ∙ ap (generations_from c.args.words.now c.args.keys.oldest) c.saturating_sub-count.ensures)))
