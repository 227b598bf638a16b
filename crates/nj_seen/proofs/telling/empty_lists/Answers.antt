-- One list more.
use Rattle.std.proofs.Common.{◌≡◌, [], ◌++◌, ◌∷◌, ap, ◌∙◌, rules}
use Rattle.nj_seen.proofs.Owners.{none_more}
use Rattle.nj_seen.proofs.telling.empty_lists.Goals as goal

pub loop-place-preserved : goal.loop-place-preserved
loop-place-preserved c = λ first.
    let pushed : c.push.new.self.items ≡ c.loop-place.lists.items ++ [] ∷ [] = search rules in
    pushed ∙ (ap (λ ls. ls ++ [] ∷ []) (c.loop-place.invariant first) ∙ none_more first c.loop-place._place)
