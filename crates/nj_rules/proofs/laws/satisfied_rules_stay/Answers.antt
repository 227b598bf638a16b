use Rattle.std.proofs.Common.{refl, ◌||◌}
use Rattle.nj_rules.specs.Rules.{is_in, is_met, status_after}
use Rattle.nj_rules.proofs.Sets.{is_in-set_below}
use Rattle.nj_rules.proofs.laws.satisfied_rules_stay.Goals as goal

pub returns : goal.returns
unfolding status_after
returns c =
    λ rules ram old k h before. rw (is_in-set_below 128 (λ n. is_in old n || is_met rules ram n) k h, before) refl
