use Rattle.std.proofs.Common.{◌≡◌, ℕ, ◌+◌, List, [], ◌∷◌, refl, ap, map}
use Rattle.nj_rules.specs.declared.record.Rule.{Rule}
use Rattle.nj_rules.specs.Rules.{members_from, satisfied_rules, reward_of, int_sum, gain_of}
use Rattle.nj_rules.proofs.Sets.{is_in-zero}
use Rattle.nj_rules.proofs.laws.no_rule_gives_nothing.Goals as goal

-- the empty set has no rules
none_from : (k : ℕ) (rules : List Rule) → members_from k 0 rules ≡ []
none_from k [] = refl
none_from k (rule ∷ rules) = rw is_in-zero (none_from (k + 1) rules)

pub returns : goal.returns
unfolding reward_of satisfied_rules
returns c = λ rules ram. ap (λ members. int_sum (map (gain_of ram) members)) (none_from 0 rules)
