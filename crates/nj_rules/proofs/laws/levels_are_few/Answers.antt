use Rattle.std.proofs.Common.{ℕ, ◌+◌, ◌≤◌, Bool, true, false, List, [], ◌∷◌, length, arith, if◌then◌else◌}
use Rattle.std.proofs.lemmas.List.Sums.{count_by-le-length}
use Rattle.nj_rules.specs.declared.record.Rule.{Rule}
use Rattle.nj_rules.specs.Rules.{is_in, members_from, satisfied_rules, level_of}
use Rattle.nj_rules.proofs.laws.levels_are_few.Goals as goal

-- no more rules are in a set than there are
members_few : (k set : ℕ) (rules : List Rule) → length (members_from k set rules) ≤ length rules
members_few k set [] = omega arith
members_few k set (rule ∷ rules) = by_test (is_in set k) (members_few (k + 1) set rules)
  where
    by_test : (b : Bool) → length (members_from (k + 1) set rules) ≤ length rules
        → length (if b then rule ∷ members_from (k + 1) set rules else members_from (k + 1) set rules)
        ≤ length (rule ∷ rules)
    by_test true few = omega (arith, few)
    by_test false few = omega (arith, few)

pub returns : goal.returns
unfolding level_of satisfied_rules
returns c = λ rules status.
    omega
    (arith, count_by-le-length (λ rule. rule.checkpoint) (members_from 0 status rules), members_few 0 status rules)
