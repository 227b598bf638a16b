use Rattle.std.proofs.Common.{◌≡◌, ◌+◌, ◌≤◌, ◌||◌, drop, count_by}
use Rattle.std.specs.List.{list_any}
use Rattle.nj_rules.specs.Rules.{satisfied_rules, members_from, level_of}
use Rattle.nj_rules.proofs.judging.tally_of.Given as goal

-- the satisfied rules that are left say what is missing
abbrev pub invariant-loop-number : goal.invariant-loop-number
invariant-loop-number l =
    (list_any (λ rule. rule.fail) (satisfied_rules l.rules l.status)
    ≡ (l.fails || list_any (λ rule. rule.fail) (members_from l.number l.status (drop l.number l.rules))))
    × (list_any (λ rule. rule.win) (satisfied_rules l.rules l.status)
    ≡ (l.wins || list_any (λ rule. rule.win) (members_from l.number l.status (drop l.number l.rules))))
    × (level_of l.rules l.status
    ≡ l.level + count_by (λ rule. rule.checkpoint) (members_from l.number l.status (drop l.number l.rules)))
    × (l.level ≤ l.number)
