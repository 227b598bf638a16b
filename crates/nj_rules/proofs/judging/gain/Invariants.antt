use Rattle.std.proofs.Common.{◌≡◌, ◌+◌, ◌*◌, ◌^◌, ◌≤◌, map, drop, ◌+ℤ◌, unsigned_abs}
use Rattle.nj_rules.specs.Rules.{worth_of, int_sum}
use Rattle.nj_rules.proofs.judging.gain.Given as goal

abbrev pub invariant-loop-weight : goal.invariant-loop-weight
invariant-loop-weight l =
    (l.rule.reward +ℤ int_sum (map (worth_of l.ram) l.weight-items)
    ≡ l.sum +ℤ int_sum (map (worth_of l.ram) (drop l.weight-index l.weight-items)))
    × (unsigned_abs l.sum ≤ 2 ^ 30 + l.weight-index * 2 ^ 36)
