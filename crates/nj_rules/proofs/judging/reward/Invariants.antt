use Rattle.std.proofs.Common.{◌≡◌, ◌*◌, ◌^◌, ◌≤◌, map, drop, ◌+ℤ◌, unsigned_abs}
use Rattle.nj_rules.specs.Rules.{gain_of, members_from, int_sum, reward_of}
use Rattle.nj_rules.proofs.judging.reward.Given as goal

-- the satisfied rules that are left give what is missing
abbrev pub invariant-loop-number : goal.invariant-loop-number
invariant-loop-number l =
    (reward_of l.rules l.ram l.status
    ≡ l.sum +ℤ int_sum (map (gain_of l.ram) (members_from l.number l.status (drop l.number l.rules))))
    × (unsigned_abs l.sum ≤ l.number * 2 ^ 39)
