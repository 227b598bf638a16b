use Rattle.std.proofs.Common.{◌≡◌, ℕ, ◌||◌, ◌^◌, ◌<◌, drop}
use Rattle.nj_rules.specs.Rules.{is_in}
use Rattle.nj_rules.proofs.Satisfied.{met_from}
use Rattle.nj_rules.proofs.judging.status_of.Given as goal

-- the rules that are left bring what is missing
abbrev pub invariant-loop-number : goal.invariant-loop-number
invariant-loop-number l =
    ((j : ℕ) →
    (is_in l.status j || met_from l.number (drop l.number l.rules) l.ram j)
    ≡ (is_in l.old j || met_from 0 l.rules l.ram j))
    × (l.status < 2 ^ 128)
