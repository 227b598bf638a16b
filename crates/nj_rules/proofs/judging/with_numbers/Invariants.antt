use Rattle.std.proofs.Common.{◌≡◌, ℕ, ◌==◌, ◌||◌, drop}
use Rattle.std.specs.List.{list_any}
use Rattle.nj_rules.specs.Rules.{is_in}
use Rattle.nj_rules.proofs.judging.with_numbers.Given as goal

-- the numbers that are left bring what is missing
abbrev pub invariant-loop-number : goal.invariant-loop-number
invariant-loop-number l =
    (j : ℕ) →
    (is_in l.set j || list_any (λ n. n == j) (drop l.number-index l.numbers))
    ≡ (is_in l.fn.set j || list_any (λ n. n == j) l.numbers)
