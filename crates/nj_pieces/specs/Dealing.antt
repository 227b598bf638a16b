-- Which pieces go to which worker, and how often a piece stands in a list.
use Rattle.std.specs.Prelude.{ℕ, ◌==◌, ◌%◌, nat_lt, List, if◌then◌else◌}
use Rattle.std.specs.List.{filter, range_with_len, sum_by}

-- the pieces below this count that go to the worker of this number, rising: those whose remainder by the workers it is
abbrev pub dealt_to : ℕ → ℕ → ℕ → List ℕ
dealt_to number workers count = filter (λ p. p % workers == number) (range_with_len 0 count)

-- how often a piece stands in a list
abbrev pub times : ℕ → List ℕ → ℕ
times piece pieces = sum_by (λ p. if p == piece then 1 else 0) pieces

-- 1 for a piece below the count, and 0 for any other number
abbrev pub once_below : ℕ → ℕ → ℕ
once_below piece count = if nat_lt piece count then 1 else 0
