-- The order of rows, and the wins among them. The order is our own: it refines the candidates' preference by the
-- fields that are left, so that only equal rows tie.
use Rattle.std.specs.Prelude.{ℕ, Bool, true, false}
use Rattle.std.specs.Ordering.{is_lt, ordering_then, int_cmp, nat_cmp}
use Rattle.std.specs.Cmp.Lexicographic.{slice_cmp}
use Rattle.std.specs.declared.cmp.Ordering.{Ordering}
use Rattle.nj_search_defs.specs.Quota.{same_values}
use Rattle.nj_rows.specs.declared.Row.{Row}
use Rattle.nj_rows.specs.declared.Verdict3.{Verdict3}
use Rattle.nj_rows.specs.declared.Verdict3.TheVariants.{Go, Win, Fail}

-- whether a verdict is a win
abbrev pub is_win : Verdict3 → Bool
is_win Go = false
is_win Win = true
is_win Fail = false

-- the place of a verdict: Go, then Win, then Fail
abbrev pub place_of : Verdict3 → ℕ
place_of Go = 0
place_of Win = 1
place_of Fail = 2

-- greater rewards first, then smaller numbers
unfoldable pub preference : Row → Row → Ordering
preference a b = ordering_then (int_cmp b.reward a.reward) (nat_cmp a.number b.number)

-- then smaller keys, smaller levels, verdicts by their place, smaller pads, and smaller buckets, value by value
unfoldable pub remainder : Row → Row → Ordering
remainder a b =
    ordering_then (ordering_then (nat_cmp a.key b.key) (nat_cmp a.level b.level))
    (ordering_then (ordering_then (nat_cmp (place_of a.verdict) (place_of b.verdict)) (nat_cmp a.pad b.pad))
    (slice_cmp int_cmp a.bucket b.bucket))

-- the order of rows
unfoldable pub row_order : Row → Row → Ordering
row_order a b = ordering_then (preference a b) (remainder a b)

-- whether a row stands before the other
abbrev pub is_row_before : Row → Row → Bool
is_row_before a b = is_lt (row_order a b)

-- whether a row wins
abbrev pub is_win_row : Row → Bool
is_win_row row = is_win row.verdict

-- two rows have the same bucket
abbrev pub is_alike_row : Row → Row → Bool
is_alike_row a b = same_values a.bucket b.bucket
