-- The winner, row by row from the last: the better of a row and the best of those behind it.
use Rattle.std.specs.Prelude.{Option, Some, None, if◌then◌else◌}
use Rattle.nj_rows.specs.declared.Row.{Row}
use Rattle.nj_rows.specs.Order.{is_win_row, is_row_before}

-- of a row and the best of others the one that stands first
abbrev pub first : Row → Option Row → Row
first row None = row
first row (Some other) = if is_row_before row other then row else other

-- the best win of a row and of others whose best win is known
abbrev pub better : Row → Option Row → Option Row
better row best = if is_win_row row then Some (first row best) else best
