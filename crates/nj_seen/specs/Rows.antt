-- What a step does with its rows: which are live, which is the winner, which are fresh and which are kept. Each
-- word is that of the search's candidates, read off their rows.
use Rattle.std.specs.Prelude.{ℕ, Bool, not, ◌&&◌, ◌==◌, ◌<◌, nat_lt, List, [], ◌∷◌, map, filter, Option, slice_get}
use Rattle.std.specs.List.{All, list_any}
use Rattle.nj_search_defs.specs.Game.{Judged}
use Rattle.nj_search_defs.specs.Order.{in_order}
use Rattle.nj_search_defs.specs.Pruning.{Mark, Seen, is_seen, is_live_judged}
use Rattle.nj_rows.specs.declared.Row.{Row}
use Rattle.nj_search_defs.specs.Quota.{limited}
use Rattle.nj_rows.specs.Order.{is_win_row, is_row_before, is_alike_row}
use Rattle.nj_seen.specs.Verdicts.{verdict_of}

-- the judgement that a row tells
abbrev pub row_judged : Row → Judged
row_judged row = record { verdict = verdict_of row.verdict; reward = row.reward; level = row.level }

-- whether a row is live at this step
abbrev pub is_live_row : Mark → ℕ → Row → Bool
is_live_row mark step row = is_live_judged mark step (row_judged row)

-- whether a row is fresh among rows: its key is not seen, and no row of smaller number has it
abbrev pub is_fresh_row : Seen → List Row → Row → Bool
is_fresh_row seen rows row =
    not (is_seen seen row.key)
    && not (list_any (λ other. nat_lt other.number row.number && (other.key == row.key)) rows)

-- numbers rise from each row to every later one
abbrev pub IsRising : List Row → Type 0
IsRising [] = Unit {0}
IsRising (row ∷ rows) = All (λ later. row.number < later.number) rows × IsRising rows

-- the winner among rows: the first win in their order
unfoldable pub winner_row : List Row → Option Row
winner_row rows = slice_get (in_order is_row_before (filter is_win_row rows)) 0

-- the rows that are fresh among them, as they stand
unfoldable pub fresh_rows : Seen → List Row → List Row
fresh_rows seen rows = filter (is_fresh_row seen rows) rows

-- the first rows in their order, at most so many, and of each bucket no more than the quota
unfoldable pub kept_rows : ℕ → ℕ → List Row → List Row
kept_rows most quota rows = limited is_alike_row most quota (in_order is_row_before rows)

-- the keys of rows, in rising order
unfoldable pub generation_rows : List Row → List ℕ
generation_rows rows = in_order nat_lt (map (λ row. row.key) rows)
