-- The pieces of a front, and the rows and runs of a piece. All of it is this project's own.
use Rattle.std.specs.Prelude.{ℕ, ◌+◌, ◌*◌, ◌/◌, List, take, drop, length, flat_map}
use Rattle.std.specs.List.{sum_by}
use Rattle.nj_search_defs.specs.Game.{Word}
use Rattle.nj_rows.specs.declared.Row.{Row}
use Rattle.nj_expand.specs.Held.{Held}
use Rattle.nj_expand.specs.Children.{rows_from, runs_from}

-- how many pieces a front has: sixteen words each, the last one what is left
unfoldable pub pieces_in : Held → ℕ
pieces_in held = (length held.state.front + 15) / 16

-- the words of a piece
abbrev pub words_in : Held → ℕ → List Word
words_in held piece = take 16 (drop (16 * piece) held.state.front)

-- the rows of the live candidates of a piece
unfoldable pub piece_rows : Held → ℕ → List Row
piece_rows held piece = rows_from held (16 * piece) (words_in held piece)

-- the candidates of a piece
unfoldable pub piece_runs : Held → ℕ → ℕ
piece_runs held piece = runs_from held.plan (words_in held piece)

-- the rows of the live candidates of these pieces
abbrev pub rows_of : Held → List ℕ → List Row
rows_of held pieces = flat_map (piece_rows held) pieces

-- the candidates of these pieces
abbrev pub runs_of : Held → List ℕ → ℕ
runs_of held pieces = sum_by (piece_runs held) pieces
