-- The rows of a word's candidates, by the word and by the state that it leads to. All of it is this project's own.
use Rattle.std.specs.Prelude.{ℕ, ◌+◌, ◌*◌, List, [], ◌∷◌, ◌++◌, length, map, filter, sum_by}
use Rattle.nj_search_defs.specs.Game.{Word}
use Rattle.nj_search_defs.specs.Candidates.{extensions}
use Rattle.nj_machine.specs.State.{State}
use Rattle.nj_script.specs.Script.{Record}
use Rattle.nj_game.specs.Plan.{Plan}
use Rattle.nj_game.specs.Words.{game_of, allowed_of}
use Rattle.nj_rows.specs.declared.Row.{Row}
use Rattle.nj_seen.specs.Rows.{is_live_row}
use Rattle.nj_candidate.specs.Rows.{row_of, row_at}
use Rattle.nj_expand.specs.Held.{Held}

-- the rows of a state's children by these pads, the first of them with this number
abbrev pub child_rows : Record → ℕ → State → ℕ → List ℕ → List Row
child_rows script status parent number [] = []
child_rows script status parent number (pad ∷ pads) =
    row_at script status parent pad number ∷ child_rows script status parent (number + 1) pads

-- the rows that are live in the next step of a search
abbrev pub live_among : Held → List Row → List Row
live_among held rows = filter (is_live_row held.state.mark (held.state.step + 1)) rows

-- the rows of the live candidates of a word that stands at this place of the front
unfoldable pub word_rows : Held → ℕ → Word → List Row
word_rows held place word =
    live_among held (map (row_of (game_of held.plan)) (extensions (256 * place) word (allowed_of held.plan word)))

-- the rows of the live candidates of these words, the first of them standing at this place of the front
abbrev pub rows_from : Held → ℕ → List Word → List Row
rows_from held place [] = []
rows_from held place (word ∷ words) = word_rows held place word ++ rows_from held (place + 1) words

-- how many candidates these words have: each as many as pads are allowed after it
abbrev pub runs_from : Plan → List Word → ℕ
runs_from plan words = sum_by (λ word. length (allowed_of plan word)) words
