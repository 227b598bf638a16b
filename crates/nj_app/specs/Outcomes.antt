-- The text of a search's outcome. Our own.
use Rattle.std.specs.Prelude.{ℕ, List, [], ◌++◌, length, codes}
use Rattle.nj_movie.specs.Text.{movie_text}
use Rattle.nj_search.specs.declared.searching.Outcome.{Outcome}
use Rattle.nj_search.specs.declared.searching.Outcome.TheVariants.{Won, Exhausted, Limit}
use Rattle.nj_texts.specs.Lines.{exhausted_line, outcome_line}

-- the first line of the text
abbrev pub outcome_head : Outcome → List ℕ
outcome_head (Won step reward movie) = outcome_line (codes "won") step (length movie) reward
outcome_head (Exhausted step) = exhausted_line step
outcome_head (Limit step reward movie) = outcome_line (codes "limit") step (length movie) reward

-- the lines behind it: those of the movie, where there is one
abbrev pub outcome_lines : Outcome → List ℕ
outcome_lines (Won step reward movie) = movie_text movie
outcome_lines (Exhausted step) = []
outcome_lines (Limit step reward movie) = movie_text movie

-- the text of an outcome
unfoldable pub outcome_text : Outcome → List ℕ
outcome_text outcome = outcome_head outcome ++ outcome_lines outcome

-- the status of an outcome
abbrev pub outcome_status : Outcome → ℕ
outcome_status (Won step reward movie) = 0
outcome_status (Exhausted step) = 1
outcome_status (Limit step reward movie) = 2
