-- Laws of the text of a won outcome. Our own.
use Rattle.std.specs.Prelude.{◌≡◌, ◌≤◌, ◌<◌, ◌+◌, ◌*◌, ◌++◌, ℕ, ℤ, List, length, All, Ok, codes}
use Rattle.nj_movie.specs.Text.{movie_of, movie_text}
use Rattle.nj_texts.specs.Lines.{outcome_line}

-- the text of a won outcome, its line and its movie's lines, is read as this movie
abbrev pub WonTextIsAMovie : Type 0
WonTextIsAMovie = (step frames : ℕ) (reward : ℤ) (pads : List ℕ) → All (λ pad. pad < 256) pads → length pads ≤ 1048576
    → movie_of (outcome_line (codes "won") step frames reward ++ movie_text pads) ≡ Ok pads

-- the text of a won outcome has at most 300 bytes and 14 for each pad
abbrev pub WonTextIsShort : Type 0
WonTextIsShort = (step frames : ℕ) (reward : ℤ) (pads : List ℕ) →
    length (outcome_line (codes "won") step frames reward ++ movie_text pads) ≤ 300 + 14 * length pads
