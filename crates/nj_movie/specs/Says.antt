-- What the lines of a movie's text say, as a relation, and which line is the first that is refused. The format is our
-- own.
use Rattle.std.specs.Prelude.{◌≡◌, ◌<◌, ◌≤◌, ℕ, ◌+◌, true, false, List, [], ◌∷◌, ◌++◌, length, take}
use Rattle.nj_lines.specs.Lines.{IsEnded}
use Rattle.nj_movie.specs.declared.MovieRefused.{MovieRefused}
use Rattle.nj_movie.specs.declared.MovieRefused.TheVariants.{Line, TooManyFrames, NoMemory}
use Rattle.nj_movie.specs.Text.{content, is_skipped, pad_line}

-- the line is the frame of this pad
abbrev pub IsFrame : List ℕ → ℕ → Type 0
IsFrame line pad = (pad < 256) × (content line ≡ pad_line pad)

-- the lines say these pads: each is skipped, or is the frame of the next pad
pub data Says : List (List ℕ) → List ℕ → Type 0 where
  nothing : Says [] []
  skip : (line : List ℕ) (rest : List (List ℕ)) (pads : List ℕ) →
      is_skipped (content line) ≡ true → Says rest pads → Says (line ∷ rest) pads
  press : (line : List ℕ) (rest : List (List ℕ)) (pad : ℕ) (pads : List ℕ) →
      IsFrame line pad → Says rest pads → Says (line ∷ rest) (pad ∷ pads)

-- the lines before this number say these pads, no more than a movie has, and the line of this number is not skipped
pub record StopsAt (parts : List (List ℕ)) (number : ℕ) (pads line : List ℕ) : Type 0 where
  pub before : List (List ℕ)
  pub behind : List (List ℕ)
  pub whole : parts ≡ before ++ line ∷ behind
  pub counted : number ≡ length before + 1
  pub said : Says before pads
  pub most : length pads ≤ 1048576
  pub shown : is_skipped (content line) ≡ false

-- the refusal is that of the first line which is no frame, or which is a frame after 2^20 of them
abbrev pub IsFirstRefusal : List (List ℕ) → MovieRefused → Type 0
IsFirstRefusal parts (Line number) =
    (pads : List ℕ) × (line : List ℕ) × StopsAt parts number pads line × ((pad : ℕ) → IsFrame line pad → ⊥)
IsFirstRefusal parts (TooManyFrames number) =
    (pads : List ℕ) × (line : List ℕ) × StopsAt parts number pads line × (length pads ≡ 1048576) × (pad : ℕ)
    × IsFrame line pad
IsFirstRefusal parts NoMemory = ⊥

-- the line begins with # and is ended
pub record IsComment (line : List ℕ) : Type 0 where
  pub ended : IsEnded line
  pub mark : take 1 line ≡ 35 ∷ []
