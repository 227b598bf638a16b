-- The line has three numbers, and each line behind it 14 bytes.
use Rattle.std.proofs.Common.{◌≡◌, ◌≤◌, ◌*◌, ◌++◌, ℕ, ℤ, List, [], ◌∷◌, length, codes, refl, arith, length-append}
use Rattle.nj_movie.specs.Text.{movie_text, written_line}
use Rattle.nj_pad.specs.Pad.{pad_text}
use Rattle.nj_texts.specs.Lines.{outcome_line}
use Rattle.nj_texts.proofs.Digits.{decimal_short, signed_short}
use Rattle.nj_texts.proofs.laws.won_text_is_short.Goals as goal

-- a line of a movie has 14 bytes
line_length : (pad : ℕ) → length (written_line pad) ≡ 14
unfolding written_line pad_text
line_length pad = refl

lines_length : (pads : List ℕ) → length (movie_text pads) ≡ 14 * length pads
lines_length [] = refl
lines_length (pad ∷ pads) =
    let rest = lines_length pads in
    omega (arith, length-append (written_line pad) (movie_text pads), line_length pad, rest)

-- the first line is short
head_length : (step frames : ℕ) (reward : ℤ) → length (outcome_line (codes "won") step frames reward) ≤ 300
unfolding outcome_line
head_length step frames reward =
    simp length-append (omega (arith, decimal_short step, decimal_short frames, signed_short reward))

pub returns : goal.returns
returns c = λ step frames reward pads.
    omega (
      arith,
      length-append (outcome_line (codes "won") step frames reward) (movie_text pads),
      head_length step frames reward,
      lines_length pads,
    )
