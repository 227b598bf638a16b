-- The line is a comment: a text without line feeds between its mark and its end.
use Rattle.std.proofs.Common.{◌≡◌, ℕ, ℤ, List, [], ◌∷◌, ◌++◌, codes, refl, ap, ◌∙◌, subst, append_assoc, Ok}
use Rattle.std.specs.Fmt.{decimal, signed_decimal}
use Rattle.nj_movie.specs.Text.{movie_of, movie_text}
use Rattle.nj_texts.specs.Lines.{outcome_line}
use Rattle.nj_texts.proofs.Digits.{decimal_plain, signed_plain}
use Rattle.nj_texts.proofs.laws.won_text_is_a_movie.Goals as goal

-- what stands behind the number of frames
abbrev behind_frames : ℤ → List ℕ
behind_frames reward = codes " reward=" ++ signed_decimal reward

-- what stands behind the number of steps
abbrev behind_steps : ℕ → ℤ → List ℕ
behind_steps frames reward = codes " frames=" ++ (decimal frames ++ behind_frames reward)

-- the text of the comment
abbrev won_words : ℕ → ℕ → ℤ → List ℕ
won_words step frames reward = codes " won step=" ++ (decimal step ++ behind_steps frames reward)

won_line : (step frames : ℕ) (reward : ℤ) →
    (35 ∷ won_words step frames reward) ++ 10 ∷ [] ≡ outcome_line (codes "won") step frames reward
unfolding outcome_line
won_line step frames reward =
    ap (λ rest. codes "# won step=" ++ rest)
    (append_assoc (decimal step) (behind_steps frames reward) (10 ∷ [])
    ∙ ap (λ rest. decimal step ++ (codes " frames=" ++ rest))
    (append_assoc (decimal frames) (behind_frames reward) (10 ∷ [])))

pub returns : goal.returns
returns c = λ step frames reward pads bytes few.
    let joined = c.printed_numbers_have_no_line_feed.ensures.joined in
    let plain =
    joined (codes " won step=") _ refl
    (joined (decimal step) _ (decimal_plain step)
    (joined (codes " frames=") _ refl
    (joined (decimal frames) _ (decimal_plain frames)
    (joined (codes " reward=") (signed_decimal reward) refl (signed_plain reward))))) in
    let P : List ℕ → Type 0 = λ line. movie_of (line ++ movie_text pads) ≡ Ok pads in
    subst P (won_line step frames reward)
    (c.what_was_written_is_read.ensures.behind_one (won_words step frames reward) pads plain bytes few)
