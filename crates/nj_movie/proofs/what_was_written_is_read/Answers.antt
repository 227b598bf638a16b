-- Each clause is a lemma on written lines, from what is known of a pad's characters and of lines.
use Rattle.std.proofs.Common.{ℕ, ◌≡◌, List, [], ◌∷◌, ◌++◌, Ok, subst, append-nil}
use Rattle.std.proofs.lemmas.List.Elements.{All-nil}
use Rattle.nj_movie.specs.Text.{movie_of, movie_text}
use Rattle.nj_movie.specs.Says.{IsComment}
use Rattle.nj_movie.proofs.WrittenLemmas.{movie_of-written, IsComment-plain, All-comment}
use Rattle.nj_movie.proofs.what_was_written_is_read.Goals as goal

pub returns-clause-commented : goal.returns-clause-commented
returns-clause-commented c =
    let known = c.a_text_shows_its_pad.ensures in
    movie_of-written (record { shown = known.shown; only = known.only_its_text; byte = known.byte })
    c.lines_are_the_bytes.ensures.only

pub returns-clause-comment : goal.returns-clause-comment
returns-clause-comment c = IsComment-plain c.printed_numbers_have_no_line_feed.ensures.ended

pub returns-clause-behind_one : goal.returns-clause-behind_one
returns-clause-behind_one c =
    let known = c.a_text_shows_its_pad.ensures in
    let comment = IsComment-plain c.printed_numbers_have_no_line_feed.ensures.ended in
    λ text pads plain bytes most.
    subst (λ (head : List ℕ). movie_of (head ++ movie_text pads) ≡ Ok pads) (append-nil (35 ∷ text ++ 10 ∷ []))
    (movie_of-written (record { shown = known.shown; only = known.only_its_text; byte = known.byte })
    c.lines_are_the_bytes.ensures.only ((35 ∷ text ++ 10 ∷ []) ∷ []) pads
    (All-comment (35 ∷ text ++ 10 ∷ []) (comment text plain)) bytes most)

pub returns-clause-plain : goal.returns-clause-plain
returns-clause-plain c =
    let known = c.a_text_shows_its_pad.ensures in
    λ pads. movie_of-written (record { shown = known.shown; only = known.only_its_text; byte = known.byte })
    c.lines_are_the_bytes.ensures.only [] pads (All-nil IsComment)
