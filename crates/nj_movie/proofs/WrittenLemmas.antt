-- What was written is read again.
use Rattle.std.proofs.Common.{ℕ, ◌≡◌, ◌≤◌, ◌<◌, ◌+◌, Bool, true, false, cond, ◌==◌, List, [], ◌∷◌, ◌++◌, length, take, drop, map, Ok, refl, sym, ap, subst, arith, ◌∙◌, append_assoc, All, take-append-drop, append-nil}
use Rattle.std.specs.List.{concat}
use Rattle.std.proofs.lemmas.Bool.{agree_below_at, eqb-true}
use Rattle.std.proofs.lemmas.List.Elements.{All-head, All-tail, All-cons, All-nil}
use Rattle.std.proofs.lemmas.List.Folds.{concat-append}
use Rattle.nj_lines.specs.Lines.{lines, without, text_len, IsPlain, IsEnded, AreLines}
use Rattle.nj_pad.specs.Pad.{pad_text}
use Rattle.nj_movie.specs.Text.{content, is_skipped, pad_line, written_line, movie_text, movie_of}
use Rattle.nj_movie.specs.Says.{Says, nothing, skip, press, IsComment}
use Rattle.nj_movie.proofs.SaysLemmas.{PadLaws}
use Rattle.nj_movie.proofs.ReadingLemmas.{says-movie_of}

-- whether a pad's line ends with its only line feed
abbrev is_ended : ℕ → Bool
is_ended pad = text_len (written_line pad) + 1 == length (written_line pad)

-- a pad's line ends with its only line feed: each of the 256 is tried
IsEnded-written_line : (pad : ℕ) → pad < 256 → IsEnded (written_line pad)
unfolding written_line pad_text
IsEnded-written_line pad below = eqb-true _ _ (agree_below_at is_ended (λ _. true) 256 pad refl below)

-- its content is the thirteen characters
content-written_line : (pad : ℕ) → content (written_line pad) ≡ pad_line pad
unfolding written_line pad_text
content-written_line pad = refl

-- a text that begins a line
record IsFront (line text : List ℕ) : Type 0 where
  behind : List ℕ
  whole : line ≡ text ++ behind

front_by_test : (line : List ℕ) (n : ℕ) (ends : Bool) → IsFront line (cond ends (take n line) line)
front_by_test line n true = record { behind = drop n line; whole = sym (take-append-drop n line) }
front_by_test line n false = record { behind = []; whole = sym (append-nil line) }

-- a line without an end is a front of it
IsFront-without : (end line : List ℕ) → IsFront line (without end line)
IsFront-without end line = front_by_test line _ _

-- a front of a front is a front
front_of_front : (line text less : List ℕ) → IsFront line text → IsFront text less → IsFront line less
front_of_front line text less first second = record {
  behind = second.behind ++ first.behind;
  whole = first.whole ∙ ap (λ front. front ++ first.behind) second.whole ∙ append_assoc less second.behind first.behind;
}

-- the content of a line is a front of it
IsFront-content : (line : List ℕ) → IsFront line (content line)
IsFront-content line =
    front_of_front line (without (10 ∷ []) line) (content line) (IsFront-without (10 ∷ []) line)
    (IsFront-without (13 ∷ []) (without (10 ∷ []) line))

-- a front of a comment is skipped
is_skipped-front : (byte : ℕ) (bytes text behind : List ℕ) → byte ≡ 35 → byte ∷ bytes ≡ text ++ behind
    → is_skipped text ≡ true
is_skipped-front byte bytes [] behind mark whole = refl
is_skipped-front byte bytes (first ∷ more) behind mark whole = let same : first ≡ 35 = cc in rw same refl

-- a comment is skipped
is_skipped-comment : (line : List ℕ) → IsComment line → is_skipped (content line) ≡ true
is_skipped-comment [] comment = absurd (let mark = comment.mark in cc)
is_skipped-comment (byte ∷ bytes) comment =
    let front = IsFront-content (byte ∷ bytes) in
    is_skipped-front byte bytes (content (byte ∷ bytes)) front.behind (let mark = comment.mark in cc) front.whole

-- an ended line before lines
AreLines-cons : (line : List ℕ) (rest : List (List ℕ)) → IsEnded line → AreLines rest → AreLines (line ∷ rest)
AreLines-cons line [] ended are = (omega arith, omega arith)
AreLines-cons line (next ∷ more) ended are = (ended, are)

-- written lines are lines, and say their pads
AreLines-written : (pads : List ℕ) → All (λ pad. pad < 256) pads → AreLines (map written_line pads)
AreLines-written [] bytes = tt
AreLines-written (pad ∷ pads) bytes =
    AreLines-cons (written_line pad) (map written_line pads)
    (IsEnded-written_line pad (All-head (λ pad. pad < 256) pad pads bytes))
    (AreLines-written pads (All-tail (λ pad. pad < 256) pad pads bytes))

Says-written : (pads : List ℕ) → All (λ pad. pad < 256) pads → Says (map written_line pads) pads
Says-written [] bytes = nothing
Says-written (pad ∷ pads) bytes =
    press (written_line pad) (map written_line pads) pad pads
    (All-head (λ pad. pad < 256) pad pads bytes, content-written_line pad)
    (Says-written pads (All-tail (λ pad. pad < 256) pad pads bytes))

-- comments before them are lines, and say nothing
AreLines-comments : (comments parts : List (List ℕ)) → All IsComment comments → AreLines parts
    → AreLines (comments ++ parts)
AreLines-comments [] parts all are = are
AreLines-comments (comment ∷ comments) parts all are =
    AreLines-cons comment (comments ++ parts) (All-head IsComment comment comments all).ended
    (AreLines-comments comments parts (All-tail IsComment comment comments all) are)

Says-comments : (comments parts : List (List ℕ)) (pads : List ℕ) → All IsComment comments → Says parts pads
    → Says (comments ++ parts) pads
Says-comments [] parts pads all said = said
Says-comments (comment ∷ comments) parts pads all said =
    skip comment (comments ++ parts) pads (is_skipped-comment comment (All-head IsComment comment comments all))
    (Says-comments comments parts pads (All-tail IsComment comment comments all) said)

-- the written lines, one behind another, are the text
concat-written : (pads : List ℕ) → concat (map written_line pads) ≡ movie_text pads
concat-written [] = refl
concat-written (pad ∷ pads) = ap (λ text. written_line pad ++ text) (concat-written pads)

-- what was written, behind comments, is read as the same pads
pub movie_of-written : PadLaws → ((parts : List (List ℕ)) → AreLines parts → lines (concat parts) ≡ parts) →
    (comments : List (List ℕ)) (pads : List ℕ) → All IsComment comments → All (λ pad. pad < 256) pads →
    length pads ≤ 1048576 → movie_of (concat comments ++ movie_text pads) ≡ Ok pads
movie_of-written laws only comments pads all bytes most =
    let parts = comments ++ map written_line pads in
    let whole : concat parts ≡ concat comments ++ movie_text pads =
    concat-append comments (map written_line pads) ∙ ap (λ text. concat comments ++ text) (concat-written pads) in
    let are : lines (concat parts) ≡ parts =
    only parts (AreLines-comments comments (map written_line pads) all (AreLines-written pads bytes)) in
    let said : Says parts pads = Says-comments comments (map written_line pads) pads all (Says-written pads bytes) in
    subst (λ text. movie_of text ≡ Ok pads) whole
    (says-movie_of laws (concat parts) pads (subst (λ lines. Says lines pads) (sym are) said) most)

-- a text without line feeds makes a comment
pub IsComment-plain : ((text : List ℕ) → IsPlain text → IsEnded (text ++ 10 ∷ [])) → (text : List ℕ) → IsPlain text →
    IsComment (35 ∷ text ++ 10 ∷ [])
IsComment-plain ended text plain = record { ended = ended (35 ∷ text) (omega arith); mark = refl }

-- one comment is a list of comments
pub All-comment : (line : List ℕ) → IsComment line → All IsComment (line ∷ [])
All-comment line comment = All-cons IsComment line [] comment (All-nil IsComment)
