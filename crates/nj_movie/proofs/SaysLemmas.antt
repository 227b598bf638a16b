-- The reading as a function and as a relation.
use Rattle.std.proofs.Common.{ℕ, ◌≡◌, ◌≤◌, ◌<◌, ◌-◌, Bool, true, false, cond, ◌&&◌, ltb, List, [], ◌∷◌, ◌++◌, length, take, drop, Option, Some, None, Ok, Err, refl, sym, ap, arith, ◌∙◌, length-drop, take-append-drop, append_assoc}
use Rattle.std.specs.List.{starts_with, ends_with}
use Rattle.std.specs.Prelude.{nat_eq, slice_range}
use Rattle.std.specs.Cmp.Lexicographic.{bytes_decides}
use Rattle.std.proofs.lemmas.Bool.{and_parts, ltb-true, ltb-false}
use Rattle.nj_pad.specs.Pad.{pad_text, pad_of_text}
use Rattle.nj_movie.specs.declared.MovieRefused.TheVariants.{Line, TooManyFrames}
use Rattle.nj_movie.specs.Text.{content, is_skipped, line_head, line_tail, pad_line, pad_of_line, line_frames, frame_or_refusal}
use Rattle.nj_movie.specs.Says.{IsFrame}

-- what is known of a pad's eight characters
pub record PadLaws : Type 0 where
  pub shown : (pad : ℕ) → pad < 256 → pad_of_text (pad_text pad) ≡ Some pad
  pub only : (text : List ℕ) (pad : ℕ) → pad_of_text text ≡ Some pad → text ≡ pad_text pad
  pub byte : (text : List ℕ) (pad : ℕ) → pad_of_text text ≡ Some pad → pad < 256

-- the line of a pad is read as that pad
pub pad_of_line-pad_line : PadLaws → (pad : ℕ) → pad < 256 → pad_of_line (pad_line pad) ≡ Some pad
unfolding pad_of_line pad_text
pad_of_line-pad_line laws pad below = laws.shown pad below

-- a list is its first n elements, then the next m, then the rest
three_parts : (n m : ℕ) (text : List ℕ) → text ≡ take n text ++ take m (drop n text) ++ drop m (drop n text)
three_parts n m text =
    rw (append_assoc, take-append-drop m (drop n text)) (sym (take-append-drop n text))

-- the parts of a frame's line
line_parts : (text : List ℕ) → take 4 text ≡ line_head → drop (length (drop 4 text) - 1) (drop 4 text) ≡ line_tail →
    text ≡ line_head ++ slice_range text 4 (length text - 1) ++ line_tail
line_parts text head tail =
    let long : length (drop 4 text) - 1 ≡ length text - 1 - 4 = omega (arith, length-drop 4 text) in
    let parts = three_parts 4 (length (drop 4 text) - 1) text in
    parts ∙ rw (head, tail, long)

-- a line that is read as a pad is the line of that pad
read_by_tests : PadLaws → (text : List ℕ) (pad : ℕ) (fits : Bool) →
    (starts_with nat_eq text line_head && ends_with nat_eq (drop 4 text) line_tail) ≡ fits →
    cond fits (pad_of_text (slice_range text 4 (length text - 1))) None ≡ Some pad →
    (pad < 256) × (text ≡ pad_line pad)
read_by_tests laws text pad true fits read =
    let tests = and_parts _ _ fits in
    let head : line_head ≡ take 4 text = (bytes_decides _ _).0 tests.0 in
    let tail : line_tail ≡ drop (length (drop 4 text) - 1) (drop 4 text) = (bytes_decides _ _).0 tests.1 in (
      laws.byte _ pad read,
      line_parts text (sym head) (sym tail) ∙ ap (λ places. line_head ++ places ++ line_tail) (laws.only _ pad read),
    )
read_by_tests laws text pad false fits read = absurd cc

pub pad_line-pad_of_line : PadLaws → (text : List ℕ) (pad : ℕ) → pad_of_line text ≡ Some pad
    → (pad < 256) × (text ≡ pad_line pad)
unfolding pad_of_line
pad_line-pad_of_line laws text pad read = read_by_tests laws text pad _ refl read

-- what one line says, where so many frames stand before it
pub data LineCase (number frames : ℕ) (line : List ℕ) : Type 0 where
  skipped : is_skipped (content line) ≡ true → line_frames number frames line ≡ Ok [] → LineCase number frames line
  pressed : (pad : ℕ) → IsFrame line pad → frames < 1048576 → line_frames number frames line ≡ Ok (pad ∷ []) →
      LineCase number frames line
  too_many : (pad : ℕ) → IsFrame line pad → 1048576 ≤ frames → is_skipped (content line) ≡ false →
      line_frames number frames line ≡ Err (TooManyFrames number) → LineCase number frames line
  no_frame : ((pad : ℕ) → IsFrame line pad → ⊥) → is_skipped (content line) ≡ false →
      line_frames number frames line ≡ Err (Line number) → LineCase number frames line

-- a frame that comes after fewer than 2^20, or not
frame_case : (number frames : ℕ) (line : List ℕ) (pad : ℕ) (room : Bool) → IsFrame line pad →
    is_skipped (content line) ≡ false →
    ltb frames 1048576 ≡ room →
    line_frames number frames line ≡ cond room (Ok (pad ∷ [])) (Err (TooManyFrames number))
    → LineCase number frames line
frame_case number frames line pad true frame shown room is = pressed pad frame (ltb-true _ _ room) is
frame_case number frames line pad false frame shown room is = too_many pad frame (ltb-false _ _ room) shown is

-- a line that is not skipped is a frame, or not
shown_case : PadLaws → (number frames : ℕ) (line : List ℕ) (pad : Option ℕ) → pad_of_line (content line) ≡ pad →
    is_skipped (content line) ≡ false → line_frames number frames line ≡ frame_or_refusal number frames pad →
    LineCase number frames line
shown_case laws number frames line None read shown is =
    no_frame (λ pad frame. let other : pad_of_line (content line)
    ≡ Some pad = rw frame.1 (pad_of_line-pad_line laws pad frame.0) in cc) shown is
shown_case laws number frames line (Some pad) read shown is =
    frame_case number frames line pad (ltb frames 1048576)
    (pad_line-pad_of_line laws (content line) pad read) shown refl is

-- the case of a line
case_by_skipped : PadLaws → (number frames : ℕ) (line : List ℕ) (skips : Bool) → is_skipped (content line) ≡ skips →
    line_frames number frames line ≡ cond skips (Ok []) (frame_or_refusal number frames (pad_of_line (content line))) →
    LineCase number frames line
case_by_skipped laws number frames line true skips is = skipped skips is
case_by_skipped laws number frames line false skips is = shown_case laws number frames line _ refl skips is

pub line_case : PadLaws → (number frames : ℕ) (line : List ℕ) → LineCase number frames line
unfolding line_frames
line_case laws number frames line = case_by_skipped laws number frames line _ refl refl
