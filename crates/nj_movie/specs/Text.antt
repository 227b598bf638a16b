-- The text of a movie: one line a frame, in the form of the input lines that emulators log. The format is our own.
use Rattle.std.specs.Prelude.{ℕ, ◌+◌, ◌-◌, ◌==◌, nat_eq, nat_lt, Bool, true, ◌&&◌, if◌then◌else◌, List, [], ◌∷◌, ◌++◌, length, drop, slice_range, Option, Some, None, Result, Ok, Err}
use Rattle.std.specs.List.{starts_with, ends_with, flat_map}
use Rattle.nj_pad.specs.Pad.{pad_text, pad_of_text}
use Rattle.nj_lines.specs.Lines.{lines, without}
use Rattle.nj_movie.specs.declared.MovieRefused.{MovieRefused}
use Rattle.nj_movie.specs.declared.MovieRefused.TheVariants.{Line, TooManyFrames}

-- what stands before a pad's eight characters: |..|
abbrev pub line_head : List ℕ
line_head = 124 ∷ 46 ∷ 46 ∷ 124 ∷ []

-- what stands behind them: |
abbrev pub line_tail : List ℕ
line_tail = 124 ∷ []

-- the thirteen characters of a frame's line
abbrev pub pad_line : ℕ → List ℕ
pad_line pad = line_head ++ pad_text pad ++ line_tail

-- the line as it is written, ended by a line feed
unfoldable pub written_line : ℕ → List ℕ
written_line pad = pad_line pad ++ 10 ∷ []

-- the text of a movie as it is written
abbrev pub movie_text : List ℕ → List ℕ
movie_text pads = flat_map written_line pads

-- a line without its line feed, and then without one carriage return
abbrev pub content : List ℕ → List ℕ
content line = without (13 ∷ []) (without (10 ∷ []) line)

-- an empty line, or a comment, which begins with #
abbrev pub is_skipped : List ℕ → Bool
is_skipped [] = true
is_skipped (byte ∷ bytes) = byte == 35

-- the pad of a frame's line, if it is one
unfoldable pub pad_of_line : List ℕ → Option ℕ
pad_of_line text =
    if starts_with nat_eq text line_head && ends_with nat_eq (drop 4 text) line_tail
    then pad_of_text (slice_range text 4 (length text - 1)) else None

-- the frame of a line that is not skipped, or its refusal
abbrev pub frame_or_refusal : ℕ → ℕ → Option ℕ → Result (List ℕ) MovieRefused
frame_or_refusal number frames None = Err (Line number)
frame_or_refusal number frames (Some pad) =
    if nat_lt frames 1048576 then Ok (pad ∷ []) else Err (TooManyFrames number)

-- the frames of a line, at most one, where so many stand before it, or its refusal by its number
unfoldable pub line_frames : ℕ → ℕ → List ℕ → Result (List ℕ) MovieRefused
line_frames number frames line =
    if is_skipped (content line) then Ok [] else frame_or_refusal number frames (pad_of_line (content line))

-- these frames before those, if they are there
abbrev pub with_front : List ℕ → Result (List ℕ) MovieRefused → Result (List ℕ) MovieRefused
with_front pads (Ok more) = Ok (pads ++ more)
with_front pads (Err refused) = Err refused

-- the frames of a line and then those that follow, or the first refusal
abbrev pub and_then : Result (List ℕ) MovieRefused → (List ℕ → Result (List ℕ) MovieRefused)
    → Result (List ℕ) MovieRefused
and_then (Ok pads) rest = with_front pads (rest pads)
and_then (Err refused) rest = Err refused

-- the frames of the lines from this number on, where so many frames stand before them, or the first refusal
abbrev pub frames_from : ℕ → ℕ → List (List ℕ) → Result (List ℕ) MovieRefused
frames_from number frames [] = Ok []
frames_from number frames (line ∷ rest) =
    and_then (line_frames number frames line) (λ pads. frames_from (number + 1) (frames + length pads) rest)

-- the reading of a movie's text: its pads, or the first refused line, counted from 1
unfoldable pub movie_of : List ℕ → Result (List ℕ) MovieRefused
movie_of bytes = frames_from 1 0 (lines bytes)
