-- The reading of lines as a function and as a relation.
use Rattle.std.proofs.Common.{ℕ, ◌≡◌, ◌≤◌, ◌<◌, ◌+◌, true, false, List, [], ◌∷◌, ◌++◌, length, Result, Ok, Err, refl, sym, ap, subst, arith, ◌∙◌}
use Rattle.std.proofs.lemmas.Bool.{lt-ltb}
use Rattle.nj_lines.specs.Lines.{lines}
use Rattle.nj_movie.specs.declared.MovieRefused.{MovieRefused}
use Rattle.nj_movie.specs.declared.MovieRefused.TheVariants.{Line, TooManyFrames, NoMemory}
use Rattle.nj_movie.specs.Text.{content, is_skipped, line_frames, with_front, and_then, frames_from, movie_of}
use Rattle.nj_movie.specs.Says.{IsFrame, Says, nothing, skip, press, StopsAt, IsFirstRefusal}
use Rattle.nj_movie.proofs.TextLemmas.{with_front-none}
use Rattle.nj_movie.proofs.SaysLemmas.{PadLaws, LineCase, skipped, pressed, too_many, no_frame, line_case, pad_of_line-pad_line}

-- frames that were read, with others before them
record Fronted (front : List ℕ) (read : Result (List ℕ) MovieRefused) (pads : List ℕ) : Type 0 where
  more : List ℕ
  read_is : read ≡ Ok more
  joined : front ++ more ≡ pads

with_front-Ok : (front : List ℕ) (read : Result (List ℕ) MovieRefused) (pads : List ℕ) → with_front front read ≡ Ok pads
    → Fronted front read pads
with_front-Ok front (Ok more) pads is = record { more = more; read_is = refl; joined = cc }
with_front-Ok front (Err refused) pads is = absurd cc

with_front-Err : (front : List ℕ) (read : Result (List ℕ) MovieRefused) (refused : MovieRefused)
    → with_front front read ≡ Err refused → read ≡ Err refused
with_front-Err front (Ok more) refused is = absurd cc
with_front-Err front (Err other) refused is = cc

-- no frames before others, and none counted
none_counted : (number frames : ℕ) (rest : List (List ℕ)) →
    with_front [] (frames_from number (frames + 0) rest) ≡ frames_from number frames rest
none_counted number frames rest =
    let same : frames + 0 ≡ frames = omega arith in
    rw same (with_front-none (frames_from number frames rest))

-- what was read is what the lines say, and no more than a movie has
record Read (parts : List (List ℕ)) (frames : ℕ) (pads : List ℕ) : Type 0 where
  said : Says parts pads
  most : frames + length pads ≤ 1048576

-- a line before lines of which this is known
says_by_case : (line : List ℕ) (rest : List (List ℕ)) (number frames : ℕ) (pads : List ℕ) → frames ≤ 1048576 →
    LineCase number frames line → and_then (line_frames number frames line)
    (λ more. frames_from (number + 1) (frames + length more) rest) ≡ Ok pads →
    ((number frames : ℕ) (pads : List ℕ) → frames ≤ 1048576 → frames_from number frames rest ≡ Ok pads →
    Read rest frames pads) →
    Read (line ∷ rest) frames pads
says_by_case line rest number frames pads most (skipped skips is) read further =
    let none : frames_from (number + 1) frames rest ≡ Ok pads =
    sym (none_counted (number + 1) frames rest) ∙ (rw is at read) in
    let after = further (number + 1) frames pads most none in
    record { said = skip line rest pads skips after.said; most = after.most }
says_by_case line rest number frames pads most (pressed pad frame room is) read further =
    let fronted = with_front-Ok (pad ∷ []) _ pads (rw is at read) in
    let after = further (number + 1) (frames + 1) fronted.more (omega arith) fronted.read_is in
    subst (Read (line ∷ rest) frames) fronted.joined
    (record { said = press line rest pad fronted.more frame after.said; most = omega (arith, after.most) })
says_by_case line rest number frames pads most (too_many pad frame full shown is) read further =
    absurd (let other = rw is at read in cc)
says_by_case line rest number frames pads most (no_frame none shown is) read further =
    absurd (let other = rw is at read in cc)

-- what was read of lines is what they say
says_from : PadLaws → (parts : List (List ℕ)) (number frames : ℕ) (pads : List ℕ) → frames ≤ 1048576 →
    frames_from number frames parts ≡ Ok pads → Read parts frames pads
says_from laws [] number frames pads most read =
    subst (Read [] frames) (let same : [] ≡ pads = cc in same) (record { said = nothing; most = omega arith })
says_from laws (line ∷ rest) number frames pads most read =
    says_by_case line rest number frames pads most (line_case laws number frames line) read (says_from laws rest)

-- a skipped line has no frame
line_frames-skipped : (number frames : ℕ) (line : List ℕ) → is_skipped (content line) ≡ true
    → line_frames number frames line ≡ Ok []
unfolding line_frames
line_frames-skipped number frames line skips = rw skips

-- a frame's line has its pad, where there is room
line_frames-frame : PadLaws → (number frames : ℕ) (line : List ℕ) (pad : ℕ) → IsFrame line pad → frames < 1048576 →
    line_frames number frames line ≡ Ok (pad ∷ [])
unfolding line_frames
line_frames-frame laws number frames line pad frame room =
    rw (frame.1, pad_of_line-pad_line laws pad frame.0, lt-ltb frames 1048576 room)

-- what lines say is what is read of them
pub frames_from-says : PadLaws → (parts : List (List ℕ)) (pads : List ℕ) → Says parts pads → (number frames : ℕ) →
    frames + length pads ≤ 1048576 → frames_from number frames parts ≡ Ok pads
frames_from-says laws _ _ nothing number frames most = refl
frames_from-says laws _ _ (skip line rest pads skips said) number frames most =
    rw (line_frames-skipped number frames line skips, none_counted (number + 1) frames rest)
    (frames_from-says laws rest pads said (number + 1) frames most)
frames_from-says laws _ _ (press line rest pad pads frame said) number frames most =
    rw (
      line_frames-frame laws number frames line pad frame (omega arith),
      frames_from-says laws rest pads said (number + 1) (frames + 1) (omega arith),
    )

-- the lines before one say these pads, where so many lines and frames stand before them all
record StopsFrom (parts : List (List ℕ)) (start frames number : ℕ) (pads line : List ℕ) : Type 0 where
  before : List (List ℕ)
  behind : List (List ℕ)
  whole : parts ≡ before ++ line ∷ behind
  counted : number ≡ start + length before
  said : Says before pads
  most : frames + length pads ≤ 1048576
  shown : is_skipped (content line) ≡ false

-- the first refusal, where so many lines and frames stand before
abbrev RefusedFrom : List (List ℕ) → ℕ → ℕ → MovieRefused → Type 0
RefusedFrom parts start frames (Line number) =
    (pads : List ℕ) × (line : List ℕ) × StopsFrom parts start frames number pads line
    × ((pad : ℕ) → IsFrame line pad → ⊥)
RefusedFrom parts start frames (TooManyFrames number) =
    (pads : List ℕ) × (line : List ℕ) × StopsFrom parts start frames number pads line × (frames + length pads ≡ 1048576)
    × (pad : ℕ) × IsFrame line pad
RefusedFrom parts start frames NoMemory = ⊥

-- one more line before
stops_after_skipped : (first : List ℕ) (rest : List (List ℕ)) (start frames number : ℕ) (pads line : List ℕ) →
    is_skipped (content first) ≡ true → StopsFrom rest (start + 1) frames number pads line →
    StopsFrom (first ∷ rest) start frames number pads line
stops_after_skipped first rest start frames number pads line skips stops = record {
  before = first ∷ stops.before;
  behind = stops.behind;
  whole = ap (λ parts. first ∷ parts) stops.whole;
  counted = omega (arith, stops.counted);
  said = skip first stops.before pads skips stops.said;
  most = stops.most;
  shown = stops.shown;
}

stops_after_frame : (first : List ℕ) (rest : List (List ℕ)) (start frames number pad : ℕ) (pads line : List ℕ) →
    IsFrame first pad → StopsFrom rest (start + 1) (frames + 1) number pads line →
    StopsFrom (first ∷ rest) start frames number (pad ∷ pads) line
stops_after_frame first rest start frames number pad pads line frame stops = record {
  before = first ∷ stops.before;
  behind = stops.behind;
  whole = ap (λ parts. first ∷ parts) stops.whole;
  counted = omega (arith, stops.counted);
  said = press first stops.before pad pads frame stops.said;
  most = omega (arith, stops.most);
  shown = stops.shown;
}

-- the line that is refused itself
stops_here : (line : List ℕ) (rest : List (List ℕ)) (start frames : ℕ) → frames ≤ 1048576 →
    is_skipped (content line) ≡ false → StopsFrom (line ∷ rest) start frames start [] line
stops_here line rest start frames most shown = record {
  before = [];
  behind = rest;
  whole = refl;
  counted = omega arith;
  said = nothing;
  most = omega arith;
  shown = shown;
}

refused_after_skipped : (first : List ℕ) (rest : List (List ℕ)) (start frames : ℕ) (refused : MovieRefused) →
    is_skipped (content first) ≡ true → RefusedFrom rest (start + 1) frames refused
    → RefusedFrom (first ∷ rest) start frames refused
refused_after_skipped first rest start frames (Line number) skips from =
    (from.0, from.1, stops_after_skipped first rest start frames number from.0 from.1 skips from.2, from.3)
refused_after_skipped first rest start frames (TooManyFrames number) skips from = (
  from.0,
  from.1,
  stops_after_skipped first rest start frames number from.0 from.1 skips from.2,
  from.3,
  from.4,
  from.5,
)
refused_after_skipped first rest start frames NoMemory skips from = from

refused_after_frame : (first : List ℕ) (rest : List (List ℕ)) (start frames pad : ℕ) (refused : MovieRefused) →
    IsFrame first pad → RefusedFrom rest (start + 1) (frames + 1) refused
    → RefusedFrom (first ∷ rest) start frames refused
refused_after_frame first rest start frames pad (Line number) frame from =
    (pad ∷ from.0, from.1, stops_after_frame first rest start frames number pad from.0 from.1 frame from.2, from.3)
refused_after_frame first rest start frames pad (TooManyFrames number) frame from = (
  pad ∷ from.0,
  from.1,
  stops_after_frame first rest start frames number pad from.0 from.1 frame from.2,
  omega (arith, from.3),
  from.4,
  from.5,
)
refused_after_frame first rest start frames pad NoMemory frame from = from

-- a line before lines of which this is known
refused_by_case : (line : List ℕ) (rest : List (List ℕ)) (start frames : ℕ) (refused : MovieRefused) →
    frames ≤ 1048576 →
    LineCase start frames line →
    and_then (line_frames start frames line) (λ more. frames_from (start + 1) (frames + length more) rest)
    ≡ Err refused →
    ((start frames : ℕ) → frames ≤ 1048576 → frames_from start frames rest ≡ Err refused →
    RefusedFrom rest start frames refused) →
    RefusedFrom (line ∷ rest) start frames refused
refused_by_case line rest start frames refused most (skipped skips is) read further =
    refused_after_skipped line rest start frames refused skips
    (further (start + 1) frames most (sym (none_counted (start + 1) frames rest) ∙ (rw is at read)))
refused_by_case line rest start frames refused most (pressed pad frame room is) read further =
    refused_after_frame line rest start frames pad refused frame
    (further (start + 1) (frames + 1) (omega arith) (with_front-Err (pad ∷ []) _ refused (rw is at read)))
refused_by_case line rest start frames refused most (too_many pad frame full shown is) read further =
    let same : TooManyFrames start ≡ refused = let other = rw is at read in cc in
    subst (RefusedFrom (line ∷ rest) start frames) same
    ([], line, stops_here line rest start frames most shown, omega arith, pad, frame)
refused_by_case line rest start frames refused most (no_frame none shown is) read further =
    let same : Line start ≡ refused = let other = rw is at read in cc in
    subst (RefusedFrom (line ∷ rest) start frames) same ([], line, stops_here line rest start frames most shown, none)

-- what was refused of lines is the first that is to be refused
refused_from : PadLaws → (parts : List (List ℕ)) (start frames : ℕ) (refused : MovieRefused) → frames ≤ 1048576 →
    frames_from start frames parts ≡ Err refused → RefusedFrom parts start frames refused
refused_from laws [] start frames refused most read = absurd cc
refused_from laws (line ∷ rest) start frames refused most read =
    refused_by_case line rest start frames refused most (line_case laws start frames line) read
    (λ start frames. refused_from laws rest start frames refused)

-- with nothing before
stops_at : (parts : List (List ℕ)) (number : ℕ) (pads line : List ℕ) → StopsFrom parts 1 0 number pads line
    → StopsAt parts number pads line
stops_at parts number pads line stops = record {
  before = stops.before;
  behind = stops.behind;
  whole = stops.whole;
  counted = omega (arith, stops.counted);
  said = stops.said;
  most = omega (arith, stops.most);
  shown = stops.shown;
}

refused_at : (parts : List (List ℕ)) (refused : MovieRefused) → RefusedFrom parts 1 0 refused
    → IsFirstRefusal parts refused
refused_at parts (Line number) from = (from.0, from.1, stops_at parts number from.0 from.1 from.2, from.3)
refused_at parts (TooManyFrames number) from =
    (from.0, from.1, stops_at parts number from.0 from.1 from.2, omega (arith, from.3), from.4, from.5)
refused_at parts NoMemory from = from

-- the reading of a text is what its lines say
pub movie_of-says : PadLaws → (bytes pads : List ℕ) → movie_of bytes ≡ Ok pads
    → Says (lines bytes) pads × (length pads ≤ 1048576)
unfolding movie_of
movie_of-says laws bytes pads read =
    let from = says_from laws (lines bytes) 1 0 pads (omega arith) read in
    (from.said, omega (arith, from.most))

-- what the lines of a text say is read
pub says-movie_of : PadLaws → (bytes pads : List ℕ) → Says (lines bytes) pads → length pads ≤ 1048576
    → movie_of bytes ≡ Ok pads
unfolding movie_of
says-movie_of laws bytes pads said most = frames_from-says laws (lines bytes) pads said 1 0 (omega arith)

-- what is refused of a text is its first refusal
pub movie_of-refused : PadLaws → (bytes : List ℕ) (refused : MovieRefused) → movie_of bytes ≡ Err refused
    → IsFirstRefusal (lines bytes) refused
unfolding movie_of
movie_of-refused laws bytes refused read =
    refused_at (lines bytes) refused (refused_from laws (lines bytes) 1 0 refused (omega arith) read)
