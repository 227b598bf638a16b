-- A movie read as a word. All of it is this project's own.
use Rattle.std.specs.Prelude.{◌≡◌, ◌≢◌, ◌==◌, ◌+◌, ◌-◌, ◌<◌, ℕ, zero, suc, List, [], ◌∷◌, ◌++◌, length, take, drop, replicate, slice_get, Option, Some, None, option_map, Result, Ok, Err, if◌then◌else◌}
use Rattle.nj_game.specs.Plan.{held_pads}
use Rattle.nj_search_defs.specs.Game.{Word}
use Rattle.nj_replay.specs.declared.ReplayRefused.{ReplayRefused}
use Rattle.nj_replay.specs.declared.ReplayRefused.TheVariants.{NotStart, NotHeld, NoMemory}

-- a frame that is so many frames further
abbrev pub moved : ℕ → Option ℕ → Option ℕ
moved n frame = option_map (λ k. n + k) frame

-- the first frame where a movie leaves the other, from 0: where it differs from it or ends before it
abbrev pub first_left : List ℕ → List ℕ → Option ℕ
first_left [] movie = None
first_left (pad ∷ whole) [] = Some 0
first_left (pad ∷ whole) (shown ∷ movie) = if shown == pad then moved 1 (first_left whole movie) else Some 0

-- the first pad of each step of so many frames, where so many frames are left of a step that has begun
abbrev pub first_from : ℕ → ℕ → List ℕ → Word
first_from hold left [] = []
first_from hold zero (pad ∷ pads) = pad ∷ first_from hold (hold - 1) pads
first_from hold (suc left) (pad ∷ pads) = first_from hold left pads

-- the first pad of each step, that of a short last step too
abbrev pub first_pads : ℕ → List ℕ → Word
first_pads hold pads = first_from hold 0 pads

-- the refusal of a frame, if there is one
abbrev pub refused_or : Option ℕ → (ℕ → ReplayRefused) → Result Word ReplayRefused → Result Word ReplayRefused
refused_or (Some frame) refused read = Err (refused frame)
refused_or None refused read = read

-- the word that a movie plays behind the start, or the first frame where it leaves the start or does not hold a step's
-- pad
unfoldable pub word_of : ℕ → List ℕ → List ℕ → Result Word ReplayRefused
word_of hold start movie =
    let word = first_pads hold (drop (length start) movie) in
    refused_or (first_left start movie) NotStart
    (refused_or (first_left (start ++ held_pads hold word) movie) NotHeld (Ok word))

-- ---- refusals, in their own words

-- the movie is the start up to this frame of it, where it differs or has no frame
pub record LeavesStart (start movie : List ℕ) (frame : ℕ) : Type 0 where
  pub within : frame < length start
  pub before : take frame movie ≡ take frame start
  pub differs : slice_get movie frame ≢ slice_get start frame

-- the movie is the start, whole steps, and one frame or more, but not all, of another step, up to this frame, where it
-- has another pad than that step's or no frame
pub record LeavesStep (hold : ℕ) (start movie : List ℕ) (frame : ℕ) : Type 0 where
  pub steps : Word
  pub pad : ℕ
  pub place : ℕ
  pub begun : 0 < place
  pub short : place < hold
  pub counted : frame ≡ length (start ++ held_pads hold steps) + place
  pub before : take frame movie ≡ start ++ held_pads hold steps ++ replicate place pad
  pub differs : slice_get movie frame ≢ Some pad

-- the refusal is that of the movie's first frame that no word has there
abbrev pub IsFirstRefusal : ℕ → List ℕ → List ℕ → ReplayRefused → Type 0
IsFirstRefusal hold start movie (NotStart frame) = LeavesStart start movie frame
IsFirstRefusal hold start movie (NotHeld frame) = LeavesStep hold start movie frame
IsFirstRefusal hold start movie NoMemory = ⊥
