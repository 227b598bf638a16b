-- What `clean` answers to a movie, and for how many frames. All of it is our own.
use Rattle.std.specs.Prelude.{ℕ, ◌+◌, ◌-◌, ◌*◌, List, length, Result, Ok, Err, if◌then◌else◌}
use Rattle.nj_search_defs.specs.Game.{Word}
use Rattle.nj_game.specs.Plan.{Plan, movie_of}
use Rattle.nj_replay.specs.Reading.{word_of}
use Rattle.nj_replay.specs.Replay.{replayed_of}
use Rattle.nj_replay.specs.declared.ReplayRefused.{ReplayRefused}
use Rattle.nj_clean.specs.declared.CleanEnd.{CleanEnd}
use Rattle.nj_clean.specs.declared.CleanEnd.TheVariants.{Cleaned, NotWon}
use Rattle.nj_clean.specs.Presses.{presses}
use Rattle.nj_clean.specs.Sweeps.{wins, cleaned}

-- what is told of a cleaned word: its movie, how many presses it has less than the given word, and its replay
abbrev pub told_clean : Plan → Word → Word → CleanEnd
told_clean plan given word =
    Cleaned (movie_of plan word) (length (presses given) - length (presses word)) (replayed_of plan word)

-- what is told of a word: of the cleaned one where it wins, else its replay
unfoldable pub end_of : Plan → Word → CleanEnd
end_of plan word = if wins plan word then told_clean plan word (cleaned plan word) else NotWon (replayed_of plan word)

-- what is told of a reading: of the word, or the refusal
abbrev pub end_told : Plan → Result Word ReplayRefused → Result CleanEnd ReplayRefused
end_told plan (Ok word) = Ok (end_of plan word)
end_told plan (Err refused) = Err refused

-- what is told of a movie: of its word, or its first refusal as a replay
unfoldable pub clean_of : Plan → List ℕ → Result CleanEnd ReplayRefused
clean_of plan movie = end_told plan (word_of plan.script.hold plan.start movie)

-- with p presses there are at most p + 1 sweeps of at most p replays each, and one replay before them, so many frames
-- each
abbrev pub frames_of : ℕ → ℕ → ℕ
frames_of frames p = frames * (1 + p * (p + 1))

-- the most frames that are run for a reading: none for a refusal
abbrev pub frames_told : Plan → Result Word ReplayRefused → ℕ
frames_told plan (Ok word) = frames_of (length (movie_of plan word)) (length (presses word))
frames_told plan (Err refused) = 0

-- the most frames that are run for a movie
unfoldable pub clean_frames : Plan → List ℕ → ℕ
clean_frames plan movie = frames_told plan (word_of plan.script.hold plan.start movie)
