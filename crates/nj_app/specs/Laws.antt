-- The laws of the texts that the program writes. Our own.
use Rattle.std.specs.Prelude.{◌≡◌, ℕ, List, length, None, Ok}
use Rattle.nj_game.specs.Plan.{movie_of as movie_of_word}
use Rattle.nj_movie.specs.Text.{movie_of}
use Rattle.nj_replay.specs.Reading.{word_of}
use Rattle.nj_replay.specs.Replay.{replay_of}
use Rattle.nj_rules.specs.declared.record.Verdict.TheVariants.{Win}
use Rattle.nj_script.specs.Script.{script_of}
use Rattle.nj_search_defs.specs.Game.{Word}
use Rattle.nj_search_defs.specs.Outcome.{WonAt}
use Rattle.nj_plan.specs.Outcomes.{outcome_of, reward_in}
use Rattle.nj_search.specs.Ends.{told_of}
use Rattle.nj_plan.specs.Plans.{Planned, refusal_of}
use Rattle.nj_search.specs.declared.searching.Outcome.{Outcome}
use Rattle.nj_tasks.specs.Formats.{movie_format, reading_of}
use Rattle.nj_app.specs.Outcomes.{outcome_head, outcome_text}
use Rattle.nj_commands.specs.Replay.{replay_finding}
use Rattle.nj_tasks.specs.Work.{Done, done, found_in}

-- what is told of the outcome of a planned search
abbrev pub told : Planned → Outcome
told planned = told_of planned.plan (outcome_of planned)

-- the text of a search that this word won is read, as a movie's file is, as the movie of the word, whose replay has the
-- text's step, frames and reward and the verdict Win, and writes the text's first line with status 0
pub record ReplaysToItsLine (planned : Planned) (step : ℕ) (word : Word) : Type 0 where
  pub read : reading_of movie_format (outcome_text (told planned)) ≡ Ok (movie_of_word planned.plan word)
  pub is_of_word : word_of planned.plan.script.hold planned.plan.start (movie_of_word planned.plan word) ≡ Ok word
  pub replayed : replay_of planned.plan (movie_of_word planned.plan word) ≡ Ok (record {
    step = step;
    frames = length (movie_of_word planned.plan word);
    reward = reward_in planned.plan word;
    verdict = Win;
  })
  pub answered : found_in replay_finding
      ((planned.plan.cartridge, planned.plan.script), (planned.plan.start, movie_of_word planned.plan word))
      ≡ Done (done 0 (outcome_head (told planned)) None (length (movie_of_word planned.plan word)))

-- so does the text of each search from its start that is not refused and is won, its script being what some text says,
-- and its start movie too
abbrev pub WonTextReplays : Type 0
WonTextReplays = (planned : Planned) (step : ℕ) (word : Word) (script start : List ℕ)
    → script_of script ≡ Ok planned.plan.script → movie_of start ≡ Ok planned.plan.start
    → planned.saved ≡ None → refusal_of planned.plan planned.limits planned.saved ≡ None
    → outcome_of planned ≡ WonAt step word → ReplaysToItsLine planned step word
