-- What a replay tells. All of it is this project's own.
use Rattle.std.specs.Prelude.{◌≡◌, ℕ, List, length, Result, Ok, Err}
use Rattle.nj_search_defs.specs.Game.{Word}
use Rattle.nj_machine.specs.State.{State}
use Rattle.nj_rules.specs.declared.record.Judged.{Judged}
use Rattle.nj_game.specs.Plan.{Plan, movie_of}
use Rattle.nj_game.specs.Words.{state_of, judged_of}
use Rattle.nj_replay.specs.declared.ReplayRefused.{ReplayRefused}
use Rattle.nj_replay.specs.declared.Replayed.{Replayed}
use Rattle.nj_replay.specs.Reading.{word_of}

-- what a replay tells of a word: its steps, its frames, and how the rules judge it
unfoldable pub replayed_of : Plan → Word → Replayed
replayed_of plan word = record {
  step = length word;
  frames = length (movie_of plan word);
  reward = (let j = judged_of plan word in j.reward);
  verdict = (let j = judged_of plan word in j.verdict);
}

-- what a replay tells of a reading: of the word, or the refusal
abbrev pub told_of : Plan → Result Word ReplayRefused → Result Replayed ReplayRefused
told_of plan (Ok word) = Ok (replayed_of plan word)
told_of plan (Err refused) = Err refused

-- what a replay tells of a movie: of its word, or its first refusal
unfoldable pub replay_of : Plan → List ℕ → Result Replayed ReplayRefused
replay_of plan movie = told_of plan (word_of plan.script.hold plan.start movie)

-- the machine's state and the judgement are those after the word
pub record IsAfter (plan : Plan) (word : Word) (machine : State) (judged : Judged) : Type 0 where
  pub state : machine ≡ state_of plan word
  pub judged_is : judged ≡ judged_of plan word
