-- Laws of the outcome of a planned search. All of it is this project's own.
use Rattle.std.specs.Prelude.{◌≡◌, ◌≤◌, ◌<◌, ◌^◌, ℕ, ◌+◌, length, Some, None, IfSome, Ok}
use Rattle.nj_search_defs.specs.Game.{Word}
use Rattle.nj_search_defs.specs.Outcome.{State, WonAt, LimitAt, searched}
use Rattle.nj_search_defs.specs.Laws.{gone_on}
use Rattle.nj_script.specs.Script.{IsInRange as IsScriptInRange}
use Rattle.nj_game.specs.Plan.{movie_of}
use Rattle.nj_game.specs.Words.{game_of}
use Rattle.nj_rules.specs.declared.record.Verdict.TheVariants.{Win}
use Rattle.nj_replay.specs.Reading.{word_of}
use Rattle.nj_replay.specs.Replay.{replay_of}
use Rattle.nj_saved.specs.declared.saved.Saved.{Saved}
use Rattle.nj_saved.specs.Bytes.{file_bytes}
use Rattle.nj_saved.specs.Ranges.{IsInRange, Fits}
use Rattle.nj_saved.specs.Reading.{saved_of as read_of}
use Rattle.nj_expand.specs.Saving.{saved_of, state_in}
use Rattle.nj_plan.specs.Plans.{Planned, AreInRange, inputs_of, refusal_of, bounds_in}
use Rattle.nj_plan.specs.Outcomes.{outcome_of, reward_in}

-- a plan that may be made: its limits, its script and its saved search are in their ranges, its script names at most
-- all 256 pads, and nothing of it is refused
pub record IsPlan (planned : Planned) : Type 0 where
  pub limits : AreInRange planned.limits
  pub script : IsScriptInRange planned.plan.script
  pub pads : inputs_of planned.plan ≤ 256
  pub saved : IfSome planned.saved IsInRange
  pub fits : IfSome planned.saved Fits
  pub accepted : refusal_of planned.plan planned.limits planned.saved ≡ None

-- the movie of a word that won is read as the word, and replays to the step, its frames, the word's reward and Win
pub record Replays (planned : Planned) (step : ℕ) (word : Word) : Type 0 where
  pub long : length word ≡ step
  pub short_enough : length (movie_of planned.plan word) ≤ 2 ^ 20
  pub read : word_of planned.plan.script.hold planned.plan.start (movie_of planned.plan word) ≡ Ok word
  pub replayed : replay_of planned.plan (movie_of planned.plan word) ≡ Ok (record {
    step = step;
    frames = length (movie_of planned.plan word);
    reward = reward_in planned.plan word;
    verdict = Win;
  })

-- so does that of each search that is not refused and is won, from its start or from a saved search
abbrev pub AWonWordReplays : Type 0
AWonWordReplays = (planned : Planned) (step : ℕ) (word : Word)
    → 1 ≤ planned.plan.script.hold → IfSome planned.saved IsInRange
    → refusal_of planned.plan planned.limits planned.saved ≡ None
    → outcome_of planned ≡ WonAt step word → Replays planned step word

-- a plan with another limit of steps
abbrev pub with_steps : Planned → ℕ → Planned
with_steps planned steps = record planned { limits = record planned.limits { steps = steps } }

-- a search of a + b steps is one of a steps that goes on for b more where it came to its limit
abbrev pub LongerSearchesBeginAlike : Type 0
LongerSearchesBeginAlike = (planned : Planned) (a b : ℕ)
    → outcome_of (with_steps planned (a + b))
    ≡ gone_on (outcome_of (with_steps planned a)) (searched (game_of planned.plan) (bounds_in planned) b)

-- ---- a search that was stopped goes on

-- what is saved of a state, with the numbers of the two files
abbrev pub saved_with : ℕ → ℕ → State → Saved
saved_with cart script state = record (saved_of state) { cart = cart; script = script }

-- the plan that goes on from a saved search, for so many steps
abbrev pub going_on : Planned → Saved → ℕ → Planned
going_on planned saved steps = record (with_steps planned steps) { saved = Some saved }

-- the file of what was saved of a state is read as that, which says the state; the plan of it with b steps is refused
-- nothing, and its outcome is that of the unbroken search, whose limit is `all` steps
pub record GoesOnUnbroken (planned : Planned) (all b cart script : ℕ) (state : State) : Type 0 where
  pub read : read_of (file_bytes 2 (saved_with cart script state)) cart script ≡ Ok (saved_with cart script state)
  pub same : state_in (saved_with cart script state) ≡ state
  pub may_go_on : IsPlan (going_on planned (saved_with cart script state) b)
  pub unbroken : outcome_of (going_on planned (saved_with cart script state) b) ≡ outcome_of (with_steps planned all)

-- a planned search of a + b steps, from its start or from a saved search, that is stopped after a steps and then goes
-- on for b is the unbroken one
abbrev pub ResumedIsUnbroken : Type 0
ResumedIsUnbroken = (planned : Planned) (a b cart script : ℕ) (state : State)
    → 1 ≤ a → 1 ≤ b → cart < 2 ^ 64 → script < 2 ^ 64
    → IsPlan (with_steps planned (a + b))
    → outcome_of (with_steps planned a) ≡ LimitAt state
    → GoesOnUnbroken planned (a + b) b cart script state
