-- How a planned search ends, what is saved of it, and how many frames it may run. All of it is this project's own.
use Rattle.std.specs.Prelude.{ℕ, ℤ, ◌+◌, ◌*◌, Bool, if◌then◌else◌, length, Option, Some, None}
use Rattle.nj_search_defs.specs.Game.{Word}
use Rattle.nj_search_defs.specs.Outcome.{LimitAt, searched, outcome, Outcome as SearchOutcome}
use Rattle.nj_game.specs.Plan.{Plan}
use Rattle.nj_game.specs.Words.{judged_of, game_of}
use Rattle.nj_saved.specs.declared.saved.Saved.{Saved}
use Rattle.nj_saved.specs.Ranges.{words_of}
use Rattle.nj_expand.specs.Held.{Held, opened}
use Rattle.nj_expand.specs.Saving.{saved_of, state_from, resumed}
use Rattle.nj_plan.specs.Plans.{Planned, bounds_in, most_of, inputs_of}

-- the outcome of a planned search: of the steps of its limit from its start, or from the state of its saved search
abbrev pub outcome_from : Planned → Option Saved → SearchOutcome
outcome_from planned None = outcome (game_of planned.plan) (bounds_in planned) planned.limits.steps
outcome_from planned (Some saved) =
    searched (game_of planned.plan) (bounds_in planned) planned.limits.steps (state_from (bounds_in planned) saved)

-- the outcome of a planned search, by the definition over words
unfoldable pub outcome_of : Planned → SearchOutcome
outcome_of planned = outcome_from planned planned.saved

-- the reward of a word
abbrev pub reward_in : Plan → Word → ℤ
reward_in plan word = let judged = judged_of plan word in judged.reward

-- what is saved of an outcome, where it is to be kept: the state at the limit, and of any other end nothing
abbrev pub saved_in : Bool → SearchOutcome → Option Saved
saved_in keep (LimitAt state) = if keep then Some (saved_of state) else None
saved_in keep ended = None

-- the search before its next step: its first one, or that behind the steps of its saved search
abbrev pub held_from : Planned → Option Saved → Held
held_from planned None = opened planned.plan (bounds_in planned)
held_from planned (Some saved) = resumed planned.plan (bounds_in planned) saved

-- the planned search before its next step
unfoldable pub held_in : Planned → Held
held_in planned = held_from planned planned.saved

-- the steps that are run again of a saved search: those of each of its words
abbrev pub steps_again : Option Saved → ℕ
steps_again None = 0
steps_again (Some saved) = saved.step * words_of saved

-- the frames that a search runs before its first step: the start's, and those of the saved words
abbrev pub frames_before : Planned → ℕ
frames_before planned = length planned.plan.start + planned.plan.script.hold * steps_again planned.saved

-- the most frames that a search runs: those before its first step, and in each step those of all candidates of a full
-- front, and of the words that are kept
unfoldable pub frames_most : Planned → ℕ
frames_most planned =
    frames_before planned
    + planned.plan.script.hold
    * (most_of planned.limits planned.plan.cartridge * (inputs_of planned.plan + 1))
    * planned.limits.steps
