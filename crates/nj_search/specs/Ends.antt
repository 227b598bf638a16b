-- What is told of the end of a planned search. All of it is this project's own.
use Rattle.std.specs.Prelude.{Bool, List, [], ◌∷◌}
use Rattle.nj_search_defs.specs.Game.{Word}
use Rattle.nj_search_defs.specs.Outcome.{WonAt, ExhaustedAt, LimitAt, Outcome as SearchOutcome}
use Rattle.nj_game.specs.Plan.{Plan, movie_of}
use Rattle.nj_plan.specs.Plans.{Planned}
use Rattle.nj_plan.specs.Outcomes.{outcome_of, reward_in, saved_in}
use Rattle.nj_search.specs.declared.searching.Outcome.{Outcome}
use Rattle.nj_search.specs.declared.searching.Outcome.TheVariants.{Won, Exhausted, Limit}
use Rattle.nj_search.specs.declared.searching.Ended.{Ended}

-- the first word of a front
abbrev pub first_word : List Word → Word
first_word [] = []
first_word (word ∷ words) = word

-- what is told of an outcome: the step, and the reward and movie of its word, which at the limit is the front's first
unfoldable pub told_of : Plan → SearchOutcome → Outcome
told_of plan (WonAt step word) = Won step (reward_in plan word) (movie_of plan word)
told_of plan (ExhaustedAt step) = Exhausted step
told_of plan (LimitAt state) =
    Limit state.step (reward_in plan (first_word state.front)) (movie_of plan (first_word state.front))

-- what a search answers that ends so
unfoldable pub answer_of : Plan → Bool → SearchOutcome → Ended
answer_of plan keep ended = record { outcome = told_of plan ended; saved = saved_in keep ended }

-- what a planned search answers
unfoldable pub ended_of : Planned → Bool → Ended
ended_of planned keep = answer_of planned.plan keep (outcome_of planned)
