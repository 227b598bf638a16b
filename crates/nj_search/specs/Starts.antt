-- How a search is begun, and what a step ends it with. All of it is this project's own.
use Rattle.std.specs.Prelude.{◌≡◌, ℕ, ◌+◌, Bool, false, Option, Some, None}
use Rattle.nj_expand.specs.declared.Stepped.{Stepped}
use Rattle.nj_expand.specs.declared.Stepped.TheVariants.{Won, Exhausted, Go}
use Rattle.nj_expand.specs.Held.{Held}
use Rattle.nj_expand.specs.Step.{IsStep}
use Rattle.nj_plan.specs.Plans.{Planned, bounds_in, steps_before}
use Rattle.nj_plan.specs.Outcomes.{outcome_of}
use Rattle.nj_search.specs.Ends.{answer_of, ended_of}
use Rattle.nj_search.specs.Rests.{rest_of}
use Rattle.nj_search.specs.declared.searching.Outcome.{Outcome}
use Rattle.nj_search.specs.declared.searching.Outcome.TheVariants.{Exhausted as ToldExhausted}
use Rattle.nj_search.specs.declared.searching.Ended.{Ended}
use Rattle.nj_search.specs.declared.searching.Begun.{Begun}
use Rattle.nj_search.specs.declared.searching.Begun.TheVariants.{Over, Going}

-- a planned search that goes on: what is left of it is its outcome
pub record IsGoing (planned : Planned) (held : Held) : Type 0 where
  pub plan : held.plan ≡ planned.plan
  pub bounds : held.bounds ≡ bounds_in planned
  pub unspent : held.spent ≡ false
  pub step : held.state.step ≡ steps_before planned.saved
  pub whole : outcome_of planned ≡ rest_of held planned.limits.steps

-- an outcome of which nothing is saved
abbrev pub unsaved : Outcome → Ended
unsaved outcome = record { outcome = outcome; saved = None }

-- a planned search that was begun: over with its outcome, or going on
abbrev pub IsBegun : Planned → Begun → Type 0
IsBegun planned (Over outcome) = (keep : Bool) → ended_of planned keep ≡ unsaved outcome
IsBegun planned (Going held) = IsGoing planned held

-- the row of a step that was won is that of the search's winner
abbrev pub CanEnd : Stepped → Held → Type 0
CanEnd (Won row) held = IsStep held (Won row) held
CanEnd Exhausted held = Unit {0}
CanEnd Go held = Unit {0}

-- the next step ends the search with this outcome, however many steps may follow, and nothing is saved
abbrev pub EndsIn : Held → Outcome → Type 0
EndsIn held outcome = (steps : ℕ) (keep : Bool) → answer_of held.plan keep (rest_of held (steps + 1)) ≡ unsaved outcome

-- what is told of a step: the outcome of a step that was won, that nothing was kept, or nothing
abbrev pub IsEnded : Stepped → Held → Option Outcome → Type 0
IsEnded (Won row) held (Some outcome) = EndsIn held outcome
IsEnded (Won row) held None = ⊥
IsEnded Exhausted held told = told ≡ Some (ToldExhausted (held.state.step + 1))
IsEnded Go held told = told ≡ None
