-- What a search is planned on, what a word of a front costs, and which plans are refused. It is this project's own.
use Rattle.std.specs.Prelude.{ℕ, ◌≤◌, ◌+◌, ◌*◌, ◌/◌, ◌^◌, min, nat_lt, Bool, if◌then◌else◌, List, [], ◌∷◌, length, Option, Some, None}
use Rattle.nj_ines.specs.Cartridge.{Cartridge}
use Rattle.nj_rules.specs.Pads.{named_pads}
use Rattle.nj_search_defs.specs.Game.{Bounds}
use Rattle.nj_game.specs.Plan.{Plan}
use Rattle.nj_saved.specs.declared.saved.Saved.{Saved}
use Rattle.nj_saved.specs.Ranges.{words_of}
use Rattle.nj_plan.specs.declared.planning.Limits.{Limits}
use Rattle.nj_plan.specs.declared.planning.PlanRefused.{PlanRefused}
use Rattle.nj_plan.specs.declared.planning.PlanRefused.TheVariants.{BudgetTooSmall, SeenTooSmall, TrailTooLong, MovieTooLong, FrontTooLong}

-- what is searched, within which limits, and the saved search that it goes on from, if there is one
pub record Planned : Type 0 where
  pub plan : Plan
  pub limits : Limits
  pub saved : Option Saved

-- the limits are in the ranges of their options
pub record AreInRange (limits : Limits) : Type 0 where
  pub some_budget : 1 ≤ limits.budget
  pub most_budget : limits.budget ≤ 2147483648
  pub some_steps : 1 ≤ limits.steps
  pub most_steps : limits.steps ≤ 16777215
  pub least_exponent : 10 ≤ limits.exponent
  pub most_exponent : limits.exponent ≤ 25

-- the pages of 64 bytes of a machine's image, which has 8 KiB more where the pattern memory is RAM
abbrev pub pages_of : Cartridge → ℕ
pages_of cartridge = if cartridge.chr_ram then 198 else 70

-- the bytes of the budget that a word of a front takes: its image and 16 bytes, in the old front and in the new one
unfoldable pub cost_of : Cartridge → ℕ
cost_of cartridge = 2 * (16 + 64 * pages_of cartridge)

-- the most words of a front: as many as the budget pays for, and never more than 2^20
unfoldable pub most_of : Limits → Cartridge → ℕ
most_of limits cartridge = min (limits.budget / cost_of cartridge) (2 ^ 20)

-- how many different pads a plan's script names
abbrev pub inputs_of : Plan → ℕ
inputs_of plan = length (named_pads plan.script.inputs.sets)

-- the most candidates of a step
abbrev pub need_of : Plan → Limits → ℕ
need_of plan limits = most_of limits plan.cartridge * inputs_of plan

-- the slots of the seen keys
abbrev pub slots_of : Limits → ℕ
slots_of limits = 2 ^ limits.exponent

-- the steps that were made before: those of the saved search
abbrev pub steps_before : Option Saved → ℕ
steps_before None = 0
steps_before (Some saved) = saved.step

-- the words of the saved front
abbrev pub words_before : Option Saved → ℕ
words_before None = 0
words_before (Some saved) = words_of saved

-- all steps of a search: those of its limit come behind those that were made before
abbrev pub total_steps : Limits → Option Saved → ℕ
total_steps limits saved = limits.steps + steps_before saved

-- the most words that all fronts of a search have together
abbrev pub rows_of : Plan → Limits → Option Saved → ℕ
rows_of plan limits saved = most_of limits plan.cartridge * total_steps limits saved

-- the frames of the longest movie of a search
abbrev pub frames_of : Plan → Limits → Option Saved → ℕ
frames_of plan limits saved = length plan.start + plan.script.hold * total_steps limits saved

-- each refusal with its condition, in the order in which they are told
unfoldable pub refusals : Plan → Limits → Option Saved → List (Bool × PlanRefused)
refusals plan limits saved =
    (nat_lt limits.budget (cost_of plan.cartridge), BudgetTooSmall limits.budget (cost_of plan.cartridge))
    ∷ (nat_lt (slots_of limits) (need_of plan limits), SeenTooSmall (need_of plan limits) (slots_of limits))
    ∷ (nat_lt (2 ^ 26) (rows_of plan limits saved), TrailTooLong (rows_of plan limits saved) (2 ^ 26))
    ∷ (nat_lt (2 ^ 20) (frames_of plan limits saved), MovieTooLong (frames_of plan limits saved) (2 ^ 20))
    ∷ (
      nat_lt (most_of limits plan.cartridge) (words_before saved),
      FrontTooLong (words_before saved) (most_of limits plan.cartridge),
    )
    ∷ []

-- the first whose condition holds
abbrev pub first_refusal : List (Bool × PlanRefused) → Option PlanRefused
first_refusal [] = None
first_refusal (refusal ∷ refusals) = if refusal.0 then Some refusal.1 else first_refusal refusals

-- the first refusal of a plan, if there is one
unfoldable pub refusal_of : Plan → Limits → Option Saved → Option PlanRefused
refusal_of plan limits saved = first_refusal (refusals plan limits saved)

-- the bounds of a planned search
unfoldable pub bounds_in : Planned → Bounds
bounds_in planned = record {
  most = most_of planned.limits planned.plan.cartridge;
  quota = planned.plan.script.quota;
  slots = slots_of planned.limits;
  inputs = inputs_of planned.plan;
  tolerance = planned.plan.script.tolerance;
}
