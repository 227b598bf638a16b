-- A longer search begins as the shorter one.
use Rattle.std.proofs.Common.{◌≡◌, ℕ, ◌+◌, refl}
use Rattle.std.specs.Prelude.{Option, Some, None}
use Rattle.nj_saved.specs.declared.saved.Saved.{Saved}
use Rattle.nj_search_defs.specs.Game.{Verdict, Go, Win, Fail}
use Rattle.nj_search_defs.specs.Outcome.{State, Outcome, searched, opening, judged_first, outcome}
use Rattle.nj_search_defs.specs.Laws.{gone_on, LimitsAdd}
use Rattle.nj_game.specs.Words.{game_of}
use Rattle.nj_expand.specs.Saving.{state_from}
use Rattle.nj_plan.specs.Plans.{Planned, most_of, bounds_in}
use Rattle.nj_plan.specs.Outcomes.{outcome_from, outcome_of}
use Rattle.nj_plan.specs.Laws.{with_steps, LongerSearchesBeginAlike}

first_gone_on : (verdict : Verdict) (whole begun : Outcome) (rest : State → Outcome) → whole ≡ gone_on begun rest
    → judged_first verdict whole ≡ gone_on (judged_first verdict begun) rest
first_gone_on Go whole begun rest same = same
first_gone_on Win whole begun rest same = refl
first_gone_on Fail whole begun rest same = refl

longer_from : LimitsAdd → (planned : Planned) (saved : Option Saved) (a b : ℕ)
    → outcome_from (with_steps planned (a + b)) saved
    ≡ gone_on (outcome_from (with_steps planned a) saved) (searched (game_of planned.plan) (bounds_in planned) b)
unfolding outcome bounds_in most_of
longer_from add planned None a b =
    first_gone_on _ _ _ _ (add (game_of planned.plan) (bounds_in planned) a b (opening (game_of planned.plan)))
longer_from add planned (Some saved) a b =
    add (game_of planned.plan) (bounds_in planned) a b (state_from (bounds_in planned) saved)

pub longer : LimitsAdd → LongerSearchesBeginAlike
unfolding outcome_of
longer add planned a b = longer_from add planned planned.saved a b
