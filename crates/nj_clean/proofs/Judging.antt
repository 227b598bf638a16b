-- The judgement after one more pad.
use Rattle.std.proofs.Common.{◌≡◌, ℕ, Bool, List, ap, ap₂, sym, ◌∙◌}
use Rattle.nj_search_defs.specs.Game.{Word}
use Rattle.nj_machine.specs.State.{State, ram_of, is_jammed}
use Rattle.nj_rules.specs.declared.record.Rules.{Rules}
use Rattle.nj_rules.specs.declared.record.Judged.{Judged}
use Rattle.nj_rules.specs.Rules.{judged_of as judged_in}
use Rattle.nj_game.specs.Plan.{Plan}
use Rattle.nj_game.specs.Words.{state_of, status_of, judged_of}

-- the status in a word's judgement
status_in : (plan : Plan) (word : Word) (judged : Judged) → judged ≡ judged_of plan word
    → judged.status.0 ≡ status_of plan word
unfolding judged_of
status_in plan word judged e = ap (λ j. j.status.0) e

-- the rules judge the state at the end of a step
pub judged_next : (plan : Plan) (word child : Word) (rules : Rules) (machine : State) (ram : List ℕ) (jammed : Bool)
    (old new : Judged) →
    plan.script.rules ≡ rules → old ≡ judged_of plan word → machine ≡ state_of plan child → ram ≡ ram_of machine →
    jammed ≡ is_jammed machine →
    judged_of plan child ≡ judged_in plan.script.rules.rules (ram_of (state_of plan child)) (status_of plan word)
    (is_jammed (state_of plan child)) →
    new ≡ judged_in rules.rules ram old.status.0 jammed → new ≡ judged_of plan child
judged_next plan word child rules machine ram jammed old new same before state is_ram is_jam law is_new =
    is_new
    ∙ ap₂ (λ r s. judged_in r ram s jammed) (ap (λ r. r.rules) (sym same)) (status_in plan word old before)
    ∙ ap₂ (λ m j. judged_in plan.script.rules.rules m (status_of plan word) j) (is_ram ∙ ap ram_of state)
    (is_jam ∙ ap is_jammed state)
    ∙ sym law
