-- The state, image and judgement at the start of a search.
use Rattle.std.proofs.Common.{◌≡◌, ℕ, List, [], sym, ap, ap₂, ◌∙◌}
use Rattle.nj_ines.specs.Cartridge.{Cartridge}
use Rattle.nj_machine.specs.State.{State, power_on, ram_of, is_jammed}
use Rattle.nj_machine.specs.Frame.{frames, play}
use Rattle.nj_machine.specs.Image.{image_of}
use Rattle.nj_rules.specs.declared.record.Judged.{Judged}
use Rattle.nj_rules.specs.Rules.{judged_of as judged_in}
use Rattle.nj_script.specs.Script.{Record}
use Rattle.nj_game.specs.Plan.{Plan, plan_of}
use Rattle.nj_game.specs.Words.{state_of, judged_of}
use Rattle.nj_candidate.specs.Rows.{judged_at}
use Rattle.nj_candidate.specs.Front.{image_at}

pub start_state : (cart : Cartridge) (script : Record) (start pads : List ℕ) (begun s : State) → begun ≡ power_on cart
    → pads ≡ start → s ≡ frames begun pads
    → state_of (plan_of cart script start) [] ≡ play cart start → s ≡ state_of (plan_of cart script start) []
start_state cart script start pads begun s on same ran law = ran ∙ ap₂ frames on same ∙ sym law

pub start_judged : (plan : Plan) (s : State) (judged : Judged) → s ≡ state_of plan []
    → judged ≡ judged_at plan.script 0 s
    → judged_of plan [] ≡ judged_in plan.script.rules.rules (ram_of (state_of plan [])) 0 (is_jammed (state_of plan []))
    → judged ≡ judged_of plan []
unfolding judged_at
start_judged plan s judged is told law =
    told ∙ ap (λ t. judged_in plan.script.rules.rules (ram_of t) 0 (is_jammed t)) is ∙ sym law

pub start_image : (plan : Plan) (s : State) (image : List ℕ) → s ≡ state_of plan [] → image ≡ image_of s
    → image ≡ image_at plan []
unfolding image_at
start_image plan s image is e = e ∙ ap image_of is
