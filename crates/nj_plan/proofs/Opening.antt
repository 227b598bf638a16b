-- The search of a plan before its next step.
use Rattle.std.proofs.Common.{◌≡◌, ap, sym, ◌∙◌}
use Rattle.std.specs.Prelude.{Some, None}
use Rattle.nj_search_defs.specs.Game.{Bounds}
use Rattle.nj_saved.specs.declared.saved.Saved.{Saved}
use Rattle.nj_expand.specs.declared.Bounds.{Bounds as Given}
use Rattle.nj_expand.specs.Held.{Held, opened, bounds_of}
use Rattle.nj_expand.specs.Saving.{resumed}
use Rattle.nj_plan.specs.Plans.{Planned, most_of, inputs_of, bounds_in}
use Rattle.nj_plan.specs.Outcomes.{held_from, held_in}

-- the bounds that are given are those of the plan
pub given_bounds : (planned : Planned) (given : Given) → given.front ≡ most_of planned.limits planned.plan.cartridge
    → given.exponent ≡ planned.limits.exponent → given.inputs ≡ inputs_of planned.plan
    → bounds_of given planned.plan.script ≡ bounds_in planned
unfolding bounds_in
given_bounds planned given most exponent inputs =
    λ i. bounds_of (record { front = most i; exponent = exponent i; inputs = inputs i }) planned.plan.script

pub opens_at_start :
    (planned : Planned) (bounds : Bounds) (held : Held) → bounds ≡ bounds_in planned → planned.saved ≡ None
    → held ≡ opened planned.plan bounds → held ≡ held_in planned
unfolding held_in
opens_at_start planned bounds held same none is = is ∙ ap (opened planned.plan) same ∙ sym (ap (held_from planned) none)

pub opens_from_saved :
    (planned : Planned) (bounds : Bounds) (saved : Saved) (held : Held) → bounds ≡ bounds_in planned
    → planned.saved ≡ Some saved
    → held ≡ resumed planned.plan bounds saved → held ≡ held_in planned
unfolding held_in
opens_from_saved planned bounds saved held same some is =
    is ∙ ap (λ b. resumed planned.plan b saved) same ∙ sym (ap (held_from planned) some)
