use Rattle.std.proofs.Common.{◌≡◌, refl, sym, ap, subst}
use Rattle.std.specs.Prelude.{IfOk}
use Rattle.std.proofs.lemmas.Result.{IfOk-weaker}
use Rattle.nj_game.specs.Plan.{plan_of}
use Rattle.nj_expand.specs.declared.Bounds.{Bounds as Given}
use Rattle.nj_expand.specs.Held.{opened, bounds_of}
use Rattle.nj_expand.specs.Saving.{resumed}
use Rattle.nj_plan.specs.Plans.{Planned, words_before}
use Rattle.nj_plan.specs.Outcomes.{held_in}
use Rattle.nj_plan.proofs.Accepted.{some_word, fits_slots, front_fits}
use Rattle.nj_plan.proofs.Opening.{given_bounds, opens_at_start, opens_from_saved}
use Rattle.nj_plan.proofs.planning.Plan.open.Goals as goal

pub start-requires-clause-front : goal.start-requires-clause-front
start-requires-clause-front g c =
    let s = c.self.inside in (
      some_word (plan_of s.cart s.script s.start) s.limits s.saved c.most.result c.self.invariant.3 c.most.ensures.most,
      c.most.ensures.within,
    )

pub start-requires-clause-fits : goal.start-requires-clause-fits
start-requires-clause-fits g c =
    let s = c.self.inside in
    fits_slots (plan_of s.cart s.script s.start) s.limits s.saved c.most.result c.input_count.result c.self.invariant.3
    c.most.ensures.most
    c.input_count.ensures.value

pub from_saved-requires-clause-front : goal.from_saved-requires-clause-front
from_saved-requires-clause-front g c =
    let s = c.self.inside in (
      some_word (plan_of s.cart s.script s.start) s.limits s.saved c.most.result c.self.invariant.3 c.most.ensures.most,
      c.most.ensures.within,
    )

pub from_saved-requires-clause-fits : goal.from_saved-requires-clause-fits
from_saved-requires-clause-fits g c =
    let s = c.self.inside in
    fits_slots (plan_of s.cart s.script s.start) s.limits s.saved c.most.result c.input_count.result c.self.invariant.3
    c.most.ensures.most
    c.input_count.ensures.value

pub from_saved-requires-clause-few : goal.from_saved-requires-clause-few
from_saved-requires-clause-few g c =
    let s = c.self.inside in
    front_fits (plan_of s.cart s.script s.start) s.limits s.saved c.most.result _ c.self.invariant.3 c.most.ensures.most
    (sym (ap words_before c.in-Some.is))

pub returns-in-None-clause-opened : goal.returns-in-None-clause-opened
returns-in-None-clause-opened g c =
    let s = c.self.inside in
    let planned : Planned = record { plan = plan_of s.cart s.script s.start; limits = s.limits; saved = s.saved } in
    let given : Given = record { front = c.most.result; exponent = s.limits.exponent; inputs = c.input_count.result } in
    subst (λ (p : Planned). IfOk c.start.result (λ search. search ≡ held_in p)) c.self.view_is
    (IfOk-weaker c.start.result (λ search. search ≡ opened planned.plan (bounds_of given s.script))
    (λ search. search ≡ held_in planned)
    (λ search is. opens_at_start planned (bounds_of given s.script) search
    (given_bounds planned given c.most.ensures.most refl c.input_count.ensures.value) c.in-None.is
    is) c.start.ensures.opened)

pub returns-in-Some-clause-opened : goal.returns-in-Some-clause-opened
returns-in-Some-clause-opened g c =
    let s = c.self.inside in
    let planned : Planned = record { plan = plan_of s.cart s.script s.start; limits = s.limits; saved = s.saved } in
    let given : Given = record { front = c.most.result; exponent = s.limits.exponent; inputs = c.input_count.result } in
    subst (λ (p : Planned). IfOk c.from_saved.result (λ search. search ≡ held_in p)) c.self.view_is
    (IfOk-weaker c.from_saved.result
    (λ search. search ≡ resumed planned.plan (bounds_of given s.script) c.in-Some.saved)
    (λ search. search ≡ held_in planned)
    (λ search is. opens_from_saved planned (bounds_of given s.script) c.in-Some.saved search
    (given_bounds planned given c.most.ensures.most refl c.input_count.ensures.value) c.in-Some.is
    is) c.from_saved.ensures.resumed)
