use Rattle.std.proofs.Common.{◌≤◌, ◌+◌, ◌^◌, ℕ, subst, arith}
use Rattle.nj_game.specs.Plan.{plan_of}
use Rattle.nj_plan.specs.Plans.{Planned, steps_before}
use Rattle.nj_plan.proofs.Accepted.{few_steps}
use Rattle.nj_plan.proofs.planning.Plan.steps.Goals as goal

pub returns-clause-within : goal.returns-clause-within
returns-clause-within c =
    let s = c.self.inside in
    let all : s.limits.steps + steps_before s.saved ≤ 2 ^ 20 =
    few_steps (plan_of s.cart s.script s.start) s.limits s.saved
    (subst (λ (n : ℕ). 1 ≤ n) c.hold-hold.ensures.value c.hold-hold.ensures.low) c.self.invariant.3 in
    subst (λ (p : Planned). steps_before p.saved + s.limits.steps ≤ 16777215) c.self.view_is (omega (arith, all))
