use Rattle.std.proofs.Common.{arith, length, ap, subst}
use Rattle.nj_machine.specs.State.{ram_of}
use Rattle.nj_game.specs.Plan.{plan_of}
use Rattle.nj_game.specs.Words.{state_of}
use Rattle.nj_expand.specs.Ending.{AreFew}
use Rattle.nj_expand.proofs.search.Search.few_pads.Goals as goal

pub returns : goal.returns
returns c =
    let s = c.self.inside in
    let plan = plan_of s.cart s.script s.start in
    let bounds = c.self.invariant.0 in
    subst AreFew c.self.view_is
    (λ word.
    (let named = c.allowed_pads_come_once.ensures.named plan.script.inputs.sets (ram_of (state_of plan word)) in
    let is = ap length (c.a_candidate_is_told_by_its_parent.ensures.allowed plan word) in
    omega (arith, named, is, bounds.inputs, bounds.few_inputs)))
