use Rattle.std.proofs.Common.{◌≡◌, sym, ◌∙◌}
use Rattle.std.specs.Prelude.{None}
use Rattle.std.proofs.lemmas.Result.{IfOk-weaker}
use Rattle.nj_plan.specs.Plans.{Planned}
use Rattle.nj_plan.specs.Outcomes.{held_in}
use Rattle.nj_search.specs.Starts.{IsBegun}
use Rattle.nj_search.proofs.Going.{goes_on, starts, unspent_in}
use Rattle.nj_search.proofs.searching.begin.Goals as goal

pub returns-then-goes_on-clause-begun : goal.returns-then-goes_on-clause-begun
returns-then-goes_on-clause-begun g c =
    goes_on c.args.plan c.in_ok-search.search (sym c.goes_on-goes_on.ensures ∙ c.if-goes_on.true)
    c.in_ok-search.ensures.opened

pub judge_start-requires : goal.judge_start-requires
judge_start-requires g c = unspent_in c.args.plan c.in_ok-search.search c.in_ok-search.ensures.opened

pub returns-else-goes_on-clause-begun : goal.returns-else-goes_on-clause-begun
returns-else-goes_on-clause-begun g c =
    IfOk-weaker c.judge_start.result
    (λ begun. (planned : Planned) → planned.saved ≡ None → c.in_ok-search.search ≡ held_in planned →
    IsBegun planned begun)
    (λ begun. IsBegun c.args.plan begun)
    (λ begun is. is c.args.plan (starts c.args.plan (sym c.goes_on-goes_on.ensures ∙ c.if-goes_on.false))
    c.in_ok-search.ensures.opened)
    c.judge_start.ensures
