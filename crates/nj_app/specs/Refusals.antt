-- The text of a refused plan. Our own.
use Rattle.std.specs.Prelude.{ℕ, List, ◌++◌, codes}
use Rattle.std.specs.Fmt.{decimal}
use Rattle.nj_plan.specs.declared.planning.PlanRefused.{PlanRefused}
use Rattle.nj_plan.specs.declared.planning.PlanRefused.TheVariants as plans

-- a refused plan
unfoldable pub plan_refusal : PlanRefused → List ℕ
plan_refusal (plans.BudgetTooSmall budget cost) = codes "1 BudgetTooSmall budget=" ++
    (decimal budget ++ (codes " cost=" ++ decimal cost))
plan_refusal (plans.SeenTooSmall need slots) = codes "2 SeenTooSmall need=" ++
    (decimal need ++ (codes " slots=" ++ decimal slots))
plan_refusal (plans.TrailTooLong rows limit) = codes "3 TrailTooLong rows=" ++
    (decimal rows ++ (codes " limit=" ++ decimal limit))
plan_refusal (plans.MovieTooLong frames limit) = codes "4 MovieTooLong frames=" ++
    (decimal frames ++ (codes " limit=" ++ decimal limit))
plan_refusal (plans.FrontTooLong front bound) = codes "5 FrontTooLong front=" ++
    (decimal front ++ (codes " bound=" ++ decimal bound))
