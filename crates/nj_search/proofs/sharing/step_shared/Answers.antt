use Rattle.std.specs.Prelude.{IfSome, IfNone}
use Rattle.std.proofs.lemmas.Result.{IfOk-weaker}
use Rattle.nj_search.specs.Rests.{IsFurther}
use Rattle.nj_search.specs.Starts.{EndsIn, IsEnded}
use Rattle.nj_search.proofs.StepEnds.{unspent_after, step_after, can_end, told_step, further_step}
use Rattle.nj_search.proofs.sharing.step_shared.Goals as goal

pub outcome_after-requires-clause-spent : goal.outcome_after-requires-clause-spent
outcome_after-requires-clause-spent g c = unspent_after _ _ _ c.requires.spent c.in_ok-stepped.ensures.next

pub outcome_after-requires-clause-step : goal.outcome_after-requires-clause-step
outcome_after-requires-clause-step g c =
    step_after c.steps_are_counted.ensures _ _ _ c.requires.spent c.in_ok-stepped.ensures.next c.requires.step

pub outcome_after-requires-clause-row : goal.outcome_after-requires-clause-row
outcome_after-requires-clause-row g c = can_end _ _ _ c.in_ok-stepped.ensures.next

pub returns-clause-ended : goal.returns-clause-ended
returns-clause-ended g c =
    let old = c.args.search.now in
    IfOk-weaker c.outcome_after.result (λ told. IsEnded c.in_ok-stepped.stepped c.next_shared.new.search told)
    (λ told. IfSome told (EndsIn old))
    (λ told h. told_step _ _ _ told c.in_ok-stepped.ensures.next h) c.outcome_after.ensures

pub returns-clause-further : goal.returns-clause-further
returns-clause-further g c =
    let old = c.args.search.now in
    IfOk-weaker c.outcome_after.result (λ told. IsEnded c.in_ok-stepped.stepped c.next_shared.new.search told)
    (λ told. IfNone told (IsFurther old c.next_shared.new.search))
    (λ told h. further_step c.steps_are_counted.ensures _ _ _ told c.requires.spent c.in_ok-stepped.ensures.next h)
    c.outcome_after.ensures
