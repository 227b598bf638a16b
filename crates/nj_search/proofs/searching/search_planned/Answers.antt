use Rattle.std.proofs.Common.{◌≡◌, sym, subst, ◌∙◌}
use Rattle.std.proofs.lemmas.Result.{IfOk-weaker}
use Rattle.nj_search.specs.Ends.{answer_of, ended_of}
use Rattle.nj_search.specs.Rests.{rest_of}
use Rattle.nj_search.specs.Starts.{IsBegun}
use Rattle.nj_search.specs.declared.searching.Begun.{Begun}
use Rattle.nj_search.proofs.Going.{answered, start_within, frames_going}
use Rattle.nj_search.proofs.searching.search_planned.Goals as goal

pub returns-in_err-outcome-clause-frames : goal.returns-in_err-outcome-clause-frames
returns-in_err-outcome-clause-frames g c = start_within c.args.plan _ _ c.begin.ensures.frames

pub returns-in-Over-clause-ended : goal.returns-in-Over-clause-ended
returns-in-Over-clause-ended g c =
    let begun = subst (λ (b : Begun). IsBegun c.args.plan b) c.in-Over.is c.in_ok-outcome.ensures.begun in
    c.unsaved.ensures ∙ sym (begun c.args.keep)

pub returns-in-Over-clause-frames : goal.returns-in-Over-clause-frames
returns-in-Over-clause-frames g c = start_within c.args.plan _ _ c.begin.ensures.frames

pub returns-in-Going-clause-ended : goal.returns-in-Going-clause-ended
returns-in-Going-clause-ended g c =
    let search = c.in-Going.search in
    let going = subst (λ (b : Begun). IsBegun c.args.plan b) c.in-Going.is c.in_ok-outcome.ensures.begun in
    IfOk-weaker c.search_on.result
    (λ ended. answer_of search.plan c.args.keep (rest_of search c.steps-limit.result) ≡ ended)
    (λ ended. ended ≡ ended_of c.args.plan c.args.keep)
    (λ ended told. answered c.args.plan search c.args.keep c.steps-limit.result ended going c.steps-limit.ensures.steps
    told) c.search_on.ensures.ended

pub returns-in-Going-clause-frames : goal.returns-in-Going-clause-frames
returns-in-Going-clause-frames g c =
    let going = subst (λ (b : Begun). IsBegun c.args.plan b) c.in-Going.is c.in_ok-outcome.ensures.begun in
    frames_going c.args.plan c.in-Going.search c.steps-limit.result _ _ _ going c.steps-limit.ensures.steps
    c.begin.ensures.frames c.search_on.ensures.frames
