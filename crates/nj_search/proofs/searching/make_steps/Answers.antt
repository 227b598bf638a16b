use Rattle.std.proofs.Common.{◌≡◌, sym, ◌∙◌}
use Rattle.std.proofs.lemmas.Result.{IfOk-weaker}
use Rattle.nj_search_defs.specs.Outcome.{LimitAt}
use Rattle.nj_search.specs.Ends.{answer_of}
use Rattle.nj_search.specs.Rests.{rest_of}
use Rattle.nj_search.proofs.Going.{frames_within, told_at_end, told_at_limit}
use Rattle.nj_search.proofs.searching.make_steps.Goals as goal

pub returns-in_err-outcome-clause-frames : goal.returns-in_err-outcome-clause-frames
returns-in_err-outcome-clause-frames g c =
    frames_within _ _ _ _ _ _ _ c.loop-made-test.true c.loop-made.invariant c.step_on.ensures.frames

pub returns-in-Some-clause-ended : goal.returns-in-Some-clause-ended
returns-in-Some-clause-ended g c =
    told_at_end _ _ _ _ _ _ c.args.keep c.in-Some.outcome c.loop-made-test.true c.loop-made.invariant
    (rw c.in-Some.is at c.in_ok-outcome.ensures.ended)
    ∙ sym c.unsaved.ensures

pub returns-in-Some-clause-frames : goal.returns-in-Some-clause-frames
returns-in-Some-clause-frames g c =
    frames_within _ _ _ _ _ _ _ c.loop-made-test.true c.loop-made.invariant c.step_on.ensures.frames

pub returns-clause-ended : goal.returns-clause-ended
returns-clause-ended g c =
    let now = c.loop-made.search in
    IfOk-weaker c.at_limit.result (λ ended. answer_of now.plan c.args.keep (LimitAt now.state) ≡ ended)
    (λ ended. answer_of c.args.search.now.plan c.args.keep (rest_of c.args.search.now c.args.limit) ≡ ended)
    (λ ended told. told_at_limit _ _ _ _ _ _ c.args.keep ended c.loop-made-test.false c.loop-made.invariant told)
    c.at_limit.ensures

pub at_limit-requires : goal.at_limit-requires
at_limit-requires g c = record { spent = c.loop-made.invariant.unspent }
