use Rattle.std.proofs.Common.{◌≡◌, ◌*◌, sym, arith, ◌∙◌}
use Rattle.std.proofs.lemmas.Result.{IfOk-weaker}
use Rattle.nj_search_defs.specs.Outcome.{LimitAt}
use Rattle.nj_search.specs.Ends.{answer_of}
use Rattle.nj_search.specs.Rests.{rest_of, frames_a_step}
use Rattle.nj_search.proofs.Going.{none_made, one_more_made, same_frames, told_at_end, told_at_limit}
use Rattle.nj_search.proofs.Counters.{none_counted, step_counted, last_counted}
use Rattle.nj_search.proofs.sharing.share_steps.Goals as goal

pub loop-made-init : goal.loop-made-init
loop-made-init g c = record {
  made = none_made c.args.search.now c.args.limit 0 c.requires.spent;
  counted = none_counted c.args.workers c.args.steps.now.items (frames_a_step c.args.search.now * 0);
}

pub returns-clause-ended : goal.returns-clause-ended
returns-clause-ended g c =
    let now = c.loop-made.search in
    IfOk-weaker c.at_limit.result (λ ended. answer_of now.plan c.args.keep (LimitAt now.state) ≡ ended)
    (λ ended. answer_of c.args.search.now.plan c.args.keep (rest_of c.args.search.now c.args.limit) ≡ ended)
    (λ ended told. told_at_limit _ _ _ _ _ _ c.args.keep ended c.loop-made-test.false c.loop-made.invariant.made told)
    c.at_limit.ensures

pub returns-in_err-outcome-clause-frames : goal.returns-in_err-outcome-clause-frames
returns-in_err-outcome-clause-frames g c =
    last_counted c.args.search.now c.loop-made.search c.args.limit c.loop-made._made c.args.workers c.args.steps.now.items
    c.loop-made.steps.items
    c.step_shared.new.steps.items c.loop-made-test.true c.loop-made.invariant.made c.loop-made.invariant.counted
    c.step_shared.ensures.frames

pub returns-in-Some-clause-ended : goal.returns-in-Some-clause-ended
returns-in-Some-clause-ended g c =
    told_at_end _ _ _ _ _ _ c.args.keep c.in-Some.outcome c.loop-made-test.true c.loop-made.invariant.made
    (rw c.in-Some.is at c.in_ok-outcome.ensures.ended)
    ∙ sym c.unsaved.ensures

pub returns-in-Some-clause-frames : goal.returns-in-Some-clause-frames
returns-in-Some-clause-frames g c =
    last_counted c.args.search.now c.loop-made.search c.args.limit c.loop-made._made c.args.workers c.args.steps.now.items
    c.loop-made.steps.items
    c.step_shared.new.steps.items c.loop-made-test.true c.loop-made.invariant.made c.loop-made.invariant.counted
    c.step_shared.ensures.frames

pub loop-made-preserved : goal.loop-made-preserved
loop-made-preserved g c =
    let begun = c.args.search.now in
    let now = c.loop-made.search in
    let are_made = c.loop-made.invariant.made in record {
      made =
          one_more_made begun now c.step_shared.new.search c.args.limit c.loop-made._made 0 0 0 c.loop-made-test.true
          are_made
          (rw c.in_default.is at c.in_ok-outcome.ensures.further) (omega arith) (omega arith);
      counted =
          step_counted c.args.workers c.args.steps.now.items c.loop-made.steps.items c.step_shared.new.steps.items
          (frames_a_step begun)
          (frames_a_step now) c.loop-made._made (same_frames begun now are_made.plan are_made.bounds)
          c.loop-made.invariant.counted
          c.step_shared.ensures.frames;
    }
