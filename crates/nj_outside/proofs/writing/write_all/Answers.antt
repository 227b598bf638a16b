-- A write that took some bytes brings the invariant to the bytes taken by then.
use Rattle.std.proofs.Common.{length, arith, true, false, ◌≡◌, ◌≤◌, ◌+◌, ap, ◌∙◌, take}
use Rattle.nj_outside.specs.Told.{appended}
use Rattle.nj_outside.proofs.Pieces.{appended_more, all_handed, more_handed, none_handed}
use Rattle.nj_outside.proofs.writing.write_all.Goals as goal

pub loop-taken-preserved : goal.loop-taken-preserved
loop-taken-preserved g c =
    let left : length c.split_at.result.1.now + c.loop-taken.taken ≡ length c.args.bytes.now =
    c.split_at.ensures.back_len in
    let some : c.in-Ok.count ≤ length c.split_at.result.1.now = c.in-Ok.ensures.within in
    record {
      within = omega arith;
      written = appended_more _ _ _ _ _ _ c.loop-taken.invariant.written
          (c.in-Ok.ensures.appends
          ∙ ap (λ t. appended (g.O.Sink.written c.loop-taken.sink) (take c.in-Ok.count t)) c.split_at.ensures.back);
      counted = c.in-Ok.ensures.no_fault ∙ c.loop-taken.invariant.counted;
      handed = λ whole last rest. c.loop-taken.invariant.handed whole last
          (more_handed g.O.Sink.wrote c.args.bytes.now c.loop-taken.taken _ _ last _ _ whole c.split_at.ensures.back
          c.loop-taken-test.true
          c.in-Ok.ensures.wrote rest);
    }

pub returns-clause-hands_over : goal.returns-clause-hands_over
returns-clause-hands_over g c =
    c.loop-taken.invariant.handed true _ (all_handed g.O.Sink.wrote c.args.bytes.now c.loop-taken.taken _
    c.loop-taken-test.false)

pub returns-in-Err-clause-hands_over : goal.returns-in-Err-clause-hands_over
returns-in-Err-clause-hands_over g c =
    c.loop-taken.invariant.handed false _
    (none_handed g.O.Sink.wrote c.args.bytes.now c.loop-taken.taken _ _ _ c.split_at.ensures.back c.loop-taken-test.true
    c.in-Err.ensures.wrote)
