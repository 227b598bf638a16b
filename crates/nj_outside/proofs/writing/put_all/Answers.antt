-- A put that took some bytes brings the invariant to the bytes taken by then.
use Rattle.std.proofs.Common.{length, arith, ◌≡◌, ◌≤◌, ◌+◌, ap, ◌∙◌, take, inr}
use Rattle.nj_outside.specs.Told.{put_file_from}
use Rattle.nj_outside.proofs.Pieces.{put_more, put_place}
use Rattle.nj_outside.proofs.writing.put_all.Goals as goal

pub put_at-requires-in-loop-taken : goal.put_at-requires-in-loop-taken
put_at-requires-in-loop-taken g c files told =
    inr (put_place _ _ files _ c.args.bytes.now _ c.loop-taken.invariant.within c.loop-taken.invariant.content told)

pub loop-taken-preserved : goal.loop-taken-preserved
loop-taken-preserved g c =
    let left : length c.split_at.result.1.now + c.loop-taken.taken ≡ length c.args.bytes.now =
    c.split_at.ensures.back_len in
    let some : c.in-Ok-put_at.count ≤ length c.split_at.result.1.now = c.in-Ok-put_at.ensures.within in
    record {
      within = omega arith;
      content = put_more _ _ _ _ _ _ _ c.loop-taken.invariant.within c.loop-taken.invariant.content
          (c.in-Ok-put_at.ensures.put
          ∙ ap (λ t. put_file_from (g.S.Shelf.content c.loop-taken.shelf) c.args.name.now c.loop-taken.taken
          (take c.in-Ok-put_at.count t)) c.split_at.ensures.back);
      counted = c.in-Ok-put_at.ensures.no_fault ∙ c.loop-taken.invariant.counted;
      failed_put = c.in-Ok-put_at.ensures.not_failed ∙ c.loop-taken.invariant.failed_put;
      read_faults = c.in-Ok-put_at.ensures.read_faults ∙ c.loop-taken.invariant.read_faults;
      failed_read = c.in-Ok-put_at.ensures.failed_read ∙ c.loop-taken.invariant.failed_read;
    }
