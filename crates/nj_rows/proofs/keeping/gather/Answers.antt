-- One row more.
use Rattle.std.proofs.Common.{arith}
use Rattle.nj_rows.proofs.Quotas.{one_gathered}
use Rattle.nj_rows.proofs.keeping.gather.Goals as goal

pub loop-place-preserved : goal.loop-place-preserved
loop-place-preserved c = (
  c.loop-place.invariant.0,
  one_gathered c.args.rows.now.items c.loop-place.rows.items c.loop-place.counts c.args.n c.args.quota
      c.loop-place.place c.loop-place.kept
      c.keep_next-kept.new.rows.items c.keep_next-kept.new.counts c.keep_next-kept.result
      (omega (arith, c.loop-place-test.true, c.loop-place.invariant.0, c.loop-place.invariant.1.long))
      c.loop-place.invariant.1
      c.keep_next-kept.ensures.kept c.keep_next-kept.ensures.rest c.keep_next-kept.ensures.long
      c.keep_next-kept.ensures.below c.keep_next-kept.ensures.counted,
)
