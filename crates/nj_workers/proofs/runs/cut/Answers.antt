-- One run more is cut.
use Rattle.std.proofs.Common.{◌≤◌, sym, subst}
use Rattle.nj_workers.proofs.Cuts.{some_rows, more_cut}
use Rattle.nj_workers.proofs.runs.cut.Goals as goal

pub loop-left-preserved : goal.loop-left-preserved
loop-left-preserved c =
    let was = c.loop-left.invariant in (
      more_cut c.args.rows.now c.args.workers c.run_size-size.result c.min.result c.loop-left.runs.items
          c.push_reserved.new.self.items _ c.loop-left.left.now c.split_at.result.1.now was.0
          (some_rows _ c.loop-left-test.ensures) c.min.ensures c.split_at.ensures.front c.split_at.ensures.back
          c.push_reserved.ensures.items,
      subst (λ n. c.args.workers ≤ n) (sym c.push_reserved.ensures.capacity) was.1,
    )
