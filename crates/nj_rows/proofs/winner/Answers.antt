-- One row more, from the last to the first.
use Rattle.std.proofs.Common.{◌≡◌, ◌+◌, ◌-◌, ◌<◌, length, drop, arith, sym, ap, ◌∙◌}
use Rattle.nj_rows.specs.Best.{better}
use Rattle.nj_rows.proofs.Rows.{winner_of, winner_step, none_exactly}
use Rattle.nj_rows.proofs.winner.Goals as goal

pub loop-left-preserved : goal.loop-left-preserved
loop-left-preserved c =
    let some : 0 < c.loop-left.left = omega (arith, c.loop-left-test.true) in
    let lt : c.loop-left.left - 1 < length c.args.rows.now = omega (arith, c.loop-left.invariant.0) in
    let next : c.loop-left.left - 1 + 1 ≡ c.loop-left.left = omega arith in (
      omega arith,
      c.better_of-best.ensures
          ∙ ap (better _) (c.loop-left.invariant.1 ∙ ap (λ i. winner_of (drop i c.args.rows.now)) (sym next))
          ∙ sym (winner_step c.args.rows.now (c.loop-left.left - 1) _ lt),
    )

pub returns-clause-none : goal.returns-clause-none
returns-clause-none c =
    let zero : c.loop-left.left ≡ 0 = omega (arith, c.loop-left-test.false) in
    none_exactly c.args.rows.now c.loop-left.best
    (c.loop-left.invariant.1 ∙ ap (λ i. winner_of (drop i c.args.rows.now)) zero)
