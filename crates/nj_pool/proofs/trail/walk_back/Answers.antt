-- A walk goes from a place to its parent's.
use Rattle.std.proofs.Common.{◌<◌, length, arith, subst, sym}
use Rattle.nj_pool.proofs.Trails.{birth_before, last_step, read_before}
use Rattle.nj_pool.proofs.trail.walk_back.Goals as goal

pub at-birth-requires : goal.at-birth-requires
at-birth-requires c =
    let some : 0 < c.loop-left.left = omega (arith, c.loop-left-test.true) in
    let births = last_step c.args.roots.now c.args.steps.now c.args.place c.loop-left.left c.loop-left.at
    c.loop-left.back.items c.index-steps-left.result some c.loop-left.invariant c.index-steps-left.is in
    subst (λ b. c.loop-left.at < length b) (sym births)
    (birth_before c.args.roots.now c.args.steps.now c.args.place c.loop-left.left c.loop-left.at c.loop-left.back.items
    some c.loop-left.invariant)

pub loop-left-preserved : goal.loop-left-preserved
loop-left-preserved c =
    read_before c.args.roots.now c.args.steps.now c.args.place c.loop-left.left c.loop-left.at c.loop-left.back.items _
    c.index-steps-left.result c.at-birth.result.now
    (omega (arith, c.loop-left-test.true)) c.requires.linked c.loop-left.invariant c.index-steps-left.is
    c.at-birth.ensures c.in_ok-push.ensures.items
