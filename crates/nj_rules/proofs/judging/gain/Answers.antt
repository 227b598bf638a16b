-- One weight more: its worth leaves the sum of those that are left.
use Rattle.std.proofs.Common.{arith}
use Rattle.std.proofs.lemmas.Int.{ints}
use Rattle.nj_rules.specs.Rules.{worth_of}
use Rattle.nj_rules.proofs.Sums.{int_sum-drop}
use Rattle.nj_rules.proofs.judging.gain.Goals as goal

pub loop-weight-preserved : goal.loop-weight-preserved
loop-weight-preserved c =
    let step = int_sum-drop (worth_of c.args.ram.now) c.as_slice-weight-items.result.now c.loop-weight.weight-index _
    c.loop-weight.sum c.worth-sum.result c.loop-weight-test.true c.worth-sum.ensures.value in
    let before = c.loop-weight.invariant.0 in
    let bound = c.loop-weight.invariant.1 in
    (omega (arith, ints), omega (arith, ints))
