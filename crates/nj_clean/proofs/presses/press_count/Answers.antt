use Rattle.std.proofs.Common.{arith}
use Rattle.nj_clean.proofs.Words.{presses_count, counts_on}
use Rattle.nj_clean.proofs.presses.press_count.Goals as goal

pub loop-pad-init : goal.loop-pad-init
loop-pad-init c = (omega arith, omega (arith, presses_count 0 c.args.word.now))

pub loop-pad-preserved : goal.loop-pad-preserved
loop-pad-preserved c =
    counts_on c.args.word.now c.loop-pad.pad-index c.pad.inside.0 c.pad-item.result c.loop-pad.count _
    (omega arith) c.loop-pad-test.true c.pad.view_is
    c.pad-item.is c.loop-pad.invariant
