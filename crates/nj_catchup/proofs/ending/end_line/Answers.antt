-- No dot at all, or those up to dot 1.
use Rattle.std.proofs.Common.{◌-◌, sym, arith}
use Rattle.nj_catchup.proofs.Sums.{dots-none}
use Rattle.nj_catchup.proofs.Ends.{line-ends}
use Rattle.nj_catchup.proofs.ending.end_line.Goals as goal

pub returns-then-screen-clause-dots : goal.returns-then-screen-clause-dots
returns-then-screen-clause-dots c = λ p. sym (dots-none p c.args.screen.now)

pub returns-clause-dots : goal.returns-clause-dots
returns-clause-dots c = λ p.
    let s = c.args.screen.now in
    line-ends c.from.result (340 - s.position.dot) p s c.if-screen.false c.if-line-ge260.false c.if-dot-lt337.false
    (omega (arith, c.if-dot-gt340.false)) (omega (arith, c.from.ensures, c.if-dot-gt340.false))
