-- Some dots, and then those that are left.
use Rattle.std.proofs.Common.{◌≡◌, ◌+◌, ◌-◌, ap, sym, ◌∙◌, arith}
use Rattle.nj_dots.specs.Dots.{after_dots}
use Rattle.nj_catchup.proofs.Sums.{dots-sum, dots-zero}
use Rattle.nj_catchup.proofs.advance.advance.Goals as goal

pub loop-left-preserved : goal.loop-left-preserved
loop-left-preserved c =
    let n = c.advance_some-left.result in
    let all : c.loop-left.left ≡ (c.loop-left.left - n) + n = omega (arith, c.advance_some-left.ensures.within) in
    record {
      same = ap (after_dots (c.loop-left.left - n) c.args.pattern.now) c.advance_some-left.ensures.dots
          ∙ dots-sum c.loop-left.left (c.loop-left.left - n) n c.args.pattern.now c.loop-left.screen all
          ∙ c.loop-left.invariant.same;
      fits = c.advance_some-left.ensures.fits;
    }

pub returns-clause-dots : goal.returns-clause-dots
returns-clause-dots c =
    let none : c.loop-left.left ≡ 0 = omega (arith, c.loop-left-test.false) in
    sym (dots-zero c.loop-left.left c.args.pattern.now c.loop-left.screen none) ∙ c.loop-left.invariant.same
