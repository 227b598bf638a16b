-- A page that is not flagged tells it, and so does the end.
use Rattle.std.proofs.Common.{sym, ◌∙◌, arith}
use Rattle.nj_image.proofs.Every.{every-more, not-every, every-end}
use Rattle.nj_image.proofs.masks.every_flagged.Goals as goal

pub returns-then-not-is_flagged : goal.returns-then-not-is_flagged
returns-then-not-is_flagged c =
    not-every c.args.pages c.loop-page.page c.args.mask.now c.loop-page-test.true (sym c.is_flagged.ensures
    ∙ c.if-not-is_flagged.true)

pub loop-page-preserved : goal.loop-page-preserved
loop-page-preserved c =
    every-more c.args.pages c.loop-page.page c.args.mask.now c.loop-page-test.true c.loop-page.invariant
    (sym c.is_flagged.ensures ∙ c.if-not-is_flagged.false)

pub returns : goal.returns
returns c = every-end c.args.pages c.loop-page.page c.args.mask.now (omega arith) c.loop-page.invariant
