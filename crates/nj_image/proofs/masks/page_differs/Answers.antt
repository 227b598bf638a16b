-- The flag of a page is that of the mask.
use Rattle.std.proofs.Common.{sym, ◌∙◌}
use Rattle.nj_image.proofs.Flags.{flag-is, flag-past}
use Rattle.nj_image.proofs.masks.page_differs.Goals as goal

pub returns-then-at-base : goal.returns-then-at-base
returns-then-at-base c =
    c.differs.ensures ∙ sym (flag-is c.args.image.now c.args.base.now c.args.page c.requires.size c.if-at-base.true)

pub returns-else-at-base : goal.returns-else-at-base
returns-else-at-base c =
    sym (flag-past c.args.image.now c.args.base.now c.args.page c.requires.size c.if-at-base.false)
