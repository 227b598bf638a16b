-- The lanes of two pages that differ.
use Rattle.nj_image.proofs.Compare.{lanes-differ}
use Rattle.nj_image.proofs.masks.differs.Goals as goal

pub returns : goal.returns
returns c = lanes-differ c.args.page.now c.args.base.now c.requires.page c.requires.base
