-- The byte of eight flags.
use Rattle.nj_image.specs.Pages.{flags_of}
use Rattle.nj_image.proofs.Flags.{eight-flags}
use Rattle.nj_image.proofs.masks.mask_byte.Goals as goal

pub returns : goal.returns
returns c =
    eight-flags (flags_of c.args.image.now c.args.base.now) c.args.first _ _ _ _ _ _ _ _ c.flag-7.ensures.flag
    c.flag-8.ensures.flag
    c.flag-5.ensures.flag c.flag-6.ensures.flag c.flag-3.ensures.flag c.flag-4.ensures.flag c.flag.ensures.flag
    c.flag-2.ensures.flag
