-- The bytes that were written are those of the mask.
use Rattle.std.proofs.Common.{◌≡◌, ◌≢◌, ◌↔◌, List, ℕ, true, subst, sym, arith, ◌∙◌}
use Rattle.nj_image.specs.Pages.{mask_of, flag_in, page_at}
use Rattle.nj_image.proofs.Every.{mask-made, mask-tells}
use Rattle.nj_image.proofs.masks.page_mask.Goals as goal

pub returns-clause-mask : goal.returns-clause-mask
returns-clause-mask c =
    mask-made c.args.image.now c.args.base.now _ (c.loop-place.invariant.size ∙ c.requires.mask)
    (λ k below. c.loop-place.invariant.done k (omega (arith, below)))

pub returns-clause-pages : goal.returns-clause-pages
returns-clause-pages c p below =
    let made : c.loop-place.mask ≡ mask_of c.args.image.now c.args.base.now =
    mask-made c.args.image.now c.args.base.now _ (c.loop-place.invariant.size ∙ c.requires.mask)
    (λ k below. c.loop-place.invariant.done k (omega (arith, below))) in
    subst (λ (mask : List ℕ). (flag_in mask p ≡ true) ↔ (page_at c.args.image.now p ≢ page_at c.args.base.now p))
    (sym made)
    (mask-tells c.args.image.now c.args.base.now p c.requires.base c.requires.image below)
