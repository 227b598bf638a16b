-- A packing tells its image.
use Rattle.std.proofs.Common.{◌≡◌, ◌≤◌, ◌+◌, ℕ, ◌∷◌, Bool, true, false, List, ◌++◌, length, take, drop, refl, sym, ap, ◌∙◌, arith, length-append}
use Rattle.std.proofs.Math.Seq.{take-append_seam, drop-append_seam}
use Rattle.nj_image.specs.Pages.{IsImageSize, pages, page_count, flags_of, flags_in, mask_size, mask_of}
use Rattle.nj_image.specs.Packing.{flagged, all_of, packing, unpacked, AreBytes, IsPacking}
use Rattle.nj_image.specs.Filling.{merged}
use Rattle.nj_image.proofs.Packed.{packing-all, packing-some, mask-flags, count-mask, room-less}
use Rattle.nj_image.proofs.Forms.{image-reads}
use Rattle.nj_image.proofs.Unpacked.{same-parts}

tail : {a b : ℕ} {xs ys : List ℕ} → ◌≡◌ {A = List ℕ} (a ∷ xs) (b ∷ ys) → xs ≡ ys
tail e = cc

pub one-image : (image other base : List ℕ) → IsImageSize base → length image ≡ length base → length other ≡ length base
    → packing image base ≡ packing other base → image ≡ other
one-image image other base size first second same =
    go (all_of (flags_of image base)) refl (all_of (flags_of other base)) refl
  where
    go : (a : Bool) → all_of (flags_of image base) ≡ a → (b : Bool) → all_of (flags_of other base) ≡ b → image ≡ other
    go true e true f = tail (sym (packing-all image base e) ∙ (same ∙ packing-all other base f))
    go true e false f = cc (sym (packing-all image base e) ∙ (same ∙ packing-some other base f))
    go false e true f = cc (sym (packing-some image base e) ∙ (same ∙ packing-all other base f))
    go false e false f =
        let parts = same-parts (mask_of image base) (flagged (flags_of image base) (pages image)) (mask_of other base)
        (flagged (flags_of other base) (pages other))
        (count-mask image base ∙ sym (count-mask other base))
        (tail (sym (packing-some image base e) ∙ (same ∙ packing-some other base f))) in
        let flags : flags_of image base ≡ flags_of other base =
        sym (mask-flags image base size first)
        ∙ (ap (flags_in (page_count base)) parts.0 ∙ mask-flags other base size second) in
        sym (image-reads image base size first).1
        ∙ (ap (λ fs. merged fs (pages base) (flagged (flags_of image base) (pages image))) flags
        ∙ (ap (merged (flags_of other base) (pages base)) parts.1 ∙ (image-reads other base size second).1))

pub image-told : (image base : List ℕ) → IsImageSize base → length image ≡ length base
    → unpacked base (packing image base) ≡ image
unfolding unpacked
image-told image base size same = go (all_of (flags_of image base)) refl
  where
    go : (all : Bool) → all_of (flags_of image base) ≡ all → unpacked base (packing image base) ≡ image
    go true e = ap (unpacked base) (packing-all image base e)
    go false e =
        let mask = mask_of image base in
        let differing = flagged (flags_of image base) (pages image) in
        let size_is = count-mask image base in
        let first : take (mask_size base) (mask ++ differing) ≡ mask =
        ap (λ k. take k (mask ++ differing)) (sym size_is) ∙ take-append_seam mask differing in
        let behind : drop (mask_size base) (mask ++ differing) ≡ differing =
        ap (λ k. drop k (mask ++ differing)) (sym size_is) ∙ drop-append_seam mask differing in
        ap (unpacked base) (packing-some image base e)
        ∙ (ap (λ m. merged (flags_in (page_count base) m) (pages base)
        (drop (mask_size base) (mask ++ differing))) first
        ∙ (ap (λ fs. merged fs (pages base) (drop (mask_size base) (mask ++ differing)))
        (mask-flags image base size same)
        ∙ (ap (merged (flags_of image base) (pages base)) behind ∙ (image-reads image base size same).1)))

pub packed-short : (image base : List ℕ) → IsImageSize base → length image ≡ length base
    → length (packing image base) ≤ length base + 1
packed-short image base size same = go (all_of (flags_of image base)) refl
  where
    go : (all : Bool) → all_of (flags_of image base) ≡ all → length (packing image base) ≤ length base + 1
    go true e = omega (arith, same, ap length (packing-all image base e))
    go false e = omega (
      arith,
      same,
      ap length (packing-some image base e),
      length-append (mask_of image base) (flagged (flags_of image base) (pages image)),
      count-mask image base,
      room-less image base size same e,
    )

pub packed-is : (image base : List ℕ) → length image ≡ length base → AreBytes image
    → IsPacking base (packing image base)
unfolding IsPacking
packed-is image base same octets = (image, (same, (octets, refl)))
