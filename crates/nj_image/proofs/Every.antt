-- Masks that were made, and masks that flag every page.
use Rattle.std.proofs.Common.{◌≡◌, ◌≢◌, ◌↔◌, ℕ, ◌+◌, ◌*◌, ◌/◌, ◌%◌, ◌==◌, ◌≤◌, ◌<◌, Bool, true, false, not, ◌&&◌, cond, List, length, take, drop, get_or, replicate, refl, sym, ap, subst, ◌∙◌, arith}
use Rattle.std.proofs.lemmas.List.{take_all, get_or-replicate, same_lists, get_or_default, length-replicate}
use Rattle.std.proofs.lemmas.List.Folds.{list_all_at, list_all_more}
use Rattle.std.proofs.lemmas.Grind.{same_number_lists}
use Rattle.std.proofs.lemmas.Slice.Eq.{bytes_eq-Decides}
use Rattle.std.proofs.lemmas.Simd.{bit_mask_l}
use Rattle.std.specs.Int.{bit_at}
use Rattle.std.specs.Str.{bytes_eq}
use Rattle.std.specs.Simd.Lanes.{mask_l}
use Rattle.nj_image.specs.Pages.{IsImageSize, page_count, page_at, mask_bytes, mask_size, flags_of, mask_of, flag_in, flags_in}
use Rattle.nj_image.specs.Packing.{all_of}
use Rattle.nj_image.proofs.Flags.{byte-at, count-bytes, count-flags_in, flag-is, flag-of-bytes, flags-get}
use Rattle.nj_image.proofs.Sizes.{whole}

-- bytes that are those of the flags are the mask
pub mask-made : (image base mask : List ℕ) → length mask ≡ mask_size base →
    ((k : ℕ) → k < mask_size base → get_or mask k 0 ≡ mask_l (take 8 (drop (8 * k) (flags_of image base))))
    → mask ≡ mask_of image base
unfolding mask_of
mask-made image base mask size done =
    same_number_lists mask (mask_bytes (mask_size base) (flags_of image base)) (size
    ∙ sym (count-bytes (mask_size base) (flags_of image base)))
    (λ k below.
    let under : k < mask_size base = omega (arith, below, size) in
    done k under ∙ sym (byte-at (mask_size base) k (flags_of image base) under))

-- the bit of a page tells whether it differs
not-same : (xs ys : List ℕ) → (not (bytes_eq xs ys) ≡ true) ↔ (xs ≢ ys)
not-same xs ys =
    ((λ is same. cc (is, (bytes_eq-Decides xs ys).1 same)), (λ other. go (bytes_eq xs ys) refl other))
  where
    go : (b : Bool) → bytes_eq xs ys ≡ b → (xs ≡ ys → ⊥) → not b ≡ true
    go true e other = absurd (other ((bytes_eq-Decides xs ys).0 e))
    go false e other = refl

pub mask-tells : (image base : List ℕ) (p : ℕ) → IsImageSize base → length image ≡ length base → p < page_count base →
    (flag_in (mask_of image base) p ≡ true) ↔ (page_at image p ≢ page_at base p)
unfolding mask_of
mask-tells image base p size same below =
    let sized = whole base size in
    let is : flag_in (mask_bytes (mask_size base) (flags_of image base)) p ≡ not
    (bytes_eq (page_at image p) (page_at base p)) =
    flag-of-bytes (mask_size base) p (flags_of image base) (omega (arith, sized.mask))
    ∙ flag-is image base p same (omega (arith, sized.pages)) in
    subst (λ b. (b ≡ true) ↔ (page_at image p ≢ page_at base p)) (sym is) (not-same (page_at image p) (page_at base p))

-- every page before this one is flagged
and-true : (a b : Bool) → a ≡ true → b ≡ true → (a && b) ≡ true
and-true a b first second = ap (λ x. x && b) first ∙ second

pub every-more : (n p : ℕ) (mask : List ℕ) → p < n → all_of (take p (flags_in n mask)) ≡ true → flag_in mask p ≡ true →
    all_of (take (p + 1) (flags_in n mask)) ≡ true
every-more n p mask below before is =
    list_all_more (λ f. f) (flags_in n mask) p false (omega (arith, count-flags_in n mask))
    ∙ and-true _ _ before (flags-get n p mask below ∙ is)

pub not-every : (n p : ℕ) (mask : List ℕ) → p < n → flag_in mask p ≡ false → false ≡ all_of (flags_in n mask)
not-every n p mask below is =
    sym (list_all_at (λ f. f) (flags_in n mask) p false (omega (arith, count-flags_in n mask))
    (flags-get n p mask below ∙ is))

pub every-end : (n p : ℕ) (mask : List ℕ) → n ≤ p → all_of (take p (flags_in n mask)) ≡ true
    → true ≡ all_of (flags_in n mask)
every-end n p mask past before =
    sym before ∙ ap all_of (take_all p (flags_in n mask) (omega (arith, count-flags_in n mask)))

-- bytes 255 flag every page
pub flags-full : (n m : ℕ) → n ≤ 8 * m → flags_in n (replicate m 255) ≡ replicate n true
flags-full n m few =
    same_lists (flags_in n (replicate m 255)) (replicate n true) (count-flags_in n (replicate m 255)
    ∙ sym (length-replicate {A = Bool} n true))
    (λ k d below.
    let under : k < n = omega (arith, below, count-flags_in n (replicate m 255)) in
    get_or_default (flags_in n (replicate m 255)) k d false below
    ∙ (flags-get n k (replicate m 255) under
    ∙ (ap (λ x. bit_at x (k % 8) == 1) (get_or-replicate {A = ℕ} m (k / 8) 255 0 (omega arith))
    ∙ (ap (λ x. x == 1) (bit_mask_l (replicate 8 true) (k % 8))
    ∙ (ap (λ b. cond b 1 0 == 1) (get_or-replicate {A = Bool} 8 (k % 8) true false (omega arith))
    ∙ sym (get_or-replicate {A = Bool} n k true d under))))))
