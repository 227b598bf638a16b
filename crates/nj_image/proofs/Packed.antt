-- The bytes of a packing.
use Rattle.std.proofs.Common.{◌≡◌, ℕ, zero, suc, ◌+◌, ◌*◌, ◌/◌, ◌≤◌, Bool, true, false, cond, List, [], ◌∷◌, ◌++◌, length, take, drop, set, refl, sym, ap, ◌∙◌, arith, length-append, length-set}
use Rattle.nj_image.specs.Pages.{IsImageSize, pages, page_count, mask_bytes, mask_size, flags_of, flags_in, mask_of, overwritten}
use Rattle.nj_image.specs.Packing.{flagged, all_of, packing}
use Rattle.nj_image.proofs.Flags.{count-flags, flags-back}
use Rattle.nj_image.proofs.Sizes.{whole}
use Rattle.nj_image.proofs.Fill.{AreWhole, whole-pages, count-pages}
use Rattle.nj_image.proofs.Steps.{copied, copied-size}

-- flagged pages take 64 bytes each, and where not all are flagged at least 64 bytes less
flagged-most : (flags : List Bool) (pages : List (List ℕ)) → AreWhole pages
    → length (flagged flags pages) ≤ 64 * length pages
flagged-most [] pages whole = omega arith
flagged-most (flag ∷ flags) [] whole = omega arith
flagged-most (true ∷ flags) (page ∷ pages) whole =
    omega (arith, flagged-most flags pages whole.1, length-append page (flagged flags pages), whole.0)
flagged-most (false ∷ flags) (page ∷ pages) whole = omega (arith, flagged-most flags pages whole.1)

pub flagged-less : (flags : List Bool) (pages : List (List ℕ)) → length flags ≡ length pages → AreWhole pages
    → all_of flags ≡ false →
    length (flagged flags pages) + 64 ≤ 64 * length pages
flagged-less [] pages same whole some = cc
flagged-less (flag ∷ flags) [] same whole some = absurd (omega (arith, same))
flagged-less (true ∷ flags) (page ∷ pages) same whole some =
    omega (
      arith,
      flagged-less flags pages (omega (arith, same)) whole.1 some,
      length-append page (flagged flags pages),
      whole.0,
    )
flagged-less (false ∷ flags) (page ∷ pages) same whole some = omega (arith, flagged-most flags pages whole.1)

-- the flags that are read of an image's mask
pub mask-flags : (image base : List ℕ) → IsImageSize base → length image ≡ length base
    → flags_in (page_count base) (mask_of image base) ≡ flags_of image base
unfolding mask_of
mask-flags image base size same =
    flags-back (page_count base) (mask_size base) (flags_of image base) (count-flags image base same)
    (whole base size).mask

-- both forms
pub packing-all : (image base : List ℕ) → all_of (flags_of image base) ≡ true → packing image base ≡ 0 ∷ image
unfolding packing
packing-all image base all =
    ap (λ b. cond b (0 ∷ image) (1 ∷ (mask_of image base ++ flagged (flags_of image base) (pages image)))) all

pub packing-some : (image base : List ℕ) → all_of (flags_of image base) ≡ false →
    packing image base ≡ 1 ∷ (mask_of image base ++ flagged (flags_of image base) (pages image))
unfolding packing
packing-some image base some =
    ap (λ b. cond b (0 ∷ image) (1 ∷ (mask_of image base ++ flagged (flags_of image base) (pages image)))) some

-- the first byte and what is copied behind it
pub headed : (byte : ℕ) (part before after : List ℕ) → 1 + length part ≤ length before
    → after ≡ overwritten 1 part (set before 0 byte) →
    take (1 + length part) after ≡ byte ∷ part
headed byte part [] after fits is = absurd (omega (arith, fits))
headed byte part (first ∷ before) after fits is = copied 1 part (byte ∷ before) after fits is

-- a packing of differing pages has room where the image and a byte have
pub room-less : (image base : List ℕ) → IsImageSize base → length image ≡ length base
    → all_of (flags_of image base) ≡ false →
    1 + mask_size base + length (flagged (flags_of image base) (pages image)) ≤ length image + 1
room-less image base size same some =
    let sized = whole base size in
    let less = flagged-less (flags_of image base) (pages image) (count-flags image base same
    ∙ (ap (λ n. n / 64) (sym same) ∙ sym (count-pages (page_count image) image)))
    (whole-pages (page_count image) image (omega arith)) some in
    omega (arith, less, sized.few, sized.pages, count-pages (page_count image) image, same)

pub count-mask : (image base : List ℕ) → length (mask_of image base) ≡ mask_size base
unfolding mask_of
count-mask image base = count (mask_size base) (flags_of image base)
  where
    count : (n : ℕ) (flags : List Bool) → length (mask_bytes n flags) ≡ n
    count zero flags = refl
    count (suc n) flags = ap suc (count n (drop 8 flags))

-- what `pack` wrote is the packing
pub packed-all : (image base mask before after : List ℕ) → IsImageSize base → length image ≡ length base
    → length image + 1 ≤ length before → mask ≡ mask_of image base →
    all_of (flags_in (page_count base) mask) ≡ true → after ≡ overwritten 1 image (set before 0 0) →
    (take (1 + length image) after ≡ packing image base) × (1 + length image ≡ length (packing image base))
packed-all image base mask before after size same room is all written =
    let every : all_of (flags_of image base) ≡ true = ap all_of (sym (mask-flags image base size same))
    ∙ (ap (λ m. all_of (flags_in (page_count base) m)) (sym is) ∙ all) in (
      headed 0 image before after (omega (arith, room)) written ∙ sym (packing-all image base every),
      sym (ap length (packing-all image base every) ∙ omega arith),
    )

-- flags that were read of the mask
pub same-flags : (image base mask : List ℕ) → IsImageSize base → length image ≡ length base
    → mask ≡ mask_of image base →
    flags_in (page_count image) mask ≡ flags_of image base
same-flags image base mask size same is =
    ap (λ n. flags_in (n / 64) mask) same ∙ (ap (flags_in (page_count base)) is ∙ mask-flags image base size same)

pub some-flags : (image base mask : List ℕ) → IsImageSize base → length image ≡ length base
    → mask ≡ mask_of image base →
    all_of (flags_in (page_count base) mask) ≡ false → all_of (flags_of image base) ≡ false
some-flags image base mask size same is some =
    ap all_of (sym (mask-flags image base size same))
    ∙ (ap (λ m. all_of (flags_in (page_count base) m)) (sym is) ∙ some)

pub room-for : (image base mask before middle : List ℕ) → IsImageSize base → length image ≡ length base
    → length image + 1 ≤ length before → mask ≡ mask_of image base →
    all_of (flags_in (page_count base) mask) ≡ false → middle ≡ overwritten 1 mask (set before 0 1) →
    1 + mask_size base + length (flagged (flags_in (page_count image) mask) (pages image)) ≤ length middle
room-for image base mask before middle size same room is some written =
    let less = room-less image base size same (some-flags image base mask size same is some) in
    let sized = whole base size in
    let count : length mask ≡ mask_size base = ap length is ∙ count-mask image base in
    let long : length middle ≡ length before = copied-size 1 mask (set before 0 1) middle (omega (
      arith,
      count,
      sized.few,
      sized.pages,
      sized.some,
      same,
      room,
      length-set before 0 1,
    )) written ∙ length-set before 0 1 in
    omega (
      arith,
      less,
      long,
      room,
      ap (λ flags. length (flagged flags (pages image))) (same-flags image base mask size same is),
    )

pub packed-some : (image base mask before middle after : List ℕ) (end : ℕ) → IsImageSize base
    → length image ≡ length base → length image + 1 ≤ length before → mask ≡ mask_of image base →
    all_of (flags_in (page_count base) mask) ≡ false → middle ≡ overwritten 1 mask (set before 0 1) →
    take end after ≡ take (1 + mask_size base) middle ++ flagged (flags_in (page_count image) mask) (pages image) →
    end ≡ 1 + mask_size base + length (flagged (flags_in (page_count image) mask) (pages image)) →
    (take end after ≡ packing image base) × (end ≡ length (packing image base))
packed-some image base mask before middle after end size same room is some written bytes ends =
    let sized = whole base size in
    let count : length mask ≡ mask_size base = ap length is ∙ count-mask image base in
    let flags = same-flags image base mask size same is in
    let form = packing-some image base (some-flags image base mask size same is some) in
    let head : take (1 + mask_size base) middle ≡ 1 ∷ mask =
    ap (λ k. take (1 + k) middle) (sym count) ∙
    headed 1 mask before middle (omega (arith, count, sized.few, sized.pages, sized.some, same, room)) written in (
      bytes ∙ (ap (λ l. l ++ flagged (flags_in (page_count image) mask) (pages image)) head
          ∙ (ap (λ f. 1 ∷ (mask ++ flagged f (pages image))) flags
          ∙ (ap (λ m. 1 ∷ (m ++ flagged (flags_of image base) (pages image))) is ∙ sym form))),
      ends ∙ sym (ap length form ∙ omega (
        arith,
        length-append (mask_of image base) (flagged (flags_of image base) (pages image)),
        count-mask image base,
        ap (λ f. length (flagged f (pages image))) flags,
      )),
    )
