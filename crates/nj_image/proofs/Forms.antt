-- The two forms of a packing, both ways.
use Rattle.std.proofs.Common.{◌≡◌, ◌⊎◌, inl, inr, ℕ, zero, suc, ◌/◌, Bool, true, false, List, [], ◌∷◌, ◌++◌, length, replicate, None, refl, sym, ap, subst, ◌∙◌, arith}
use Rattle.std.proofs.lemmas.List.{length-replicate}
use Rattle.nj_image.specs.Pages.{IsImageSize, pages, page_count, first_pages, differences, mask_bytes, mask_size, flags_of, mask_of}
use Rattle.nj_image.specs.Packing.{flagged, all_of, packing, IsPacking}
use Rattle.nj_image.specs.Filling.{merged, stop}
use Rattle.nj_image.proofs.Flags.{count-flags}
use Rattle.nj_image.proofs.Sizes.{whole}
use Rattle.nj_image.proofs.Fill.{AreWhole, whole-pages, count-pages, gives, reads, merged-every}
use Rattle.nj_image.proofs.Packed.{packing-all, packing-some}

-- the pages of a base are whole
pub base-whole : (base : List ℕ) → IsImageSize base → AreWhole (pages base)
base-whole base size = whole-pages (page_count base) base (omega (arith, (whole base size).pages))

-- all are flagged
all-replicate : (n : ℕ) → all_of (replicate n true) ≡ true
all-replicate zero = refl
all-replicate (suc n) = all-replicate n

replicate-all : (flags : List Bool) → all_of flags ≡ true → flags ≡ replicate (length flags) true
replicate-all [] all = refl
replicate-all (true ∷ flags) all = ap (λ l. true ∷ l) (replicate-all flags all)
replicate-all (false ∷ flags) all = cc

-- the image of flagged pages that were read
pub record IsOf (flags : List Bool) (base bytes image : List ℕ) : Type 0 where
  pub size : length image ≡ length base
  pub flags_are : flags_of image base ≡ flags
  pub bytes_are : flagged flags (pages image) ≡ bytes

pub image-of : (flags : List Bool) (base bytes : List ℕ) → IsImageSize base → length flags ≡ page_count base
    → stop flags (pages base) bytes ≡ None →
    IsOf flags base bytes (merged flags (pages base) bytes)
image-of flags base bytes size count none =
    let n = page_count base in
    let counted = count-pages n base in
    let given = gives flags (pages base) bytes (count ∙ sym counted) (base-whole base size) none in
    let image = merged flags (pages base) bytes in
    let same : length image ≡ length base = omega (arith, given.size, counted, (whole base size).pages) in
    let number : page_count image ≡ length (pages base) = ap (λ k. k / 64) same ∙ sym counted in
    record {
      size = same;
      flags_are = ap (λ k. differences (first_pages k image) (pages base)) number ∙ given.flags_are;
      bytes_are = ap (λ k. flagged flags (first_pages k image)) number ∙ given.bytes_are;
    }

-- bytes that have the form of a packing are one
pub whole-packing : (base bytes : List ℕ) → IsImageSize base
    → stop (replicate (page_count base) true) (pages base) bytes ≡ None →
    (length (merged (replicate (page_count base) true) (pages base) bytes) ≡ length base)
    × (packing (merged (replicate (page_count base) true) (pages base) bytes) base ≡ 0 ∷ bytes)
whole-packing base bytes size none =
    let n = page_count base in
    let of = image-of (replicate n true) base bytes size (length-replicate {A = Bool} n true) none in
    let counted : n ≡ length (pages base) = sym (count-pages n base) in (
      of.size,
      packing-all (merged (replicate n true) (pages base) bytes) base (ap all_of of.flags_are ∙ all-replicate n)
          ∙ ap (λ image. 0 ∷ image) (ap (λ k. merged (replicate k true) (pages base) bytes) counted
          ∙ merged-every (pages base) bytes (ap (λ k. stop (replicate k true) (pages base) bytes) (sym counted)
          ∙ none)),
    )

pub mask-packing : (flags : List Bool) (base bytes : List ℕ) → IsImageSize base → length flags ≡ page_count base
    → all_of flags ≡ false → stop flags (pages base) bytes ≡ None →
    (length (merged flags (pages base) bytes) ≡ length base)
    × (packing (merged flags (pages base) bytes) base ≡ 1 ∷ (mask_bytes (mask_size base) flags ++ bytes))
unfolding mask_of
mask-packing flags base bytes size count some none =
    let of = image-of flags base bytes size count none in
    let image = merged flags (pages base) bytes in (
      of.size,
      packing-some image base (ap all_of of.flags_are ∙ some)
          ∙ (ap (λ f. 1 ∷ (mask_bytes (mask_size base) f ++ flagged f (pages image))) of.flags_are
          ∙ ap (λ l. 1 ∷ (mask_bytes (mask_size base) flags ++ l)) of.bytes_are),
    )

-- a packing has one of the forms
pub record WholeForm (base bytes : List ℕ) : Type 0 where
  pub rest : List ℕ
  pub bytes_are : bytes ≡ 0 ∷ rest
  pub none : stop (replicate (page_count base) true) (pages base) rest ≡ None

pub record MaskForm (base bytes : List ℕ) : Type 0 where
  pub flags : List Bool
  pub rest : List ℕ
  pub count : length flags ≡ page_count base
  pub some : all_of flags ≡ false
  pub bytes_are : bytes ≡ 1 ∷ (mask_bytes (mask_size base) flags ++ rest)
  pub none : stop flags (pages base) rest ≡ None

pub image-reads : (image base : List ℕ) → IsImageSize base → length image ≡ length base →
    (stop (flags_of image base) (pages base) (flagged (flags_of image base) (pages image)) ≡ None)
    × (merged (flags_of image base) (pages base) (flagged (flags_of image base) (pages image)) ≡ image)
image-reads image base size same =
    let number : length (pages base) ≡ page_count image = count-pages (page_count base) base
    ∙ ap (λ k. k / 64) (sym same) in
    let read = reads (pages base) image
    (omega (arith, same, count-pages (page_count base) base, (whole base size).pages)) (base-whole base size) in (
      subst (λ k. stop (differences (first_pages k image) (pages base)) (pages base)
          (flagged (differences (first_pages k image) (pages base)) (first_pages k image)) ≡ None) number read.none,
      subst (λ k. merged (differences (first_pages k image) (pages base)) (pages base) (flagged
          (differences (first_pages k image) (pages base)) (first_pages k image)) ≡ image) number read.image_is,
    )

pub form-of : (base bytes : List ℕ) → IsImageSize base → IsPacking base bytes
    → WholeForm base bytes ⊎ MaskForm base bytes
unfolding IsPacking mask_of
form-of base bytes size is = go (all_of (flags_of is.0 base)) refl
  where
    go : (b : Bool) → all_of (flags_of is.0 base) ≡ b → WholeForm base bytes ⊎ MaskForm base bytes
    go true all =
        let same = is.1.0 in
        let flags : flags_of is.0 base ≡ replicate (page_count base) true =
        replicate-all (flags_of is.0 base) all ∙ ap (λ k. replicate k true) (count-flags is.0 base same) in
        let read = image-reads is.0 base size same in
        let none : stop (replicate (page_count base) true) (pages base)
        (flagged (replicate (page_count base) true) (pages is.0)) ≡ None =
        subst (λ f. stop f (pages base) (flagged f (pages is.0)) ≡ None) flags read.0 in
        let image : flagged (replicate (page_count base) true) (pages is.0) ≡ is.0 =
        sym (ap (λ k. merged (replicate k true) (pages base) (flagged (replicate (page_count base) true) (pages is.0)))
        (sym (count-pages (page_count base) base))
        ∙ merged-every (pages base) (flagged (replicate (page_count base) true) (pages is.0))
        (ap (λ k. stop (replicate k true) (pages base) (flagged (replicate (page_count base) true) (pages is.0)))
        (count-pages (page_count base) base) ∙ none))
        ∙ subst (λ f. merged f (pages base) (flagged f (pages is.0)) ≡ is.0) flags read.1 in
        inl (record {
          rest = is.0;
          bytes_are = sym is.1.1.1 ∙ packing-all is.0 base all;
          none = subst (λ l. stop (replicate (page_count base) true) (pages base) l ≡ None) image none;
        })
    go false some =
        let same = is.1.0 in
        inr (record {
          flags = flags_of is.0 base;
          rest = flagged (flags_of is.0 base) (pages is.0);
          count = count-flags is.0 base same;
          some = some;
          bytes_are = sym is.1.1.1 ∙ packing-some is.0 base some;
          none = (image-reads is.0 base size same).0;
        })
