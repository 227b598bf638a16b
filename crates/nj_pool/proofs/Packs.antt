-- A pool with one packing more.
use Rattle.std.proofs.Common.{◌≡◌, ℕ, suc, ◌+◌, ◌≤◌, List, [], ◌∷◌, ◌++◌, length, get_or, Fits, w8, sym, ap, subst, ◌∙◌, arith}
use Rattle.std.specs.Prelude.{sum_by}
use Rattle.std.specs.List.{All}
use Rattle.std.proofs.lemmas.List.{map-append}
use Rattle.std.proofs.lemmas.List.Sums.{sum_by-append}
use Rattle.std.proofs.lemmas.List.Elements.{All-push, All-append}
use Rattle.nj_image.specs.Pages.{IsImageSize}
use Rattle.nj_image.specs.Packing.{packing, unpacked, AreBytes, IsPacking}
use Rattle.nj_pool.specs.Front.{need, images_in, IsPacked}

-- the numbers of a slice of bytes
pub octets : (bytes : List ℕ) → ((i : ℕ) → Fits w8 (get_or bytes i 0)) → AreBytes bytes
octets [] are = tt
octets (byte ∷ bytes) are = (omega (arith, are 0), octets bytes (λ i. are (suc i)))

-- one packing more is that of an image, and tells it
pub packed_more : (base room after image packed : List ℕ) (limit bytes more : ℕ) (packings later : List (List ℕ))
    → ((image base : List ℕ) → IsImageSize base → length image ≡ length base
    → unpacked base (packing image base) ≡ image)
    → ((image base : List ℕ) → length image ≡ length base → AreBytes image → IsPacking base (packing image base))
    → IsPacked base room limit bytes packings → length after ≡ length room → length image ≡ length base → AreBytes image
    → packed ≡ packing image base → later ≡ packings ++ packed ∷ [] → more ≡ bytes + need base image → more ≤ limit
    → IsPacked base after limit more later
packed_more base room after image packed limit bytes more packings later told packs pool wide long octets is added
    counted within =
    let same : later ≡ packings ++ packing image base ∷ [] = added ∙ ap (λ p. packings ++ p ∷ []) is in
    let images : images_in base later ≡ images_in base packings ++ image ∷ [] =
    ap (images_in base) same ∙ (map-append (unpacked base) packings (packing image base ∷ [])
    ∙ ap (λ i. images_in base packings ++ i ∷ []) (told image base pool.size long)) in
    record {
      size = pool.size;
      wide = wide ∙ pool.wide;
      are = subst (All (IsPacking base)) (sym same)
          (All-push (IsPacking base) packings (packing image base) pool.are (packs image base long octets));
      counted = omega (
        arith,
        counted,
        pool.counted,
        ap (sum_by (need base)) images,
        sum_by-append (need base) (images_in base packings) (image ∷ []),
      );
      within = within;
    }

-- the packings of two pools over one base
pub packed_joined : (base room other_room : List ℕ) (limit other_limit bytes other_bytes more : ℕ)
    (packings other later : List (List ℕ))
    → IsPacked base room limit bytes packings → IsPacked base other_room other_limit other_bytes other
    → later ≡ packings ++ other → more ≡ bytes + other_bytes → more ≤ limit → IsPacked base room limit more later
packed_joined base room other_room limit other_limit bytes other_bytes more packings other later pool others added
    counted within =
    let images : images_in base later ≡ images_in base packings ++ images_in base other =
    ap (images_in base) added ∙ map-append (unpacked base) packings other in
    record {
      size = pool.size;
      wide = pool.wide;
      are = subst (All (IsPacking base)) (sym added) (All-append (IsPacking base) packings other pool.are others.are);
      counted = omega (
        arith,
        counted,
        pool.counted,
        others.counted,
        ap (sum_by (need base)) images,
        sum_by-append (need base) (images_in base packings) (images_in base other),
      );
      within = within;
    }
