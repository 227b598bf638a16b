-- The packing of an image over a base: what of it differs (this project's own).
use Rattle.std.specs.Prelude.{◌≡◌, ◌<◌, ◌≤◌, ◌==◌, ℕ, Bool, if◌then◌else◌, List, [], ◌∷◌, ◌++◌, length, take, drop}
use Rattle.std.specs.List.{list_all}
use Rattle.nj_image.specs.Pages.{pages, page_count, flags_of, flags_in, mask_size, mask_of}
use Rattle.nj_image.specs.Filling.{merged}

-- the pages that are flagged, one behind the other
abbrev pub flagged : List Bool → List (List ℕ) → List ℕ
flagged [] pages = []
flagged (flag ∷ flags) [] = []
flagged (flag ∷ flags) (page ∷ pages) = if flag then page ++ flagged flags pages else flagged flags pages

-- every page differs
abbrev pub all_of : List Bool → Bool
all_of flags = list_all (λ flag. flag) flags

-- the packing: 0 and the image where every page differs, else 1, the mask and the differing pages
unfoldable pub packing : List ℕ → List ℕ → List ℕ
packing image base =
    if all_of (flags_of image base) then 0 ∷ image
    else 1 ∷ (mask_of image base ++ flagged (flags_of image base) (pages image))

-- the image that a packing tells: behind a 0 it stands itself; else the pages that the mask flags stand behind the
-- mask, in their order, and the others are the base's
unfoldable pub unpacked : List ℕ → List ℕ → List ℕ
unpacked base [] = []
unpacked base (first ∷ rest) =
    if first == 0 then rest
    else merged (flags_in (page_count base) (take (mask_size base) rest)) (pages base) (drop (mask_size base) rest)

-- numbers that are bytes
abbrev pub AreBytes : List ℕ → Type 0
AreBytes [] = Unit {0}
AreBytes (byte ∷ bytes) = (byte < 256) × AreBytes bytes

-- bytes are the packing of some image over a base
unfoldable pub IsPacking : List ℕ → List ℕ → Type 0
IsPacking base bytes =
    (image : List ℕ) × ((length image ≡ length base) × (AreBytes image × (packing image base ≡ bytes)))

-- bytes with which some packing begins
unfoldable pub IsBeginning : List ℕ → List ℕ → Type 0
IsBeginning base bytes = (rest : List ℕ) × IsPacking base (bytes ++ rest)

-- bytes are no packing, and this is the length of their longest prefix with which one begins
pub record IsDamagedAt (base bytes : List ℕ) (at : ℕ) : Type 0 where
  pub no_packing : IsPacking base bytes → ⊥
  pub within : at ≤ length bytes
  pub begins : IsBeginning base (take at bytes)
  pub longest : (n : ℕ) → n ≤ length bytes → IsBeginning base (take n bytes) → n ≤ at
