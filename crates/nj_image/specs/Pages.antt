-- Images as pages of 64 bytes, and the mask of those that differ (this project's own).
use Rattle.std.specs.Prelude.{◌≡◌, ◌⊎◌, ℕ, zero, suc, ◌+◌, ◌*◌, ◌/◌, ◌%◌, ◌==◌, Bool, not, List, [], ◌∷◌, ◌++◌, length, take, drop, map, slice_index, slice_range}
use Rattle.std.specs.Int.{bit_at}
use Rattle.std.specs.List.{range_with_len}
use Rattle.std.specs.Simd.Lanes.{mask_l}
use Rattle.std.specs.Str.{bytes_eq}

-- an image has 70 pages, or 198 with pattern RAM
abbrev pub IsImageSize : List ℕ → Type 0
IsImageSize image = (length image ≡ 4480) ⊎ (length image ≡ 12672)

-- so many pages from the front of a memory
abbrev pub first_pages : ℕ → List ℕ → List (List ℕ)
first_pages zero memory = []
first_pages (suc n) memory = take 64 memory ∷ first_pages n (drop 64 memory)

-- the number of pages of a memory
abbrev pub page_count : List ℕ → ℕ
page_count memory = length memory / 64

-- the pages of a memory, in order
abbrev pub pages : List ℕ → List (List ℕ)
pages memory = first_pages (page_count memory) memory

-- which pages differ from those of the base
abbrev pub differences : List (List ℕ) → List (List ℕ) → List Bool
differences [] bases = []
differences (page ∷ pages) [] = []
differences (page ∷ pages) (base ∷ bases) = not (bytes_eq page base) ∷ differences pages bases

-- flags as so many bytes, eight in each, the first in the lowest bit
abbrev pub mask_bytes : ℕ → List Bool → List ℕ
mask_bytes zero flags = []
mask_bytes (suc n) flags = mask_l (take 8 flags) ∷ mask_bytes n (drop 8 flags)

-- a byte of mask for each eight pages
abbrev pub mask_size : List ℕ → ℕ
mask_size base = (page_count base + 7) / 8

-- the flags of an image's pages: which of them differ from the base's
abbrev pub flags_of : List ℕ → List ℕ → List Bool
flags_of image base = differences (pages image) (pages base)

-- the mask that the flags of an image's pages make
unfoldable pub mask_of : List ℕ → List ℕ → List ℕ
mask_of image base = mask_bytes (mask_size base) (flags_of image base)

-- page p of a memory
abbrev pub page_at : List ℕ → ℕ → List ℕ
page_at memory p = slice_range memory (64 * p) (64 * p + 64)

-- the flag of page p in a mask: bit p mod 8 of byte p div 8
abbrev pub flag_in : List ℕ → ℕ → Bool
flag_in mask p = bit_at (slice_index mask (p / 8)) (p % 8) == 1

-- the flags of so many pages in a mask
unfoldable pub flags_in : ℕ → List ℕ → List Bool
flags_in n mask = map (flag_in mask) (range_with_len 0 n)

-- a memory in which a part stands at a place
abbrev pub overwritten : ℕ → List ℕ → List ℕ → List ℕ
overwritten at part whole = take at whole ++ (part ++ drop (at + length part) whole)
