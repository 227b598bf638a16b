-- Numbers that are bytes: parts of them, and the image of pages that were read.
use Rattle.std.proofs.Common.{ℕ, zero, suc, ◌<◌, Bool, true, false, List, [], ◌∷◌, ◌++◌, take, drop, get_or}
use Rattle.nj_image.specs.Pages.{first_pages}
use Rattle.nj_image.specs.Packing.{AreBytes}
use Rattle.nj_image.specs.Filling.{merged}

pub bytes-from : (xs : List ℕ) → ((i : ℕ) → get_or xs i 0 < 256) → AreBytes xs
bytes-from [] is = tt
bytes-from (x ∷ xs) is = (is 0, bytes-from xs (λ i. is (suc i)))

pub bytes-append : (xs ys : List ℕ) → AreBytes xs → AreBytes ys → AreBytes (xs ++ ys)
bytes-append [] ys first second = second
bytes-append (x ∷ xs) ys first second = (first.0, bytes-append xs ys first.1 second)

pub bytes-take : (n : ℕ) (xs : List ℕ) → AreBytes xs → AreBytes (take n xs)
bytes-take zero xs is = tt
bytes-take (suc n) [] is = tt
bytes-take (suc n) (x ∷ xs) is = (is.0, bytes-take n xs is.1)

pub bytes-drop : (n : ℕ) (xs : List ℕ) → AreBytes xs → AreBytes (drop n xs)
bytes-drop zero xs is = is
bytes-drop (suc n) [] is = tt
bytes-drop (suc n) (x ∷ xs) is = bytes-drop n xs is.1

-- pages of bytes
abbrev pub AreBytePages : List (List ℕ) → Type 0
AreBytePages [] = Unit {0}
AreBytePages (page ∷ pages) = AreBytes page × AreBytePages pages

pub byte-pages : (n : ℕ) (memory : List ℕ) → AreBytes memory → AreBytePages (first_pages n memory)
byte-pages zero memory is = tt
byte-pages (suc n) memory is = (bytes-take 64 memory is, byte-pages n (drop 64 memory) (bytes-drop 64 memory is))

pub merged-bytes : (flags : List Bool) (bases : List (List ℕ)) (bytes : List ℕ) → AreBytePages bases → AreBytes bytes
    → AreBytes (merged flags bases bytes)
merged-bytes flags [] bytes pages is = none flags
  where
    none : (flags : List Bool) → AreBytes (merged flags [] bytes)
    none [] = tt
    none (flag ∷ flags) = tt
merged-bytes [] (base ∷ bases) bytes pages is = tt
merged-bytes (true ∷ flags) (base ∷ bases) bytes pages is =
    bytes-append (take 64 bytes) (merged flags bases (drop 64 bytes)) (bytes-take 64 bytes is)
    (merged-bytes flags bases (drop 64 bytes) pages.1 (bytes-drop 64 bytes is))
merged-bytes (false ∷ flags) (base ∷ bases) bytes pages is =
    bytes-append base (merged flags bases bytes) pages.0 (merged-bytes flags bases bytes pages.1 is)
