-- What a mask says of pages.
use Rattle.std.proofs.Common.{◌≡◌, ℕ, zero, suc, ◌+◌, ◌-◌, ◌*◌, ◌/◌, ◌%◌, ◌==◌, ◌≤◌, ◌<◌, Bool, true, false, not, cond, List, [], ◌∷◌, length, take, drop, get_or, refl, sym, ap, ◌∙◌, arith}
use Rattle.std.proofs.lemmas.List.{drop-drop, get_or_past, get_or_default, get_or-drop, get_or-take, same_lists}
use Rattle.std.proofs.Math.Seq.{drop-nil}
use Rattle.std.proofs.lemmas.Simd.{bit_mask_l}
use Rattle.std.proofs.lemmas.List.FromFn.{get_or-map-range_with_len, length-map-range_with_len}
use Rattle.std.specs.Int.{bit_at}
use Rattle.std.specs.Str.{bytes_eq}
use Rattle.std.specs.Simd.Lanes.{mask_l}
use Rattle.nj_image.specs.Pages.{first_pages, page_count, page_at, pages, differences, mask_bytes, flags_of, flag_in, flags_in}

pub count-differences : (n : ℕ) (image base : List ℕ)
    → length (differences (first_pages n image) (first_pages n base)) ≡ n
count-differences zero image base = refl
count-differences (suc n) image base = ap suc (count-differences n (drop 64 image) (drop 64 base))

-- the flag of a page
flag-at : (n p : ℕ) (image base : List ℕ) → p < n →
    get_or (differences (first_pages n image) (first_pages n base)) p false
    ≡ not (bytes_eq (take 64 (drop (64 * p) image)) (take 64 (drop (64 * p) base)))
flag-at zero p image base below = absurd (omega arith)
flag-at (suc n) zero image base below = refl
flag-at (suc n) (suc p) image base below =
    flag-at n p (drop 64 image) (drop 64 base) (omega arith)
    ∙ both (drop-drop (64 * p) 64 image ∙ ap (λ k. drop k image) (omega arith)) (drop-drop (64 * p) 64 base
    ∙ ap (λ k. drop k base) (omega arith))
  where
    both : {a b c d : List ℕ} → a ≡ b → c ≡ d
        → not (bytes_eq (take 64 a) (take 64 c)) ≡ not (bytes_eq (take 64 b) (take 64 d))
    both {a} {b} {c} {d} e f =
        ap (λ l. not (bytes_eq (take 64 l) (take 64 c))) e ∙ ap (λ l. not (bytes_eq (take 64 b) (take 64 l))) f

-- the flags of an image are those of its base's pages
flags-same : (image base : List ℕ) → length image ≡ length base
    → flags_of image base ≡ differences (first_pages (page_count base) image) (pages base)
flags-same image base same = ap (λ n. differences (first_pages (n / 64) image) (pages base)) same

pub count-flags : (image base : List ℕ) → length image ≡ length base → length (flags_of image base) ≡ page_count base
count-flags image base same = ap length (flags-same image base same) ∙ count-differences (page_count base) image base

pub flag-is : (image base : List ℕ) (p : ℕ) → length image ≡ length base → 64 * p + 64 ≤ length base →
    get_or (flags_of image base) p false ≡ not (bytes_eq (page_at image p) (page_at base p))
flag-is image base p same inside =
    let width : 64 ≡ 64 * p + 64 - 64 * p = omega arith in
    ap (λ l. get_or l p false) (flags-same image base same)
    ∙ (flag-at (page_count base) p image base (omega arith)
    ∙ ap (λ k. not (bytes_eq (take k (drop (64 * p) image)) (take k (drop (64 * p) base)))) width)

pub flag-past : (image base : List ℕ) (p : ℕ) → length image ≡ length base → length base < 64 * p + 64
    → get_or (flags_of image base) p false ≡ false
flag-past image base p same past =
    get_or_past (flags_of image base) p false (omega (arith, count-flags image base same))

-- flags as a number, one more
pub bits-more : (flags : List Bool) (p n : ℕ)
    → mask_l (take (suc n) (drop p flags)) ≡ cond (get_or flags p false) 1 0 + 2 * mask_l (take n (drop (p + 1) flags))
bits-more [] p n =
    ap (λ (l : List Bool). mask_l (take (suc n) l)) (drop-nil p)
    ∙ (ends n ∙ ap (λ (l : List Bool). 0 + 2 * mask_l (take n l)) (sym (drop-nil (p + 1))))
  where
    ends : (n : ℕ) → ◌≡◌ {A = ℕ} 0 (0 + 2 * mask_l (take n []))
    ends zero = refl
    ends (suc n) = refl
bits-more (flag ∷ flags) zero n = refl
bits-more (flag ∷ flags) (suc p) n =
    let next : suc (p + 1) ≡ suc p + 1 = omega arith in
    bits-more flags p n ∙ ap (λ k. cond (get_or flags p false) 1 0 + 2 * mask_l (take n (drop k (flag ∷ flags)))) next

-- eight flags as a sum of bits
pub eight-flags : (flags : List Bool) (p a b c d e f g h : ℕ) →
    a ≡ cond (get_or flags p false) 1 0 → b ≡ cond (get_or flags (p + 1) false) 1 0
    → c ≡ cond (get_or flags (p + 2) false) 1 0 →
    d ≡ cond (get_or flags (p + 3) false) 1 0 → e ≡ cond (get_or flags (p + 4) false) 1 0
    → f ≡ cond (get_or flags (p + 5) false) 1 0 →
    g ≡ cond (get_or flags (p + 6) false) 1 0 → h ≡ cond (get_or flags (p + 7) false) 1 0 →
    a + 2 * (b + 2 * (c + 2 * (d + 2 * (e + 2 * (f + 2 * (g + 2 * h)))))) ≡ mask_l (take 8 (drop p flags))
eight-flags flags p a b c d e f g h ea eb ec ed ee ef eg eh =
    sym (bits-more flags p 7
    ∙ more ea (step (p + 1) (p + 2) 6 (omega arith)
    ∙ more eb (step (p + 2) (p + 3) 5 (omega arith)
    ∙ more ec (step (p + 3) (p + 4) 4 (omega arith)
    ∙ more ed (step (p + 4) (p + 5) 3 (omega arith)
    ∙ more ee (step (p + 5) (p + 6) 2 (omega arith)
    ∙ more ef (step (p + 6) (p + 7) 1 (omega arith)
    ∙ more eg (step (p + 7) (p + 8) 0 (omega arith)
    ∙ last eh))))))))
  where
    step : (at next n : ℕ) → at + 1 ≡ next →
        mask_l (take (suc n) (drop at flags)) ≡ cond (get_or flags at false) 1 0 + 2 * mask_l (take n (drop next flags))
    step at next n is =
        bits-more flags at n ∙ ap (λ k. cond (get_or flags at false) 1 0 + 2 * mask_l (take n (drop k flags))) is

    last : {x y : ℕ} → x ≡ y → y + 2 * 0 ≡ x
    last xy = omega (arith, xy)

    more : {x y m n : ℕ} → x ≡ y → m ≡ n → y + 2 * m ≡ x + 2 * n
    more xy mn = omega (arith, xy, mn)

-- the bytes of a mask
pub count-bytes : (n : ℕ) (flags : List Bool) → length (mask_bytes n flags) ≡ n
count-bytes zero flags = refl
count-bytes (suc n) flags = ap suc (count-bytes n (drop 8 flags))

pub byte-at : (n k : ℕ) (flags : List Bool) → k < n
    → get_or (mask_bytes n flags) k 0 ≡ mask_l (take 8 (drop (8 * k) flags))
byte-at zero k flags below = absurd (omega arith)
byte-at (suc n) zero flags below = refl
byte-at (suc n) (suc k) flags below =
    let next : 8 + 8 * k ≡ 8 * suc k = omega arith in
    byte-at n k (drop 8 flags) (omega arith)
    ∙ (ap (λ (l : List Bool). mask_l (take 8 l)) (drop-drop (8 * k) 8 flags)
    ∙ ap (λ m. mask_l (take 8 (drop m flags))) next)

-- the bit of a flag in its byte
bit-back : (b : Bool) → (cond b 1 0 == 1) ≡ b
bit-back true = refl
bit-back false = refl

pub flag-of-bytes : (n p : ℕ) (flags : List Bool) → p / 8 < n → flag_in (mask_bytes n flags) p ≡ get_or flags p false
flag-of-bytes n p flags below =
    let back : 8 * (p / 8) + p % 8 ≡ p = omega arith in
    ap (λ x. bit_at x (p % 8) == 1) (byte-at n (p / 8) flags below)
    ∙ (ap (λ x. x == 1) (bit_mask_l (take 8 (drop (8 * (p / 8)) flags)) (p % 8))
    ∙ (bit-back (get_or (take 8 (drop (8 * (p / 8)) flags)) (p % 8) false)
    ∙ (get_or-take 8 (drop (8 * (p / 8)) flags) (p % 8) false (omega arith)
    ∙ (get_or-drop (8 * (p / 8)) flags (p % 8) false ∙ ap (λ k. get_or flags k false) back))))

-- the flags that are read of a mask
pub flags-get : (n p : ℕ) (mask : List ℕ) → p < n → get_or (flags_in n mask) p false ≡ flag_in mask p
unfolding flags_in
flags-get n p mask below = get_or-map-range_with_len (flag_in mask) 0 n p p false below (omega arith)

pub count-flags_in : (n : ℕ) (mask : List ℕ) → length (flags_in n mask) ≡ n
unfolding flags_in
count-flags_in n mask = length-map-range_with_len (flag_in mask) 0 n

-- those of a mask of flags are the flags
pub flags-back : (n m : ℕ) (flags : List Bool) → length flags ≡ n → n ≤ 8 * m → flags_in n (mask_bytes m flags) ≡ flags
flags-back n m flags size few =
    same_lists (flags_in n (mask_bytes m flags)) flags (count-flags_in n (mask_bytes m flags) ∙ sym size)
    (λ k d below.
    let under : k < n = omega (arith, below, count-flags_in n (mask_bytes m flags)) in
    get_or_default (flags_in n (mask_bytes m flags)) k d false below
    ∙ (flags-get n k (mask_bytes m flags) under
    ∙ (flag-of-bytes m k flags (omega arith) ∙ get_or_default flags k false d (omega (arith, size)))))
