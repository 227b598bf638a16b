-- A mask whose last byte has six flags is made of the flags that are read of it.
use Rattle.std.proofs.Common.{◌≡◌, ℕ, suc, ◌+◌, ◌*◌, ◌/◌, ◌%◌, ◌^◌, ◌==◌, ◌≤◌, ◌<◌, Bool, true, false, cond, List, [], ◌∷◌, length, take, drop, get_or, refl, sym, ap, subst, ◌∙◌, arith, pow-suc, length-take, length-drop}
use Rattle.std.proofs.lemmas.List.{get_or-take, get_or-drop}
use Rattle.std.proofs.lemmas.Nat.Bits.{bit_at-suc, bit_at_lowest}
use Rattle.std.proofs.lemmas.Bool.{eqb-true, eqb-false}
use Rattle.std.proofs.lemmas.Grind.{same_number_lists}
use Rattle.std.specs.Int.{bit_at}
use Rattle.std.specs.Prelude.{nat_eq}
use Rattle.std.specs.Simd.Lanes.{mask_l}
use Rattle.nj_image.specs.Pages.{mask_bytes, flags_in}
use Rattle.nj_image.proofs.Flags.{count-bytes, byte-at, flags-get, count-flags_in}

-- a number is its bits
parity : (n : ℕ) → cond (nat_eq (n % 2) 1) 1 0 ≡ n % 2
parity n = go (nat_eq (n % 2) 1) refl
  where
    go : (b : Bool) → nat_eq (n % 2) 1 ≡ b → cond b 1 0 ≡ n % 2
    go true e = sym (eqb-true (n % 2) 1 e)
    go false e = odd (eqb-false (n % 2) 1 e)
      where
        odd : (n % 2 ≡ 1 → ⊥) → 0 ≡ n % 2
        odd other = grind (arith, other)

of-bits : (flags : List Bool) (n : ℕ) → n < 2 ^ length flags
    → ((i : ℕ) → i < length flags → get_or flags i false ≡ (bit_at n i == 1)) → mask_l flags ≡ n
of-bits [] n below bits = omega (arith, below)
of-bits (flag ∷ flags) n below bits =
    let first : flag ≡ nat_eq (n % 2) 1 = bits 0 (omega arith) ∙ ap (λ k. nat_eq k 1) (bit_at_lowest n) in
    let half : n / 2 < 2 ^ length flags = omega (arith, below, pow-suc 2 (length flags)) in
    let rest : mask_l flags ≡ n / 2 = of-bits flags (n / 2) half (λ i under. bits (suc i) (omega (arith, under))
    ∙ ap (λ k. nat_eq k 1) (bit_at-suc n i)) in
    ap (λ f. cond f 1 0 + 2 * mask_l flags) first ∙ omega (arith, parity n, rest)

-- the flags of a byte of a mask
byte-flags : (n j k w : ℕ) (mask : List ℕ) → 8 * j + w ≤ n → w ≤ 8
    → length (take 8 (drop (8 * j) (flags_in n mask))) ≡ w → get_or mask j 0 < 2 ^ w →
    mask_l (take 8 (drop (8 * j) (flags_in n mask))) ≡ get_or mask j 0
byte-flags n j k w mask fits most size below =
    of-bits (take 8 (drop (8 * j) (flags_in n mask))) (get_or mask j 0)
    (subst (λ v. get_or mask j 0 < 2 ^ v) (sym size) below)
    (λ i under.
    let few : i < w = omega (arith, under, size) in
    let byte : (8 * j + i) / 8 ≡ j = omega (arith, few, most) in
    let bit : (8 * j + i) % 8 ≡ i = omega (arith, few, most) in
    get_or-take 8 (drop (8 * j) (flags_in n mask)) i false (omega (arith, few, most))
    ∙ (get_or-drop (8 * j) (flags_in n mask) i false
    ∙ (flags-get n (8 * j + i) mask (omega (arith, few, fits))
    ∙ (ap (λ p. bit_at (get_or mask p 0) ((8 * j + i) % 8) == 1) byte
    ∙ ap (λ p. bit_at (get_or mask j 0) p == 1) bit))))

-- eight flags in each byte but the last, which has six
pub mask-back : (n q : ℕ) (mask : List ℕ) → n ≡ 8 * q + 6 → length mask ≡ q + 1 → ((j : ℕ) → get_or mask j 0 < 256)
    → get_or mask q 0 < 64 →
    mask_bytes (q + 1) (flags_in n mask) ≡ mask
mask-back n q mask count size bytes last =
    same_number_lists (mask_bytes (q + 1) (flags_in n mask)) mask (count-bytes (q + 1) (flags_in n mask) ∙ sym size)
    (λ k below.
    let under : k < q + 1 = omega (arith, below, count-bytes (q + 1) (flags_in n mask)) in
    byte-at (q + 1) k (flags_in n mask) under ∙ go k (nat_eq k q) refl under)
  where
    go : (k : ℕ) (b : Bool) → nat_eq k q ≡ b → k < q + 1
        → mask_l (take 8 (drop (8 * k) (flags_in n mask))) ≡ get_or mask k 0
    go k true e under =
        let is : k ≡ q = eqb-true k q e in
        byte-flags n k 0 6 mask (omega (arith, is, count)) (omega arith)
        (omega (
          arith,
          is,
          count,
          length-take {A = Bool} 8 (drop (8 * k) (flags_in n mask)),
          length-drop {A = Bool} (8 * k) (flags_in n mask),
          count-flags_in n mask,
        ))
        (subst (λ j. get_or mask j 0 < 64) (sym is) last)
    go k false e under =
        let less : k < q = below k (eqb-false k q e) under in
        byte-flags n k 0 8 mask (omega (arith, less, count)) (omega arith)
        (omega (
          arith,
          less,
          count,
          length-take {A = Bool} 8 (drop (8 * k) (flags_in n mask)),
          length-drop {A = Bool} (8 * k) (flags_in n mask),
          count-flags_in n mask,
        ))
        (bytes k)
      where
        below : (k : ℕ) → (k ≡ q → ⊥) → k < q + 1 → k < q
        below k other under = grind (arith, other)
