-- Lemmas on hex digits, as listed and as read.
use Rattle.std.proofs.Common.{ℕ, ◌≡◌, ◌<◌, ◌+◌, ◌*◌, ◌/◌, ◌%◌, ◌==◌, Bool, true, false, ◌&&◌, not, ltb, min, [], ◌∷◌, length, map, get_or, refl, sym, ap, ◌∙◌, arith, Some}
use Rattle.std.specs.Char.{digit_value, is_digit}
use Rattle.std.specs.List.{range_with_len, list_all, suffix_len}
use Rattle.std.proofs.lemmas.Bool.Decides.{Decides-ltb}
use Rattle.std.proofs.lemmas.List.FromFn.{get_or-map-range_with_len}
use Rattle.nj_asm_lines.specs.declared.syntax.Value.TheVariants.{Literal}
use Rattle.nj_asm_lines.specs.Words.{is_blank}
use Rattle.nj_asm_lines.specs.Grammar.{literal_of}
use Rattle.nj_asm.specs.Listing.{hex_digit, hex2, hex4}

-- a byte that a listed statement may have: no control, no `:`, no `;`
abbrev pub is_plain : ℕ → Bool
is_plain byte = ltb 31 byte && (ltb byte 127 && (not (byte == 58) && not (byte == 59)))

-- functions that list the same 16 values agree below 16
agree : {A : Type 0} (f g : ℕ → A) → map f (range_with_len 0 16) ≡ map g (range_with_len 0 16) → (n : ℕ)
    → n < 16 → f n ≡ g n
agree f g e n h =
    sym (get_or-map-range_with_len f 0 16 n n (f n) h (omega arith))
    ∙ ap (λ xs. get_or xs n (f n)) e
    ∙ get_or-map-range_with_len g 0 16 n n (f n) h (omega arith)

digit_is : (n : ℕ) → n < 16 → digit_value (hex_digit n) ≡ n
digit_is n h = agree (λ k. digit_value (hex_digit k)) (λ k. k) refl n h

digit_plain : (n : ℕ) → n < 16 → is_plain (hex_digit n) ≡ true
digit_plain n h = agree (λ k. is_plain (hex_digit k)) (λ k. true) refl n h

digit_shown : (n : ℕ) → n < 16 → is_blank (hex_digit n) ≡ false
digit_shown n h = agree (λ k. is_blank (hex_digit k)) (λ k. false) refl n h

pub digit_no_comma : (n : ℕ) → n < 16 → (hex_digit n == 44) ≡ false
digit_no_comma n h = agree (λ k. hex_digit k == 44) (λ k. false) refl n h

pub digit_no_paren : (n : ℕ) → n < 16 → (hex_digit n == 41) ≡ false
digit_no_paren n h = agree (λ k. hex_digit k == 41) (λ k. false) refl n h

-- the digits of a byte
abbrev pub front_digit : ℕ → ℕ
front_digit n = hex_digit (n / 16 % 16)

abbrev pub back_digit : ℕ → ℕ
back_digit n = hex_digit (n % 16)

pub high_digit : (n : ℕ) → n / 16 % 16 < 16
high_digit n = omega arith

pub low_digit : (n : ℕ) → n % 16 < 16
low_digit n = omega arith

-- listed numbers are plain and end with no blank
pair_plain : (a b : ℕ) → is_plain a ≡ true → is_plain b ≡ true → list_all is_plain (a ∷ b ∷ []) ≡ true
pair_plain a b p q = rw (p, q)

pub hex2_plain : (n : ℕ) → list_all is_plain (hex2 n) ≡ true
unfolding hex2
hex2_plain n = pair_plain (hex_digit (n / 16 % 16)) (hex_digit (n % 16)) (digit_plain (n / 16 % 16) (high_digit n))
    (digit_plain (n % 16) (low_digit n))

four_plain : (a b c d : ℕ) → list_all is_plain (a ∷ b ∷ []) ≡ true → list_all is_plain (c ∷ d ∷ []) ≡ true
    → list_all is_plain (a ∷ b ∷ c ∷ d ∷ []) ≡ true
four_plain a b c d p q = grind arith

pub hex4_plain : (n : ℕ) → list_all is_plain (hex4 n) ≡ true
unfolding hex4 hex2
hex4_plain n = four_plain (front_digit (n / 256 % 256)) (back_digit (n / 256 % 256)) (front_digit (n % 256))
    (back_digit (n % 256)) (hex2_plain (n / 256 % 256)) (hex2_plain (n % 256))

last_shown : (a b : ℕ) → is_blank b ≡ false → suffix_len is_blank (a ∷ b ∷ []) ≡ 0
last_shown a b h = rw h

pub hex2_shown : (n : ℕ) → suffix_len is_blank (hex2 n) ≡ 0
unfolding hex2
hex2_shown n = last_shown (front_digit n) (back_digit n) (digit_shown (n % 16) (low_digit n))

last_of_four : (a b c d : ℕ) → is_blank d ≡ false → suffix_len is_blank (a ∷ b ∷ c ∷ d ∷ []) ≡ 0
last_of_four a b c d h = rw h

pub hex4_shown : (n : ℕ) → suffix_len is_blank (hex4 n) ≡ 0
unfolding hex4 hex2
hex4_shown n = last_of_four (front_digit (n / 256 % 256)) (back_digit (n / 256 % 256)) (front_digit (n % 256))
    (back_digit (n % 256)) (digit_shown (n % 256 % 16) (low_digit (n % 256)))

pub hex2_length : (n : ℕ) → length (hex2 n) ≡ 2
unfolding hex2
hex2_length n = refl

pub hex4_length : (n : ℕ) → length (hex4 n) ≡ 4
unfolding hex4 hex2
hex4_length n = refl

-- listed numbers are read back
below : (d v : ℕ) → digit_value d ≡ v → v < 16 → is_digit d 16 ≡ true
below d v e h = ap (λ n. ltb n 16) e ∙ (Decides-ltb v 16).1 h

two_read : (a b v w n : ℕ) → digit_value a ≡ v → digit_value b ≡ w → v < 16 → w < 16 → n ≡ v * 16 + w
    → literal_of 16 (a ∷ b ∷ []) ≡ Some (Literal n)
unfolding literal_of
two_read a b v w n p q hv hw e =
    let small : min 65536 ((0 * 16 + v) * 16 + w) ≡ n = omega arith in
    rw (below a v p hv, below b w q hw, p, q, small)

pub hex2_read : (n : ℕ) → n < 256 → literal_of 16 (hex2 n) ≡ Some (Literal n)
unfolding hex2
hex2_read n h =
    two_read (front_digit n) (back_digit n) (n / 16 % 16) (n % 16) n (digit_is (n / 16 % 16) (high_digit n))
    (digit_is (n % 16) (low_digit n)) (high_digit n) (low_digit n) (omega arith)

four_read : (a b c d t u v w n : ℕ) → digit_value a ≡ t → digit_value b ≡ u → digit_value c ≡ v → digit_value d ≡ w →
    t < 16 → u < 16 → v < 16 → w < 16 →
    n ≡ (t * 16 + u) * 256 + (v * 16 + w) → literal_of 16 (a ∷ b ∷ c ∷ d ∷ []) ≡ Some (Literal n)
unfolding literal_of
four_read a b c d t u v w n p q r s ht hu hv hw e =
    let small : min 65536 ((((0 * 16 + t) * 16 + u) * 16 + v) * 16 + w) ≡ n = omega arith in
    rw (below a t p ht, below b u q hu, below c v r hv, below d w s hw, p, q, r, s, small)

pub hex4_read : (n : ℕ) → n < 65536 → literal_of 16 (hex4 n) ≡ Some (Literal n)
unfolding hex4 hex2
hex4_read n h =
    let high : n / 256 % 256 ≡ n / 256 % 256 / 16 % 16 * 16 + n / 256 % 256 % 16 = omega arith in
    let low : n % 256 ≡ n % 256 / 16 % 16 * 16 + n % 256 % 16 = omega arith in
    let whole : n ≡ n / 256 % 256 * 256 + n % 256 = omega arith in
    four_read (front_digit (n / 256 % 256)) (back_digit (n / 256 % 256)) (front_digit (n % 256)) (back_digit (n % 256))
    (n / 256 % 256 / 16 % 16) (n / 256 % 256 % 16) (n % 256 / 16 % 16) (n % 256 % 16) n
    (digit_is _ (high_digit (n / 256 % 256))) (digit_is _ (low_digit (n / 256 % 256)))
    (digit_is _ (high_digit (n % 256))) (digit_is _ (low_digit (n % 256)))
    (high_digit (n / 256 % 256)) (low_digit (n / 256 % 256)) (high_digit (n % 256)) (low_digit (n % 256))
    (omega (arith, high, low, whole))
