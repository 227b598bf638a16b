-- Printed numbers of any size have no line feed, and at most 64 digits.
use Rattle.std.proofs.Common.{ℕ, zero, suc, ◌≡◌, ◌≤◌, ◌+◌, ◌/◌, ◌%◌, ◌==◌, Bool, true, false, cond, ℤ, pos, negsuc, nat_lt, List, [], ◌∷◌, length, refl, arith}
use Rattle.std.specs.Fmt.{decimal, digit_glyph, digits, digits_onto, signed_decimal}
use Rattle.std.proofs.lemmas.Bool.{ne_eqb}
use Rattle.nj_lines.specs.Lines.{IsPlain}

-- a byte before a text without line feeds
plain_more : (byte : ℕ) (text : List ℕ) → (byte ≡ 10 → ⊥) → IsPlain text → IsPlain (byte ∷ text)
plain_more byte text other plain = rw (ne_eqb byte 10 other) (omega (arith, plain))

glyph_by : (b : Bool) (d : ℕ) → cond b (48 + d) (87 + d) ≡ 10 → ⊥
glyph_by true d same = omega arith
glyph_by false d same = omega arith

-- no digit is a line feed
glyph_other : (d : ℕ) → digit_glyph false d ≡ 10 → ⊥
glyph_other d same = glyph_by (nat_lt d 10) d same

plain_either : (b : Bool) (one more : List ℕ) → IsPlain one → IsPlain more → IsPlain (cond b one more)
plain_either true one more first rest = first
plain_either false one more first rest = rest

digits_plain : (k n : ℕ) (acc : List ℕ) → IsPlain acc → IsPlain (digits_onto k 10 false n acc)
digits_plain zero n acc plain = plain
digits_plain (suc k) n acc plain =
    let next = plain_more (digit_glyph false (n % 10)) acc (glyph_other (n % 10)) plain in
    plain_either (n / 10 == 0) (digit_glyph false (n % 10) ∷ acc)
    (digits_onto k 10 false (n / 10) (digit_glyph false (n % 10) ∷ acc)) next
    (digits_plain k (n / 10) (digit_glyph false (n % 10) ∷ acc) next)

short_either : (b : Bool) (one more : List ℕ) (k : ℕ) → length one ≤ k → length more ≤ k → length (cond b one more) ≤ k
short_either true one more k first rest = first
short_either false one more k first rest = rest

digits_short : (k n : ℕ) (acc : List ℕ) → length (digits_onto k 10 false n acc) ≤ k + length acc
digits_short zero n acc = omega arith
digits_short (suc k) n acc =
    let rest = digits_short k (n / 10) (digit_glyph false (n % 10) ∷ acc) in
    short_either (n / 10 == 0) (digit_glyph false (n % 10) ∷ acc)
    (digits_onto k 10 false (n / 10) (digit_glyph false (n % 10) ∷ acc)) (suc k + length acc)
    (omega arith) (omega (arith, rest))

pub decimal_plain : (n : ℕ) → IsPlain (decimal n)
unfolding digits
decimal_plain n = digits_plain 64 n [] refl

pub decimal_short : (n : ℕ) → length (decimal n) ≤ 64
unfolding digits
decimal_short n = digits_short 64 n []

pub signed_plain : (n : ℤ) → IsPlain (signed_decimal n)
signed_plain (pos n) = decimal_plain n
signed_plain (negsuc n) = plain_more 45 (decimal (suc n)) (λ same. omega arith) (decimal_plain (suc n))

pub signed_short : (n : ℤ) → length (signed_decimal n) ≤ 65
signed_short (pos n) = omega (arith, decimal_short n)
signed_short (negsuc n) = omega (arith, decimal_short (suc n))
