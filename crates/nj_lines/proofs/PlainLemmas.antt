-- Texts without line feeds.
use Rattle.std.proofs.Common.{ℕ, suc, ◌≡◌, ◌<◌, ◌+◌, ◌^◌, ◌%◌, ◌==◌, Bool, true, false, cond, not, ℤ, pos, negsuc, List, [], ◌∷◌, ◌++◌, length, refl, arith}
use Rattle.std.specs.Prelude.{FitsSigned}
use Rattle.std.specs.Int.{w64}
use Rattle.std.specs.Fmt.{decimal, signed_decimal}
use Rattle.std.proofs.lemmas.Fmt.{decimal_by_steps}
use Rattle.std.proofs.lemmas.Bool.{ne_eqb}
use Rattle.nj_lines.specs.Lines.{text_len, IsPlain, IsEnded}

-- a byte before a text without line feeds
plain_by_test : (text : List ℕ) (feed : Bool) → cond (not feed) (1 + text_len text) 0 ≡ suc (length text) →
    (feed ≡ false) × IsPlain text
plain_by_test text true plain = absurd (omega arith)
plain_by_test text false plain = (refl, omega arith)

-- a line feed behind a text without any ends a line
pub IsEnded-plain : (text : List ℕ) → IsPlain text → IsEnded (text ++ 10 ∷ [])
IsEnded-plain [] plain = refl
IsEnded-plain (byte ∷ text) plain =
    let parts = plain_by_test text (byte == 10) plain in
    rw parts.0 (let rest = IsEnded-plain text parts.1 in omega arith)

-- two texts without line feeds
pub IsPlain-append : (front back : List ℕ) → IsPlain front → IsPlain back → IsPlain (front ++ back)
IsPlain-append [] back plain rest = rest
IsPlain-append (byte ∷ front) back plain rest =
    let parts = plain_by_test front (byte == 10) plain in
    rw parts.0 (let both = IsPlain-append front back parts.1 rest in omega arith)

-- one byte that is no line feed
IsPlain-byte : (byte : ℕ) → (byte ≡ 10 → ⊥) → IsPlain (byte ∷ [])
IsPlain-byte byte other = rw (ne_eqb byte 10 other)

-- a printed number
pub IsPlain-decimal : (n : ℕ) → n < 2 ^ 64 → IsPlain (decimal n)
IsPlain-decimal n below =
    decimal_by_steps (λ n digits. IsPlain digits)
    (λ n small. IsPlain-byte (48 + n) (λ same. omega arith))
    (λ n digits large plain. IsPlain-append digits ((48 + n % 10) ∷ []) plain
    (IsPlain-byte (48 + n % 10) (λ same. omega arith)))
    n below

pub IsPlain-signed : (n : ℤ) → FitsSigned w64 n → IsPlain (signed_decimal n)
IsPlain-signed (pos n) fits = IsPlain-decimal n (omega (arith, fits))
IsPlain-signed (negsuc n) fits =
    IsPlain-append (45 ∷ []) (decimal (suc n)) refl (IsPlain-decimal (suc n) (omega (arith, fits)))
