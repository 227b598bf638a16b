-- Lemmas on the words and numbers of a text.
use Rattle.std.proofs.Common.{ℕ, ◌≡◌, ◌≤◌, ◌<◌, ◌+◌, ◌*◌, ◌⊎◌, inl, inr, Bool, true, false, cond, not, List, [], ◌∷◌, length, drop, get_or, refl, sym, ap, ◌∙◌, arith, min, ltb, ◌&&◌, Some, None, unwrap_or, drop-cons, add-one, position}
use Rattle.std.proofs.Math.Nat.{mul-le-mul_left}
use Rattle.std.specs.Char.{digit_value}
use Rattle.std.specs.List.{position_or_len, list_all}
use Rattle.std.specs.Str.Parse.{digits_value_after}
use Rattle.std.proofs.lemmas.Bool.{ltb-false}
use Rattle.std.proofs.lemmas.Bool.Decides.{leb_tells, nat_tests}
use Rattle.std.specs.Str.{IsUtf8, IsAscii}
use Rattle.std.proofs.lemmas.Str.{IsUtf8-from_ascii}
use Rattle.std.proofs.lemmas.Str.Ascii.{IsAscii-nil, IsAscii-cons}
use Rattle.nj_asm_lines.specs.Words.{is_name_byte, is_name}
use Rattle.std.proofs.lemmas.List.Sums.{prefix_len-le-length}

-- the place that a search finds, or the end
place_or_end : (place end : ℕ) (found : Bool) → ltb place end ≡ found → place ≤ end
    → unwrap_or (cond found (Some place) None) end ≡ place
place_or_end place end true found within = refl
place_or_end place end false found within = let beyond : end ≤ place = ltb-false place end found in omega arith

pub first_or_end : (p : ℕ → Bool) (xs : List ℕ) → unwrap_or (position p xs) (length xs) ≡ position_or_len p xs
first_or_end p xs = place_or_end (position_or_len p xs) (length xs) _ refl (prefix_len-le-length (λ x. not (p x)) xs)

pub first_within : (p : ℕ → Bool) (xs : List ℕ) → position_or_len p xs ≤ length xs
first_within p xs = prefix_len-le-length (λ x. not (p x)) xs

-- a clipped number times a radix
pub product_fits : (n r : ℕ) → n ≤ 65536 → r ≤ 16 → n * r ≤ 1048576
product_fits n r small few = grind arith

-- a clipped number, one digit on
clip_both_by : (radix n d : ℕ) → 0 < radix → n ≤ 65536 ⊎ 65536 < n
    → min 65536 (min 65536 n * radix + d) ≡ min 65536 (n * radix + d)
clip_both_by radix n d some (inl small) = let same : min 65536 n ≡ n = omega arith in rw same
clip_both_by radix n d some (inr large) =
    let clipped : min 65536 n ≡ 65536 = omega arith in
    let one : 1 ≤ radix = omega arith in
    let more : n * 1 ≤ n * radix = mul-le-mul_left n one in
    rw clipped (omega (arith, more))

clip_both : (radix n d : ℕ) → 0 < radix → min 65536 (min 65536 n * radix + d) ≡ min 65536 (n * radix + d)
clip_both radix n d some =
    elim (leb_tells n 65536) [
      | inl t ↦ clip_both_by radix n d some (inl t.1)
      | inr t ↦ clip_both_by radix n d some (inr t.1)
    ]

-- a number may be clipped before its further digits are read
pub clip_early : (radix n : ℕ) (digits : List ℕ) → 0 < radix →
    min 65536 (digits_value_after radix (min 65536 n) digits) ≡ min 65536 (digits_value_after radix n digits)
clip_early radix n [] some = omega arith
clip_early radix n (digit ∷ digits) some =
    sym (clip_early radix (min 65536 n * radix + digit_value digit) digits some)
    ∙ ap (λ m. min 65536 (digits_value_after radix m digits)) (clip_both radix n (digit_value digit) some)
    ∙ clip_early radix (n * radix + digit_value digit) digits some

-- one digit of a number that is clipped as it is read
pub clipped_step : (radix number i next : ℕ) (text : List ℕ) (goal : ℕ) → 0 < radix → i < length text →
    next ≡ min 65536 (number * radix + digit_value (get_or text i 0)) →
    min 65536 (digits_value_after radix number (drop i text)) ≡ goal →
    min 65536 (digits_value_after radix next (drop (i + 1) text)) ≡ goal
clipped_step radix number i next text goal some within is before =
    ap (λ m. min 65536 (digits_value_after radix m (drop (i + 1) text))) is
    ∙ clip_early radix (number * radix + digit_value (get_or text i 0)) (drop (i + 1) text) some
    ∙ ap (λ (ds : List ℕ). min 65536 (digits_value_after radix number ds))
    (sym (drop-cons text i 0 within ∙ ap (λ n. get_or text i 0 ∷ drop n text) (sym (add-one i))))
    ∙ before

pub and_left : (a b : Bool) → (a && b) ≡ true → a ≡ true
and_left true b h = refl
and_left false b h = h

pub and_right : (a b : Bool) → (a && b) ≡ true → b ≡ true
and_right true b h = h
and_right false b h = absurd cc

-- each byte of a name is ASCII
name_byte_ascii : (byte : ℕ) → is_name_byte byte ≡ true → byte < 128
name_byte_ascii byte h = grind (arith, nat_tests)

IsAscii-from_name_bytes : (text : List ℕ) → list_all is_name_byte text ≡ true → IsAscii text
IsAscii-from_name_bytes [] h = IsAscii-nil
IsAscii-from_name_bytes (byte ∷ bytes) h =
    IsAscii-cons byte bytes (name_byte_ascii byte (and_left (is_name_byte byte) (list_all is_name_byte bytes) h))
    (IsAscii-from_name_bytes bytes (and_right (is_name_byte byte) (list_all is_name_byte bytes) h))

pub IsUtf8-from_name : (text : List ℕ) → is_name text ≡ true → IsUtf8 text
unfolding is_name
IsUtf8-from_name text h =
    IsUtf8-from_ascii text (IsAscii-from_name_bytes text (and_right _ (list_all is_name_byte text) h))
