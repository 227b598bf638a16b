-- What reading a number from text rests on.
use Rattle.std.proofs.Common.{◌≡◌, ◌↔◌, ℕ, ◌<◌, ◌≤◌, ◌^◌, Bool, true, false, List, length, Option, Some, None, IsSome, is_some, if◌then◌else◌, Result, Ok, Err, refl, sym, ◌∙◌, ap, arith, rules}
use Rattle.std.specs.Bool.{Decides}
use Rattle.std.specs.Char.{is_ascii_digit}
use Rattle.std.specs.List.{list_all}
use Rattle.std.specs.Result.{OkIff, result_ok}
use Rattle.std.specs.Str.Parse.{digits_value, ParsesUnsigned}
use Rattle.std.proofs.lemmas.Bool.Decides.{nat_tests}
use Rattle.std.proofs.lemmas.Str.Parse.{IsNumeralModel, numerals_by_value, parse_digits}
use Rattle.nj_bytes.specs.Decimal.{IsDecimal, is_decimal, decimal_of}

-- the digits that the test passes are the numerals of std
numerals : IsNumeralModel (λ text. list_all is_ascii_digit text ≡ true) (digits_value 10)
numerals = numerals_by_value _ (search rules)

-- the test passes exactly the numbers
pub is_decimal-Decides : (text : List ℕ) → Decides (is_decimal text) (IsDecimal text)
unfolding is_decimal
is_decimal-Decides text = (
  (λ passed. record {
    digits = grind (arith, nat_tests);
    some = grind (arith, nat_tests);
    few = grind (arith, nat_tests);
    fits = grind (arith, nat_tests);
  }),
  (λ is. let digits = is.digits in let some = is.some in let few = is.few in let fits =
      is.fits in grind (arith, nat_tests)),
)

-- a text that is no number gives none
pub no_decimal : (text : List ℕ) → (IsDecimal text → ⊥) → None ≡ decimal_of text
unfolding decimal_of
no_decimal text not_one = by_test (is_decimal text) (is_decimal-Decides text) where
  by_test : (b : Bool) → Decides b (IsDecimal text) → None ≡ (if b then Some (digits_value 10 text) else None)
  by_test true d = absurd (not_one (d.0 refl))
  by_test false d = refl

-- a number gives its value
pub some_decimal : (text : List ℕ) → IsDecimal text → Some (digits_value 10 text) ≡ decimal_of text
unfolding decimal_of
some_decimal text one =
    ap (λ b. if b then Some (digits_value 10 text) else None) (sym ((is_decimal-Decides text).1 one))

-- there is a number exactly where the text is one
pub decimal_exactly : (text : List ℕ) (o : Option ℕ) → o ≡ decimal_of text → IsSome o ↔ IsDecimal text
unfolding decimal_of
decimal_exactly text o is = by_test (is_decimal text) (is_decimal-Decides text) is where
  by_test : (b : Bool) → Decides b (IsDecimal text) → o ≡ (if b then Some (digits_value 10 text) else None)
      → IsSome o ↔ IsDecimal text
  by_test true d same = ((λ _. d.0 refl), (λ _. ap is_some same))
  by_test false d same = (
    (λ some. absurd (let none : is_some o ≡ false = ap is_some same in let there : is_some o ≡ true = some in cc)),
    (λ one. absurd (let clash = d.1 one in cc)),
  )

-- what the parse of at most 20 digits gives is what the text is as a number
pub parsed : {E : Type 0} (text : List ℕ) (r : Result ℕ E) → ParsesUnsigned 64 10 text r
    → list_all is_ascii_digit text ≡ true → length text ≤ 20
    → result_ok r ≡ decimal_of text
parsed {E = E} text r parses digits few = by_result r (parse_digits numerals 64 text r parses digits) where
  by_result : (s : Result ℕ E) → OkIff s ((0 < length text) × (digits_value 10 text < 2 ^ 64)) (digits_value 10 text)
      → result_ok s ≡ decimal_of text
  by_result (Ok x) is =
      ap Some is.1 ∙ some_decimal text (record { digits = digits; some = is.0.0; few = few; fits = is.0.1 })
  by_result (Err e) is = no_decimal text (λ one. is (one.some, one.fits))
