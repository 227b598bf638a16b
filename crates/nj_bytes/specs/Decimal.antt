-- Numbers in text: 1 to 20 decimal digits with a value below 2^64. The form is ours.
use Rattle.std.specs.Prelude.{◌≡◌, ℕ, ◌^◌, ◌<◌, ◌≤◌, Bool, true, ◌&&◌, nat_le, nat_lt, List, length, Option, Some, None, if◌then◌else◌}
use Rattle.std.specs.Char.{is_ascii_digit}
use Rattle.std.specs.List.{list_all}
use Rattle.std.specs.Str.Parse.{digits_value}

-- the text is a number: 1 to 20 of the digits `0` to `9`, whose value fits 64 bits
pub record IsDecimal (text : List ℕ) : Type 0 where
  pub digits : list_all is_ascii_digit text ≡ true
  pub some : 0 < length text
  pub few : length text ≤ 20
  pub fits : digits_value 10 text < 2 ^ 64

-- whether the text is a number
unfoldable pub is_decimal : List ℕ → Bool
is_decimal text =
    list_all is_ascii_digit text && nat_lt 0 (length text) && nat_le (length text) 20
    && nat_lt (digits_value 10 text) (2 ^ 64)

-- the number that the text is, if it is one
unfoldable pub decimal_of : List ℕ → Option ℕ
decimal_of text = if is_decimal text then Some (digits_value 10 text) else None
