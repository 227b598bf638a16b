-- The words of a source: blanks, names and the parts of a text. The form of a source is our own, after the usual
-- assemblers of the 6502.
use Rattle.std.specs.Prelude.{ℕ, ◌-◌, ◌==◌, Bool, ◌&&◌, ◌||◌, not, nat_lt, List, length, take, drop, slice_index, Option, Some, None, if◌then◌else◌}
use Rattle.std.specs.Char.{is_ascii_alphanumeric, is_ascii_digit}
use Rattle.std.specs.List.{list_all, suffix_len, position_or_len}
use Rattle.std.specs.Str.{bytes_eq}

-- a blank: a space or a tab
abbrev pub is_blank : ℕ → Bool
is_blank byte = (byte == 32) || (byte == 9)

-- an ASCII letter, a digit or an underscore
abbrev pub is_name_byte : ℕ → Bool
is_name_byte byte = is_ascii_alphanumeric byte || (byte == 95)

-- a name: such bytes, the first no digit
unfoldable pub is_name : List ℕ → Bool
is_name text = nat_lt 0 (length text) && not (is_ascii_digit (slice_index text 0)) && list_all is_name_byte text

-- how many blanks a text begins with
abbrev pub blanks_before : List ℕ → ℕ
blanks_before text = position_or_len (λ b. not (is_blank b)) text

-- the text without the blanks that it begins with
abbrev pub without_start : List ℕ → List ℕ
without_start text = drop (blanks_before text) text

-- the text without the blanks that it ends with
abbrev pub without_end : List ℕ → List ℕ
without_end text = take (length text - suffix_len is_blank text) text

-- how many bytes stand before the first such byte, all where there is none
abbrev pub length_before : ℕ → List ℕ → ℕ
length_before byte text = position_or_len (λ b. b == byte) text

-- what stands between these two ends, if the text has them
unfoldable pub between : List ℕ → List ℕ → List ℕ → Option (List ℕ)
between front back text =
    if bytes_eq (take (length front) text) front
    then (if bytes_eq (drop (length (drop (length front) text) - length back) (drop (length front) text)) back
    then Some (take (length (drop (length front) text) - length back) (drop (length front) text))
    else None)
    else None
