-- The values of the options that a command was given: numbers in a range, and names.
use Rattle.std.specs.Prelude.{◌&&◌, ℕ, Option, Some, None, if◌then◌else◌, nat_le, option_and_then}
use Rattle.std.specs.Prelude.{slice_get, unwrap_or}
use Rattle.nj_bytes.specs.Decimal.{decimal_of}
use Rattle.nj_words.specs.Words.{Taken, Word, is_nonempty}

-- the value of the option at a place of the form, or none where the option does not stand; our own
abbrev pub value_at : Taken → ℕ → Option Word
value_at taken place = unwrap_or (slice_get taken.values place) None

-- the number, where it is one from `low` to `high`; our own
abbrev pub in_range : ℕ → ℕ → ℕ → Option ℕ
in_range low high number = if nat_le low number && nat_le number high then Some number else None

-- the number that the word is, where it is one from `low` to `high`; our own
unfoldable pub number_in : ℕ → ℕ → Word → Option ℕ
number_in low high word = option_and_then (in_range low high) (decimal_of word)

-- the number that an option gives, or `otherwise` where the option does not stand; our own
unfoldable pub number_or : ℕ → ℕ → ℕ → Option Word → Option ℕ
number_or low high otherwise None = Some otherwise
number_or low high otherwise (Some word) = number_in low high word

-- the name that an option gives, which may not be empty, or none where it does not stand; our own
unfoldable pub name_or_none : Option Word → Option (Option Word)
name_or_none None = Some None
name_or_none (Some word) = if is_nonempty word then Some (Some word) else None
