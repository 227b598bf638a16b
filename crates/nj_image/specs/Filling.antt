-- How pages that are flagged are read from bytes: what the reader of packings is told by.
use Rattle.std.specs.Prelude.{ℕ, ◌+◌, ◌==◌, nat_lt, Bool, if◌then◌else◌, List, [], ◌∷◌, ◌++◌, length, take, drop, Option, Some, None}
use Rattle.std.specs.Str.{bytes_eq}

-- pages with those that are flagged taken from bytes, one behind the other, and the others from the base
abbrev pub merged : List Bool → List (List ℕ) → List ℕ → List ℕ
merged flags [] bytes = []
merged [] (base ∷ bases) bytes = []
merged (flag ∷ flags) (base ∷ bases) bytes =
    if flag then take 64 bytes ++ merged flags bases (drop 64 bytes) else base ++ merged flags bases bytes

-- further by so much, if at all
abbrev pub later : ℕ → Option ℕ → Option ℕ
later n None = None
later n (Some at) = Some (n + at)

-- where bytes cease to be flagged pages that differ from the base's: where they end too early, at the last byte of a
-- page that is the base's, or behind the last page
abbrev pub stop : List Bool → List (List ℕ) → List ℕ → Option ℕ
stop flags [] bytes = if length bytes == 0 then None else Some 0
stop [] (base ∷ bases) bytes = if length bytes == 0 then None else Some 0
stop (flag ∷ flags) (base ∷ bases) bytes =
    if flag then (
    if nat_lt (length bytes) 64 then Some (length bytes)
    else if bytes_eq (take 64 bytes) base then Some 63 else later 64 (stop flags bases (drop 64 bytes)))
    else stop flags bases bytes
