-- The lines of a text of bytes. A line ends with a line feed, which belongs to it (POSIX.1, "Line"; that the last one
-- may lack it is our own, after POSIX.1, "Incomplete Line").
use Rattle.std.specs.Prelude.{◌≡◌, ◌<◌, ◌≤◌, ℕ, ◌+◌, ◌-◌, ◌==◌, nat_eq, if◌then◌else◌, List, [], ◌∷◌, length, take}
use Rattle.std.specs.List.{ends_with, position_or_len}

-- a byte put before the first line
abbrev pub joined : ℕ → List (List ℕ) → List (List ℕ)
joined byte [] = (byte ∷ []) ∷ []
joined byte (line ∷ rest) = (byte ∷ line) ∷ rest

-- the lines of the bytes, each with its end (POSIX.1, "Line")
abbrev pub lines : List ℕ → List (List ℕ)
lines [] = []
lines (byte ∷ bytes) = if byte == 10 then (byte ∷ []) ∷ lines bytes else joined byte (lines bytes)

-- the line without this at its end, if it ends so (our own)
abbrev pub without : List ℕ → List ℕ → List ℕ
without end line = if ends_with nat_eq line end then take (length line - length end) line else line

-- how many bytes stand before the first line feed
abbrev pub text_len : List ℕ → ℕ
text_len line = position_or_len (λ byte. byte == 10) line

-- there is no line feed
abbrev pub IsPlain : List ℕ → Type 0
IsPlain text = text_len text ≡ length text

-- the first line feed is the last byte (POSIX.1, "Line")
abbrev pub IsEnded : List ℕ → Type 0
IsEnded line = text_len line + 1 ≡ length line

-- there are bytes, and no line feed before the last one (POSIX.1, "Line" and "Incomplete Line")
abbrev pub IsLast : List ℕ → Type 0
IsLast line = (0 < length line) × (length line ≤ text_len line + 1)

-- every line is ended but the last, which may be (POSIX.1, "Line" and "Incomplete Line")
abbrev pub AreLines : List (List ℕ) → Type 0
AreLines [] = Unit {0}
AreLines (line ∷ []) = IsLast line
AreLines (line ∷ next ∷ rest) = IsEnded line × AreLines (next ∷ rest)
