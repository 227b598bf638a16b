-- Strings of bytes that stand one behind the other. The form is our own.
use Rattle.std.specs.Prelude.{◌≡◌, ℕ, zero, suc, ◌≤◌, List, [], ◌∷◌, slice_range}

-- the strings in bytes, the first from a place on, each up to its end
abbrev pub strings_in : ℕ → List ℕ → List ℕ → List (List ℕ)
strings_in from [] bytes = []
strings_in from (end ∷ ends) bytes = slice_range bytes from end ∷ strings_in end ends bytes

-- no string ends before it begins, and the last ends where the bytes do
abbrev pub AreEnds : ℕ → List ℕ → ℕ → Type 0
AreEnds from [] last = from ≡ last
AreEnds from (end ∷ ends) last = (from ≤ end) × AreEnds end ends last

-- where the string at a place begins
abbrev pub start_in : ℕ → List ℕ → ℕ → ℕ
start_in from ends zero = from
start_in from [] (suc place) = from
start_in from (end ∷ ends) (suc place) = start_in end ends place
