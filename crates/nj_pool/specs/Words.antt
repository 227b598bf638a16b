-- The words of a front by their parents in the fronts before. The form is our own.
use Rattle.std.specs.Prelude.{ℕ, ◌+◌, ◌<◌, List, [], ◌∷◌, ◌++◌, map, length, get_or}
use Rattle.std.specs.List.{All}
use Rattle.nj_pool.specs.declared.birth.Birth.{Birth}

-- the word of a birth: its parent's word and its pad
abbrev pub child_word : List (List ℕ) → Birth → List ℕ
child_word words birth = get_or words birth.parent [] ++ birth.pad ∷ []

-- the words of births from these words
abbrev pub child_words : List (List ℕ) → List Birth → List (List ℕ)
child_words words born = map (child_word words) born

-- each parent is a place in the front before
abbrev pub HaveParents : List (List ℕ) → List Birth → Type 0
HaveParents words born = All (λ birth. birth.parent < length words) born

-- the words after these steps of births
abbrev pub words_after : List (List ℕ) → List (List Birth) → List (List ℕ)
words_after words [] = words
words_after words (born ∷ later) = words_after (child_words words born) later

-- in each step each parent is a place in the front before
abbrev pub IsLinked : List (List ℕ) → List (List Birth) → Type 0
IsLinked words [] = Unit {0}
IsLinked words (born ∷ later) = HaveParents words born × IsLinked (child_words words born) later

-- the words of a trail, and the number of steps that made them from its first words
pub record Grown : Type 0 where
  pub words : List (List ℕ)
  pub depth : ℕ

-- the words after one step more
abbrev pub grown : List Birth → Grown → Grown
grown born trail = record { words = child_words trail.words born; depth = trail.depth + 1 }
