-- The rule on the words once more, as a grammar: one line for each sentence of it.
use Rattle.std.specs.Prelude.{◌≡◌, ◌<◌, ◌⊎◌, ◌++◌, ◌↔◌, false, List, [], ◌∷◌, None, Some, codes}
use Rattle.std.specs.Prelude.{length, map}
use Rattle.std.specs.List.{list_any}
use Rattle.nj_words.specs.Words.{Piece, Word, begins_with_hyphen, is_equals_sign, name, option}
use Rattle.nj_words.specs.Words.{pieces}

-- a lone `-`, or a word that does not begin with `-`; our own
abbrev pub IsName : Word → Type 0
IsName word = (word ≡ codes "-") ⊎ (begins_with_hyphen word ≡ false)

-- no `=` stands in the word; our own
abbrev pub HasNoEquals : Word → Type 0
HasNoEquals word = list_any is_equals_sign word ≡ false

-- the words say the pieces: none say nothing; behind `--` all are names; a name may come; an option
-- may come as `--label=value`, or as `--label` and a value that does not begin with `-`; our own
pub data Says : List Word → List Piece → Type 0 where
  nothing : Says [] []
  mark : (words : List Word) → Says (codes "--" ∷ words) (map name words)
  named : (word : Word) (words : List Word) (rest : List Piece) → IsName word → Says words rest
      → Says (word ∷ words) (name word ∷ rest)
  joined : (label value : Word) (words : List Word) (rest : List Piece) → HasNoEquals label
      → Says words rest
      → Says ((codes "--" ++ (label ++ (codes "=" ++ value))) ∷ words) (option label value ∷ rest)
  apart : (label value : Word) (words : List Word) (rest : List Piece) → HasNoEquals label
      → 0 < length label → begins_with_hyphen value ≡ false → Says words rest
      → Says ((codes "--" ++ label) ∷ value ∷ words) (option label value ∷ rest)

-- the pieces of words are what the grammar lets them say
abbrev pub PiecesAreSaid : Type 0
PiecesAreSaid = (words : List Word) (found : List Piece)
    → (pieces None words ≡ Some found) ↔ Says words found
