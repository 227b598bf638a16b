-- The candidates of a step: each word of the front, extended by each pad that is allowed after it.
use Rattle.std.specs.Prelude.{ℕ, List, [], ◌∷◌, ◌++◌, ◌+◌, ◌*◌}
use Rattle.nj_search_defs.specs.Game.{Word, Game}

-- word i of a front extended by its allowed pad j, with the number 256 i + j
pub record Candidate : Type 0 where
  pub number : ℕ
  pub parent : Word
  pub pad : ℕ

-- the word that a candidate is: its parent and its pad
abbrev pub word_of : Candidate → Word
word_of c = c.parent ++ c.pad ∷ []

-- a word extended by each of these pads, numbered from here on
abbrev pub extensions : ℕ → Word → List ℕ → List Candidate
extensions number word [] = []
extensions number word (pad ∷ pads) =
    record { number = number; parent = word; pad = pad } ∷ extensions (number + 1) word pads

-- the candidates of these words, the first of them being word i of the front
abbrev pub candidates_from : Game → ℕ → List Word → List Candidate
candidates_from game i [] = []
candidates_from game i (word ∷ words) =
    extensions (256 * i) word (game.allowed word) ++ candidates_from game (i + 1) words

-- the candidates of a front, by rising number
unfoldable pub candidates : Game → List Word → List Candidate
candidates game front = candidates_from game 0 front
