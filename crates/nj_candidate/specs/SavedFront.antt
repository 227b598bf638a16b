-- The words of a saved front. All of it is this project's own.
use Rattle.std.specs.Prelude.{ℕ, ◌*◌, List, map, take, drop}
use Rattle.std.specs.List.{range_with_len}
use Rattle.nj_search_defs.specs.Game.{Word}
use Rattle.nj_saved.specs.declared.saved.Saved.{Saved}
use Rattle.nj_saved.specs.Ranges.{words_of}

-- the word at this place among words of so many pads, which stand one behind the other
abbrev pub word_at : List ℕ → ℕ → ℕ → Word
word_at pads long place = take long (drop (place * long) pads)

-- the words of a saved front
unfoldable pub front_in : Saved → List Word
front_in saved = map (word_at saved.words saved.step) (range_with_len 0 (words_of saved))
