-- What holds of each saved search. The limits are our own.
use Rattle.std.specs.Prelude.{◌≡◌, ◌≢◌, ℕ, ◌+◌, ◌*◌, ◌/◌, ◌^◌, ◌<◌, ◌≤◌, false, List, [], ◌∷◌, length, take, slice_index, slice_index_or}
use Rattle.std.specs.List.{All, AllPairs, concat}
use Rattle.std.specs.List.Sorted.{IsStrictlyIncreasing}
use Rattle.nj_saved.specs.declared.saved.Saved.{Saved}
use Rattle.nj_saved.specs.Reading.{key_count, has_key}

-- the words of the front: as many as the pads are times the step
abbrev pub words_of : Saved → ℕ
words_of saved = length saved.words / saved.step

-- keys are a generation behind the older ones: at least one, none of them 0, strictly rising, in no older generation
pub record IsNext (older : List (List ℕ)) (keys : List ℕ) : Type 0 where
  pub some : 1 ≤ length keys
  pub rising : IsStrictlyIncreasing (0 ∷ keys)
  pub new : (k : ℕ) → k < length keys → has_key older (slice_index keys k) ≡ false

-- each generation is one behind those before it
abbrev pub AreGenerations : List (List ℕ) → Type 0
AreGenerations generations =
    (g : ℕ) → g < length generations → IsNext (take g generations) (slice_index_or generations g [])

-- the same in the words of lists: each generation has a key, its keys rise from above 0, and no key comes twice in all
pub record ComeOnce (generations : List (List ℕ)) : Type 0 where
  pub some : All (λ keys. 1 ≤ length keys) generations
  pub rising : All (λ keys. IsStrictlyIncreasing (0 ∷ keys)) generations
  pub once : AllPairs (λ a b. a ≢ b) (concat generations)

-- the ranges of the fields
pub record IsInRange (saved : Saved) : Type 0 where
  pub first_step : 1 ≤ saved.step
  pub last_step : saved.step ≤ 16777215
  pub whole : words_of saved * saved.step ≡ length saved.words
  pub some_words : 1 ≤ words_of saved
  pub most_words : words_of saved ≤ 1048576
  pub most_pads : length saved.words ≤ 67108864
  pub level : saved.level ≤ 128
  pub until : saved.until ≤ 33554432
  pub some_generations : 1 ≤ length saved.generations
  pub most_generations : length saved.generations ≤ saved.step + 1
  pub most_keys : key_count saved.generations ≤ 33554432
  pub generations : AreGenerations saved.generations

-- the numbers fit their fields of eight bytes
pub record Fits (saved : Saved) : Type 0 where
  pub cart : saved.cart < 2 ^ 64
  pub script : saved.script < 2 ^ 64
  pub keys : (g k : ℕ) → slice_index (slice_index_or saved.generations g []) k < 2 ^ 64
