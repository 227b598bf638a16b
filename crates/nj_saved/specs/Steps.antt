-- What the pieces of the reading come to. The format is our own.
use Rattle.std.specs.Prelude.{◌≡◌, ℕ, ◌+◌, ◌*◌, ◌≤◌, List, length, None}
use Rattle.nj_saved.specs.Fields.{u32_at, count_of, keys_at, generations_below, keys_end}
use Rattle.nj_saved.specs.Reading.{key_count, key_tests, tests_below, generation_tests, generations_tests, first_refusal}

-- the keys of the generation whose count stands at the place, of which nothing is refused
pub record AreKeys (file : List ℕ) (older : List (List ℕ)) (at : ℕ) (keys : List ℕ) : Type 0 where
  pub accepted : first_refusal (tests_below (key_tests file older at) (u32_at file at)) ≡ None
  pub read : keys ≡ keys_at file at
  pub counted : length keys ≡ u32_at file at
  pub there : at + 4 + 8 * length keys ≤ length file

-- the generation whose count stands at the place, of which nothing is refused
pub record IsNextGeneration (file : List ℕ) (older : List (List ℕ)) (at : ℕ) (keys : List ℕ) : Type 0 where
  pub accepted : first_refusal (generation_tests file older at) ≡ None
  pub read : keys ≡ keys_at file at
  pub counted : length keys ≡ u32_at file at
  pub there : at + 4 + 8 * length keys ≤ length file
  pub few : key_count older + length keys ≤ 33554432

-- all generations of the file, of which nothing is refused, and where they end
pub record AreGenerationsTo (file : List ℕ) (generations : List (List ℕ)) (end : ℕ) : Type 0 where
  pub accepted : first_refusal (generations_tests file) ≡ None
  pub read : generations ≡ generations_below file (count_of file)
  pub ends : end ≡ keys_end file
  pub there : end ≤ length file
  pub few : key_count generations ≤ 33554432
