-- The fields of a saved file, by their places. The format is our own: each number has its least byte first.
use Rattle.std.specs.Prelude.{ℕ, zero, suc, ◌+◌, ◌*◌, Bool, nat_eq, List, [], ◌∷◌, ◌++◌, take, slice_range}
use Rattle.std.specs.Int.{w32, w64, from_le_bytes}
use Rattle.std.specs.List.{starts_with}
use Rattle.nj_saved.specs.declared.saved.Saved.{Saved}

-- the file's first four bytes, `NJSV`
unfoldable pub file_name : List ℕ
file_name = 78 ∷ 74 ∷ 83 ∷ 86 ∷ []

-- the first four bytes, as many as there are, are those of the name
unfoldable pub is_named : List ℕ → Bool
is_named file = starts_with nat_eq file_name (take 4 file)

-- the number of four bytes at a place
unfoldable pub u32_at : List ℕ → ℕ → ℕ
u32_at file at = from_le_bytes w32 (slice_range file at (at + 4))

-- the number of eight bytes at a place
unfoldable pub u64_at : List ℕ → ℕ → ℕ
u64_at file at = from_le_bytes w64 (slice_range file at (at + 8))

-- the field of the head that tells the version
abbrev pub version_of : List ℕ → ℕ
version_of file = u32_at file 4

-- that of the step
abbrev pub step_of : List ℕ → ℕ
step_of file = u32_at file 24

-- that of the count of words
abbrev pub front_of : List ℕ → ℕ
front_of file = u32_at file 28

-- that of the count of generations
abbrev pub count_of : List ℕ → ℕ
count_of file = u32_at file 40

-- where the words of the front end
unfoldable pub words_end : List ℕ → ℕ
words_end file = 44 + front_of file * step_of file

-- the values of a function at the numbers below n, in order
abbrev pub list_below : {A : Type 0} → (ℕ → A) → ℕ → List A
list_below f zero = []
list_below f (suc n) = list_below f n ++ f n ∷ []

-- the place of a generation's count of keys: the first stands behind the words, each other behind the keys before it
abbrev pub place_of : List ℕ → ℕ → ℕ
place_of file zero = words_end file
place_of file (suc g) = place_of file g + 4 + 8 * u32_at file (place_of file g)

-- the place of a key of the generation whose count stands at a place
abbrev pub key_place : ℕ → ℕ → ℕ
key_place at k = at + 4 + 8 * k

-- the key before the k-th of a generation, 0 before the first
abbrev pub key_before : List ℕ → ℕ → ℕ → ℕ
key_before file at zero = 0
key_before file at (suc k) = u64_at file (key_place at k)

-- the keys of the generation whose count stands at a place
abbrev pub keys_at : List ℕ → ℕ → List ℕ
keys_at file at = list_below (λ k. u64_at file (key_place at k)) (u32_at file at)

-- the first generations of the file, oldest first
abbrev pub generations_below : List ℕ → ℕ → List (List ℕ)
generations_below file g = list_below (λ h. keys_at file (place_of file h)) g

-- the end of the last key
abbrev pub keys_end : List ℕ → ℕ
keys_end file = place_of file (count_of file)

-- the saved search that the fields are
unfoldable pub contents_of : List ℕ → Saved
contents_of file = record {
  cart = u64_at file 8;
  script = u64_at file 16;
  step = step_of file;
  level = u32_at file 32;
  until = u32_at file 36;
  words = slice_range file 44 (words_end file);
  generations = generations_below file (count_of file);
}
