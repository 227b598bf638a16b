-- What is refused of a saved file, as one list of tests in the order of the fields. The format is our own.
use Rattle.std.specs.Prelude.{ℕ, zero, suc, ◌+◌, ◌*◌, ◌≤◌, ◌==◌, Bool, not, ◌||◌, ◌&&◌, nat_le, nat_lt, List, [], ◌∷◌, ◌++◌, length, take, sum_by, Option, Some, None, Result, Ok, Err, if◌then◌else◌}
use Rattle.std.specs.Int.{is_in_range}
use Rattle.std.specs.List.{list_any}
use Rattle.nj_bytes.specs.Fnv.{fnv_of}
use Rattle.nj_saved.specs.declared.saved.Saved.{Saved}
use Rattle.nj_saved.specs.declared.refusal.SavedRefused.{SavedRefused}
use Rattle.nj_saved.specs.declared.refusal.SavedRefused.TheVariants.{NotSaved, Version, OtherCartridge, OtherScript, Short, Range, Trailing, Damaged}
use Rattle.nj_saved.specs.Fields.{is_named, u32_at, u64_at, version_of, step_of, front_of, count_of, words_end, place_of, key_place, key_before, generations_below, keys_end, contents_of}

-- a test: whether it refuses, and with what
abbrev pub Test : Type 0
Test = Bool × SavedRefused

-- the file ends before the place, where a field ends
abbrev pub cut : List ℕ → ℕ → Test
cut file end = (nat_lt (length file) end, Short (length file))

-- the number of four bytes at the place is out of its range
abbrev pub outside : List ℕ → ℕ → ℕ → ℕ → Test
outside file at low high = (not (is_in_range low high (u32_at file at)), Range at)

-- the count of words is 1 to 2^20, and they have at most 2^26 pads
abbrev pub is_front : ℕ → ℕ → Bool
is_front step front = is_in_range 1 1048576 front && nat_le (front * step) 67108864

-- the fields that say what the file is of: name, version, the numbers of the cartridge and of the script with the start
unfoldable pub identity_tests : List ℕ → ℕ → ℕ → List Test
identity_tests file cart script =
    (not (is_named file), NotSaved)
    ∷ cut file 8 ∷ (not (version_of file == 1 || version_of file == 2), Version (version_of file))
    ∷ cut file 16 ∷ (not (u64_at file 8 == cart), OtherCartridge (u64_at file 8) cart)
    ∷ cut file 24 ∷ (not (u64_at file 16 == script), OtherScript (u64_at file 16) script) ∷ []

-- the fields up to the generations: step, count of words, level and last step of the mark, count of generations, words
unfoldable pub size_tests : List ℕ → List Test
size_tests file =
    cut file 28 ∷ outside file 24 1 16777215
    ∷ cut file 32 ∷ (not (is_front (step_of file) (front_of file)), Range 28)
    ∷ cut file 36 ∷ outside file 32 0 128
    ∷ cut file 40 ∷ outside file 36 0 33554432
    ∷ cut file 44 ∷ outside file 40 1 (step_of file + 1)
    ∷ cut file (words_end file) ∷ []

-- how many keys generations have
abbrev pub key_count : List (List ℕ) → ℕ
key_count generations = sum_by length generations

-- one of the generations has the key
abbrev pub has_key : List (List ℕ) → ℕ → Bool
has_key generations key = list_any (λ keys. list_any (λ k. k == key) keys) generations

-- the k-th key of the generation whose count stands at the place: above the one before it (the first is not 0), and in
-- no older generation
unfoldable pub key_tests : List ℕ → List (List ℕ) → ℕ → ℕ → List Test
key_tests file older at k =
    cut file (key_place at k + 8)
    ∷ (
      nat_le (u64_at file (key_place at k)) (key_before file at k) || has_key older (u64_at file (key_place at k)),
      Range (key_place at k),
    )
    ∷ []

-- the tests of the numbers below n, in order
abbrev pub tests_below : (ℕ → List Test) → ℕ → List Test
tests_below tests zero = []
tests_below tests (suc n) = tests_below tests n ++ tests n

-- the count of a generation behind the older ones: it is at least 1, and all counts come to at most 2^25
unfoldable pub count_tests : List ℕ → List (List ℕ) → ℕ → List Test
count_tests file older at =
    cut file (at + 4)
    ∷ (not (nat_le 1 (u32_at file at) && nat_le (key_count older + u32_at file at) 33554432), Range at)
    ∷ []

-- a generation: its count, and then its keys
unfoldable pub generation_tests : List ℕ → List (List ℕ) → ℕ → List Test
generation_tests file older at = count_tests file older at ++ tests_below (key_tests file older at) (u32_at file at)

-- all generations
unfoldable pub generations_tests : List ℕ → List Test
generations_tests file =
    tests_below (λ g. generation_tests file (generations_below file g) (place_of file g)) (count_of file)

-- nothing stands behind the last field
abbrev pub trailing : List ℕ → ℕ → Test
trailing file end = (nat_lt end (length file), Trailing end)

-- the hash of all bytes before the place stands there, and nothing behind it
unfoldable pub hash_tests : List ℕ → ℕ → List Test
hash_tests file end =
    cut file (end + 8)
    ∷ (not (u64_at file end == fnv_of (take end file)), Damaged (u64_at file end) (fnv_of (take end file)))
    ∷ trailing file (end + 8) ∷ []

-- what stands behind the last key: with version 2 the hash, with version 1 nothing
unfoldable pub tail_tests : List ℕ → ℕ → List Test
tail_tests file end = if version_of file == 2 then hash_tests file end else trailing file end ∷ []

-- all tests of a file, in the order of its fields
unfoldable pub tests_of : List ℕ → ℕ → ℕ → List Test
tests_of file cart script =
    identity_tests file cart script ++ (size_tests file ++ (generations_tests file ++ tail_tests file (keys_end file)))

-- the first test that refuses
abbrev pub first_refusal : List Test → Option SavedRefused
first_refusal [] = None
first_refusal (test ∷ tests) = if test.0 then Some test.1 else first_refusal tests

-- the refusal, if there is one, else the saved search
abbrev pub accepted_unless : Option SavedRefused → Saved → Result Saved SavedRefused
accepted_unless (Some refusal) saved = Err refusal
accepted_unless None saved = Ok saved

-- the reading of a file, for the numbers of cartridge and script of now: its first refusal, else what it contains
unfoldable pub saved_of : List ℕ → ℕ → ℕ → Result Saved SavedRefused
saved_of file cart script = accepted_unless (first_refusal (tests_of file cart script)) (contents_of file)

-- what holds of a file whose fields before the generations are all there and in their ranges
pub record HasHead (file : List ℕ) : Type 0 where
  pub head : 44 ≤ length file
  pub whole : words_end file ≤ length file
  pub first_step : 1 ≤ step_of file
  pub last_step : step_of file ≤ 16777215
  pub some_words : 1 ≤ front_of file
  pub most_words : front_of file ≤ 1048576
  pub most_pads : front_of file * step_of file ≤ 67108864
  pub level : u32_at file 32 ≤ 128
  pub until : u32_at file 36 ≤ 33554432
  pub some_generations : 1 ≤ count_of file
  pub most_generations : count_of file ≤ step_of file + 1
