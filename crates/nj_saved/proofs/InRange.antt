-- A file of which nothing is refused has its fields in their ranges.
use Rattle.std.proofs.Common.{◌≡◌, ℕ, zero, suc, ◌+◌, ◌-◌, ◌*◌, ◌/◌, ◌<◌, ◌≤◌, false, List, [], ◌∷◌, length, take, drop, slice_index, slice_index_or, slice_range, inl, inr, refl, sym, ap, ◌∙◌, subst, arith, add-one, nat_le, leb-true, leb-false, length-drop, length-take, mul-div_cancel, take_all}
use lib.ListN.{get_or-append}
use Rattle.std.specs.Prelude.{None}
use Rattle.std.proofs.lemmas.Bool.{cases_lt, not-false, and_parts, or_parts}
use Rattle.std.proofs.lemmas.List.{length_push, get_or_push, take-append-le}
use Rattle.nj_saved.specs.Fields.{u32_at, u64_at, list_below, place_of, key_place, key_before, keys_at, generations_below, count_of, front_of, step_of, words_end, contents_of}
use Rattle.nj_saved.specs.Reading.{Test, first_refusal, tests_below, key_tests, count_tests, generation_tests, generations_tests, key_count, has_key, HasHead}
use Rattle.nj_saved.specs.Ranges.{IsNext, AreGenerations, IsInRange}
use Rattle.nj_saved.specs.Steps.{AreGenerationsTo}
use Rattle.nj_saved.proofs.Refusals.{Accepts}
use Rattle.nj_saved.proofs.Accepted.{first_of, others_of, this_passes, then_passes}

-- ---- the values of a function below a number

pub length_below : {A : Type 0} (f : ℕ → A) (n : ℕ) → length (list_below f n) ≡ n
length_below f zero = refl
length_below f (suc n) = length_push (list_below f n) (f n) ∙ (ap (λ m. m + 1) (length_below f n) ∙ add-one n)

pub at_below : {A : Type 0} (f : ℕ → A) (d : A) (n k : ℕ) → k < n → slice_index_or (list_below f n) k d ≡ f k
at_below f d zero k below = absurd (omega (arith, below))
at_below f d (suc n) k below =
    elim (cases_lt k n) [
      | inl inside ↦
          let far : k < length (list_below f n) =
          (let e : length (list_below f n) ≡ n = length_below f n in omega (arith, e, inside)) in
          get_or-append (list_below f n) (f n ∷ []) d k far ∙ at_below f d n k inside
      | inr last ↦ let e : k ≡ n = omega (arith, below, last) in
          get_or_push (list_below f n) (f n) d k (length_below f n ∙ sym e) ∙ ap f (sym e)
    ]

take_below : {A : Type 0} (f : ℕ → A) (n k : ℕ) → k ≤ n → take k (list_below f n) ≡ list_below f k
take_below f zero k low =
    let e : k ≡ zero = omega (arith, low) in ap (λ m. take m (list_below f zero)) e ∙ ap (list_below f) (sym e)
take_below f (suc n) k low =
    elim (cases_lt n k) [
      | inl above ↦ let e : k ≡ suc n = omega (arith, low, above) in
          take_all k (list_below f (suc n))
          (let m : length (list_below f (suc n)) ≡ suc n = length_below f (suc n) in omega (arith, m, e))
          ∙ ap (list_below f) (sym e)
      | inr below ↦
          take-append-le k (list_below f n) (f n ∷ [])
          (let m : length (list_below f n) ≡ n = length_below f n in omega (arith, m, below))
          ∙ take_below f n k below
    ]

-- of tests of which nothing is refused, nothing is refused at each number
pub passes_at :
    (tests : ℕ → List Test) (n k : ℕ) → k < n → first_refusal (tests_below tests n) ≡ None →
    first_refusal (tests k) ≡ None
passes_at tests zero k below is = absurd (omega (arith, below))
passes_at tests (suc n) k below is =
    elim (cases_lt k n) [
      | inl inside ↦ passes_at tests n k inside (first_of (tests_below tests n) (tests n) is)
      | inr last ↦
          let e : n ≡ k = omega (arith, below, last) in
          subst (λ m. first_refusal (tests m) ≡ None) e (others_of (tests_below tests n) (tests n) is)
    ]

-- ---- a generation

module _ (file : List ℕ) (older : List (List ℕ)) (at : ℕ)
    (accepted : first_refusal (generation_tests file older at) ≡ None) where
  count : ℕ
  count = u32_at file at

  counted : length (keys_at file at) ≡ u32_at file at
  counted = length_below (λ k. u64_at file (key_place at k)) (u32_at file at)

  some : 1 ≤ u32_at file at
  unfolding generation_tests count_tests
  some =
      let all : Accepts (count_tests file older at) =
      record {
        none =
            first_of (count_tests file older at) (tests_below (key_tests file older at) (u32_at file at)) accepted;
      } in
      leb-true 1 (u32_at file at)
      (and_parts (nat_le 1 (u32_at file at)) (nat_le (key_count older + u32_at file at) 33554432)
      (not-false _ (this_passes (then_passes all)))).0

  key_accepted : (k : ℕ) → k < u32_at file at → first_refusal (key_tests file older at k) ≡ None
  unfolding generation_tests
  key_accepted k below =
      passes_at (key_tests file older at) (u32_at file at) k below
      (others_of (count_tests file older at) (tests_below (key_tests file older at) (u32_at file at)) accepted)

  key_parts : (k : ℕ) → k < u32_at file at →
      (nat_le (u64_at file (key_place at k)) (key_before file at k) ≡ false)
      × (has_key older (u64_at file (key_place at k)) ≡ false)
  unfolding key_tests
  key_parts k below =
      let all : Accepts (key_tests file older at k) = record { none = key_accepted k below } in
      or_parts (nat_le (u64_at file (key_place at k)) (key_before file at k))
      (has_key older (u64_at file (key_place at k)))
      (this_passes (then_passes all))

  key_is : (k : ℕ) → k < u32_at file at → slice_index (keys_at file at) k ≡ u64_at file (key_place at k)
  key_is k below = at_below (λ j. u64_at file (key_place at j)) 0 (u32_at file at) k below

  before_is : (k : ℕ) → k < u32_at file at → slice_index (0 ∷ keys_at file at) k ≡ key_before file at k
  before_is zero below = refl
  before_is (suc k) below = key_is k (omega (arith, below))

  rises :
      (k : ℕ) → k + 1 < length (0 ∷ keys_at file at) →
      slice_index (0 ∷ keys_at file at) k < slice_index (0 ∷ keys_at file at) (k + 1)
  rises k inside =
      let all : length (keys_at file at) ≡ u32_at file at = counted in
      let below : k < u32_at file at = omega (arith, inside, all) in
      let above : key_before file at k < u64_at file (key_place at k) =
      leb-false (u64_at file (key_place at k)) (key_before file at k) (key_parts k below).0 in
      let left : slice_index (0 ∷ keys_at file at) k ≡ key_before file at k = before_is k below in
      let right : slice_index (0 ∷ keys_at file at) (suc k) ≡ u64_at file (key_place at k) = key_is k below in
      subst (λ m. slice_index (0 ∷ keys_at file at) k < slice_index (0 ∷ keys_at file at) m) (sym (add-one k))
      (omega (arith, above, left, right))

  pub is_next : IsNext older (keys_at file at)
  is_next = record {
    some =
        (let all : length (keys_at file at) ≡ u32_at file at = counted in
        let n : 1 ≤ u32_at file at = some in omega (arith, all, n));
    rising = rises;
    new = λ k inside. (let all : length (keys_at file at) ≡ u32_at file at = counted in
        let below : k < u32_at file at = omega (arith, inside, all) in
        ap (has_key older) (key_is k below) ∙ (key_parts k below).1);
  }

-- ---- all generations

are_generations :
    (file : List ℕ) → first_refusal (generations_tests file) ≡ None →
    AreGenerations (generations_below file (count_of file))
unfolding generations_tests
are_generations file accepted g inside =
    let all : length (generations_below file (count_of file)) ≡ count_of file =
    length_below (λ h. keys_at file (place_of file h)) (count_of file) in
    let below : g < count_of file = omega (arith, inside, all) in
    let here : IsNext (generations_below file g) (keys_at file (place_of file g)) =
    is_next file (generations_below file g) (place_of file g)
    (passes_at (λ h. generation_tests file (generations_below file h) (place_of file h)) (count_of file) g below
    accepted) in
    subst (λ older. IsNext older (slice_index_or (generations_below file (count_of file)) g []))
    (sym (take_below (λ h. keys_at file (place_of file h)) (count_of file) g (omega (arith, below))))
    (subst (IsNext (generations_below file g))
    (sym (at_below (λ h. keys_at file (place_of file h)) [] (count_of file) g below)) here)

-- the words are as many pads as their count and the step say
words_size :
    (file : List ℕ) → HasHead file → length (slice_range file 44 (words_end file)) ≡ front_of file * step_of file
unfolding words_end
words_size file head =
    let whole : 44 + front_of file * step_of file ≤ length file = head.whole in
    let left : length (drop 44 file) ≡ length file - 44 = length-drop 44 file in
    length-take (44 + front_of file * step_of file - 44) (drop 44 file) ∙ omega (arith, whole, left)

front_is : (front step size : ℕ) → 1 ≤ step → size ≡ front * step → size / step ≡ front
front_is front step size some is = ap (λ n. n / step) is ∙ mul-div_cancel front some

-- the fields of a file of which nothing is refused are in their ranges
pub contents_in_range :
    (file : List ℕ) (generations : List (List ℕ)) (end : ℕ) → HasHead file → AreGenerationsTo file generations end →
    IsInRange (contents_of file)
unfolding contents_of
contents_in_range file generations end head read =
    let size : length (slice_range file 44 (words_end file)) ≡ front_of file * step_of file = words_size file head in
    let words : length (slice_range file 44 (words_end file)) / step_of file ≡ front_of file =
    front_is (front_of file) (step_of file) _ head.first_step size in
    let all : length (generations_below file (count_of file)) ≡ count_of file =
    length_below (λ h. keys_at file (place_of file h)) (count_of file) in
    record {
      first_step = head.first_step;
      last_step = head.last_step;
      whole = ap (λ n. n * step_of file) words ∙ sym size;
      some_words = subst (λ n. 1 ≤ n) (sym words) head.some_words;
      most_words = subst (λ n. n ≤ 1048576) (sym words) head.most_words;
      most_pads = subst (λ n. n ≤ 67108864) (sym size) head.most_pads;
      level = head.level;
      until = head.until;
      some_generations = subst (λ n. 1 ≤ n) (sym all) head.some_generations;
      most_generations = subst (λ n. n ≤ step_of file + 1) (sym all) head.most_generations;
      most_keys = subst (λ gs. key_count gs ≤ 33554432) read.read read.few;
      generations = are_generations file read.accepted;
    }
