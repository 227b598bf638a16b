-- The loops of the reading, key by key and generation by generation.
use Rattle.std.proofs.Common.{◌≡◌, ◌⊎◌, inl, inr, ℕ, ◌+◌, ◌*◌, ◌<◌, ◌≤◌, List, [], ◌∷◌, ◌++◌, length, MatchResult, refl, sym, ap, ap₂, ◌∙◌, subst, arith, add-one}
use Rattle.std.specs.Prelude.{None, Some, Result, Ok, Err}
use Rattle.std.proofs.lemmas.List.{length_push}
use Rattle.nj_saved.specs.declared.refusal.SavedRefused.{SavedRefused}
use Rattle.nj_saved.specs.declared.refusal.SavedRefused.TheVariants.{NoMemory}
use Rattle.nj_saved.specs.Fields.{u32_at, u64_at, list_below, place_of, key_place, key_before, keys_at, generations_below, count_of, words_end}
use Rattle.nj_saved.specs.Reading.{Test, first_refusal, tests_below, key_tests, count_tests, generation_tests, generations_tests, key_count}
use Rattle.nj_saved.specs.Steps.{AreKeys, IsNextGeneration, AreGenerationsTo}
use Rattle.nj_saved.proofs.Keys.{key_count_more}
use Rattle.nj_saved.proofs.Refusals.{first_stays, first_passes, refused_at, passed_at}

-- ---- keys

-- the first k keys of a generation were read, and nothing of them is refused
pub record AreKeysTo (file : List ℕ) (older : List (List ℕ)) (at k : ℕ) (keys : List ℕ) (last : ℕ) : Type 0 where
  pub accepted : first_refusal (tests_below (key_tests file older at) k) ≡ None
  pub read : keys ≡ list_below (λ j. u64_at file (key_place at j)) k
  pub counted : length keys ≡ k
  pub before : last ≡ key_before file at k
  pub there : key_place at k ≤ length file

pub no_keys :
    (file : List ℕ) (older : List (List ℕ)) (at : ℕ) (keys : List ℕ) → at + 4 ≤ length file → keys ≡ [] →
    AreKeysTo file older at 0 keys 0
no_keys file older at keys there none =
    record { accepted = refl; read = none; counted = ap length none; before = refl; there = omega (arith, there) }

pub one_key :
    (file : List ℕ) (older : List (List ℕ)) (at k : ℕ) (keys : List ℕ) (last key : ℕ) (more : List ℕ) →
    AreKeysTo file older at k keys last →
    first_refusal (key_tests file older at k) ≡ None → key ≡ u64_at file (key_place at k) →
    key_place at k + 8 ≤ length file → more ≡ keys ++ key ∷ [] →
    AreKeysTo file older at (k + 1) more key
one_key file older at k keys last key more are passes is there pushed =
    record {
      accepted = passed_at (key_tests file older at) k are.accepted passes;
      read =
          pushed
          ∙ (ap₂ (λ xs x. xs ++ x ∷ []) are.read is
          ∙ ap (list_below (λ j. u64_at file (key_place at j))) (sym (add-one k)));
      counted = ap length pushed ∙ (length_push keys key ∙ ap (λ n. n + 1) are.counted);
      before = is ∙ ap (key_before file at) (sym (add-one k));
      there = omega (arith, there);
    }

pub all_keys :
    (file : List ℕ) (older : List (List ℕ)) (at k : ℕ) (keys : List ℕ) (last : ℕ) →
    AreKeysTo file older at k keys last → k ≡ u32_at file at → AreKeys file older at keys
all_keys file older at k keys last are end =
    let count : length keys ≡ k = are.counted in
    let there : key_place at k ≤ length file = are.there in
    record {
      accepted = subst (λ n. first_refusal (tests_below (key_tests file older at) n) ≡ None) end are.accepted;
      read = are.read ∙ ap (list_below (λ j. u64_at file (key_place at j))) end;
      counted = count ∙ end;
      there = omega (arith, count, there);
    }

pub key_refused :
    (file : List ℕ) (older : List (List ℕ)) (at k : ℕ) (keys : List ℕ) (last : ℕ) (refused : SavedRefused) →
    AreKeysTo file older at k keys last →
    k < u32_at file at → first_refusal (key_tests file older at k) ≡ Some refused →
    first_refusal (tests_below (key_tests file older at) (u32_at file at)) ≡ Some refused
key_refused file older at k keys last refused are below is =
    refused_at (key_tests file older at) k (u32_at file at) refused below are.accepted is

-- ---- a generation

pub count_refused :
    (file : List ℕ) (older : List (List ℕ)) (at : ℕ) (refused : SavedRefused) →
    first_refusal (count_tests file older at) ≡ Some refused →
    first_refusal (generation_tests file older at) ≡ Some refused
unfolding generation_tests
count_refused file older at refused is =
    first_stays (count_tests file older at) (tests_below (key_tests file older at) (u32_at file at)) refused is

keys_passed :
    (file : List ℕ) (older : List (List ℕ)) (at : ℕ) → first_refusal (count_tests file older at) ≡ None →
    first_refusal (generation_tests file older at)
    ≡ first_refusal (tests_below (key_tests file older at) (u32_at file at))
unfolding generation_tests
keys_passed file older at is =
    first_passes (count_tests file older at) (tests_below (key_tests file older at) (u32_at file at)) is

-- what a call for the keys gives, it gives for the generation
pub generation_read :
    (file : List ℕ) (older : List (List ℕ)) (at count : ℕ) (r : Result (List ℕ) SavedRefused) →
    first_refusal (count_tests file older at) ≡ None →
    count ≡ u32_at file at → key_count older + count ≤ 33554432 →
    MatchResult r (λ keys. AreKeys file older at keys)
    (λ refused. (refused ≡ NoMemory)
    ⊎ (first_refusal (tests_below (key_tests file older at) (u32_at file at)) ≡ Some refused)) →
    MatchResult r (λ keys. IsNextGeneration file older at keys)
    (λ refused. (refused ≡ NoMemory) ⊎ (first_refusal (generation_tests file older at) ≡ Some refused))
generation_read file older at count (Ok keys) passes is few are =
    let counted : length keys ≡ u32_at file at = are.counted in
    record {
      accepted = keys_passed file older at passes ∙ are.accepted;
      read = are.read;
      counted = counted;
      there = are.there;
      few = omega (arith, few, is, counted);
    }
generation_read file older at count (Err refused) passes is few (inl memory) = inl memory
generation_read file older at count (Err refused) passes is few (inr first) =
    inr (keys_passed file older at passes ∙ first)

-- ---- all generations

-- the tests of a generation, by its number
abbrev numbered : List ℕ → ℕ → List Test
numbered file g = generation_tests file (generations_below file g) (place_of file g)

-- the first g generations were read, and nothing of them is refused
pub record AreGenerationsBelow (file : List ℕ) (g : ℕ) (older : List (List ℕ)) (at : ℕ) : Type 0 where
  pub accepted :
      first_refusal (tests_below (λ h. generation_tests file (generations_below file h) (place_of file h)) g) ≡ None
  pub read : older ≡ generations_below file g
  pub place : at ≡ place_of file g
  pub there : at ≤ length file
  pub few : key_count older ≤ 33554432

pub no_generations :
    (file : List ℕ) (older : List (List ℕ)) (at : ℕ) → older ≡ [] → at ≡ words_end file → words_end file ≤ length file →
    AreGenerationsBelow file 0 older at
no_generations file older at none is there =
    let count : key_count older ≡ 0 = ap key_count none in
    record { accepted = refl; read = none; place = is; there = omega (arith, is, there); few = omega (arith, count) }

-- the generation at the place is that of its number
is_numbered :
    (file : List ℕ) (g : ℕ) (older : List (List ℕ)) (at : ℕ) → AreGenerationsBelow file g older at →
    generation_tests file older at ≡ numbered file g
is_numbered file g older at are = ap₂ (generation_tests file) are.read are.place

pub one_generation :
    (file : List ℕ) (g : ℕ) (older : List (List ℕ)) (at : ℕ) (keys : List ℕ) (more : List (List ℕ)) (next : ℕ) →
    AreGenerationsBelow file g older at →
    IsNextGeneration file older at keys → more ≡ older ++ keys ∷ [] → next ≡ at + (4 + 8 * length keys) →
    AreGenerationsBelow file (g + 1) more next
one_generation file g older at keys more next are is pushed moved =
    let there : at + 4 + 8 * length keys ≤ length file = is.there in
    let same : next ≡ at + 4 + 8 * length keys = omega (arith, moved) in
    let few : key_count older + length keys ≤ 33554432 = is.few in
    let count : key_count more ≡ key_count older + length keys = ap key_count pushed ∙ key_count_more older keys in
    record {
      accepted =
          passed_at (numbered file) g are.accepted
          (ap first_refusal (sym (is_numbered file g older at are)) ∙ is.accepted);
      read =
          pushed
          ∙ (ap₂ (λ gs x. gs ++ x ∷ []) are.read (is.read ∙ ap (keys_at file) are.place)
          ∙ ap (generations_below file) (sym (add-one g)));
      place =
          same
          ∙ (ap (λ n. at + 4 + 8 * n) is.counted
          ∙ (ap (λ p. p + 4 + 8 * u32_at file p) are.place ∙ ap (place_of file) (sym (add-one g))));
      there = omega (arith, same, there);
      few = omega (arith, count, few);
    }

pub generation_refused :
    (file : List ℕ) (g : ℕ) (older : List (List ℕ)) (at : ℕ) (refused : SavedRefused) →
    AreGenerationsBelow file g older at → g < count_of file →
    first_refusal (generation_tests file older at) ≡ Some refused →
    first_refusal (generations_tests file) ≡ Some refused
unfolding generations_tests
generation_refused file g older at refused are below is =
    refused_at (numbered file) g (count_of file) refused below are.accepted
    (ap first_refusal (sym (is_numbered file g older at are)) ∙ is)

pub all_generations :
    (file : List ℕ) (g : ℕ) (older : List (List ℕ)) (at : ℕ) → AreGenerationsBelow file g older at → g ≡ count_of file →
    AreGenerationsTo file older at
unfolding generations_tests
all_generations file g older at are end =
    record {
      accepted = subst (λ n. first_refusal (tests_below (numbered file) n) ≡ None) end are.accepted;
      read = are.read ∙ ap (generations_below file) end;
      ends = are.place ∙ ap (place_of file) end;
      there = are.there;
      few = are.few;
    }
