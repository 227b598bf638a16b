-- What follows where nothing is refused of a file.
use Rattle.std.proofs.Common.{◌≡◌, ◌⊎◌, inl, inr, ℕ, ◌+◌, ◌≤◌, ◌==◌, ◌||◌, Bool, true, false, List, [], ◌∷◌, ◌++◌, length, take, refl, sym, ap, ◌∙◌, arith, ltb-false, eqb-true}
use Rattle.std.specs.Prelude.{Option, None, Some, Ok, if◌then◌else◌}
use Rattle.std.proofs.lemmas.Bool.{not-false, or_cases, cond-true, cond-false}
use Rattle.nj_bytes.specs.Fnv.{fnv_of}
use Rattle.nj_saved.specs.declared.saved.Saved.{Saved}
use Rattle.nj_saved.specs.declared.refusal.SavedRefused.{SavedRefused}
use Rattle.nj_saved.specs.Fields.{u64_at, version_of, keys_end, contents_of}
use Rattle.nj_saved.specs.Reading.{Test, first_refusal, accepted_unless, identity_tests, size_tests, generations_tests, hash_tests, trailing, tail_tests, tests_of, saved_of}
use Rattle.nj_saved.proofs.Refusals.{Accepts, first_passes}

-- nothing is refused of tests whose reading is accepted
pub accepted :
    (file : List ℕ) (cart script : ℕ) (saved : Saved) → saved_of file cart script ≡ Ok saved →
    first_refusal (tests_of file cart script) ≡ None
unfolding saved_of
accepted file cart script saved is = by_case (first_refusal (tests_of file cart script)) is where
  by_case : (refusal : Option SavedRefused) → accepted_unless refusal (contents_of file) ≡ Ok saved → refusal ≡ None
  by_case None is = refl
  by_case (Some refused) is = absurd (cc)

-- nor of the first of them
pub first_of : (tests more : List Test) → first_refusal (tests ++ more) ≡ None → first_refusal tests ≡ None
first_of [] more is = refl
first_of (test ∷ tests) more is = by_test test.0 (first_of tests more) is where
  by_test : (b : Bool) → (first_refusal (tests ++ more) ≡ None → first_refusal tests ≡ None) →
      (if b then Some test.1 else first_refusal (tests ++ more)) ≡ None →
      (if b then Some test.1 else first_refusal tests) ≡ None
  by_test true again is = absurd (cc)
  by_test false again is = again is

-- nor of the others
pub others_of : (tests more : List Test) → first_refusal (tests ++ more) ≡ None → first_refusal more ≡ None
others_of tests more is = sym (first_passes tests more (first_of tests more is)) ∙ is

-- one test, and then those behind it
pub this_passes : {b : Bool} {refused : SavedRefused} {tests : List Test} → Accepts ((b, refused) ∷ tests) → b ≡ false
this_passes {b = true} are = absurd (let is = are.none in cc)
this_passes {b = false} are = refl

pub then_passes :
    {b : Bool} {refused : SavedRefused} {tests : List Test} → Accepts ((b, refused) ∷ tests) → Accepts tests
then_passes {b = true} are = absurd (let is = are.none in cc)
then_passes {b = false} are = record { none = are.none }

-- a version that is accepted is 1 or 2
pub versions :
    (file : List ℕ) (cart script : ℕ) → first_refusal (identity_tests file cart script) ≡ None →
    (version_of file ≡ 1) ⊎ (version_of file ≡ 2)
unfolding identity_tests
versions file cart script is =
    let all : Accepts (identity_tests file cart script) = record { none = is } in
    let known : (version_of file == 1 || version_of file == 2) ≡ true =
    not-false _ (this_passes (then_passes (then_passes all))) in
    elim (or_cases (version_of file == 1) (version_of file == 2) known) [
      | inl e ↦ inl (eqb-true (version_of file) 1 e)
      | inr e ↦ inr (eqb-true (version_of file) 2 e)
    ]

-- what stands behind the last key of a file of version 2
pub record IsSealed (file : List ℕ) : Type 0 where
  pub hash : u64_at file (keys_end file) ≡ fnv_of (take (keys_end file) file)
  pub ends : keys_end file + 8 ≡ length file

-- nothing is refused of the name, the version and the numbers of cartridge and script, and of what stands behind the
-- keys
pub head_passes :
    (file : List ℕ) (cart script : ℕ) → first_refusal (tests_of file cart script) ≡ None →
    first_refusal (identity_tests file cart script) ≡ None
unfolding tests_of
head_passes file cart script is = first_of (identity_tests file cart script) _ is

pub tail_passes :
    (file : List ℕ) (cart script : ℕ) → first_refusal (tests_of file cart script) ≡ None →
    first_refusal (tail_tests file (keys_end file)) ≡ None
unfolding tests_of
tail_passes file cart script is =
    others_of (generations_tests file) _
    (others_of (size_tests file) _ (others_of (identity_tests file cart script) _ is))

pub sealed :
    (file : List ℕ) → version_of file ≡ 2 → first_refusal (tail_tests file (keys_end file)) ≡ None → IsSealed file
unfolding tail_tests hash_tests
sealed file version is =
    let passes : Accepts (hash_tests file (keys_end file)) =
    record { none = ap first_refusal (sym (cond-true (version_of file == 2) _ _ (ap (λ v. v == 2) version))) ∙ is } in
    let long : keys_end file + 8 ≤ length file = ltb-false (length file) (keys_end file + 8) (this_passes passes) in
    let short : length file ≤ keys_end file + 8 =
    ltb-false (keys_end file + 8) (length file) (this_passes (then_passes (then_passes passes))) in
    record {
      hash =
          eqb-true (u64_at file (keys_end file)) (fnv_of (take (keys_end file) file))
          (not-false _ (this_passes (then_passes passes)));
      ends = omega arith;
    }

pub ended :
    (file : List ℕ) → version_of file ≡ 1 → first_refusal (tail_tests file (keys_end file)) ≡ None →
    length file ≤ keys_end file
unfolding tail_tests
ended file version is =
    let passes : Accepts (trailing file (keys_end file) ∷ []) =
    record { none = ap first_refusal (sym (cond-false (version_of file == 2) _ _ (ap (λ v. v == 2) version))) ∙ is } in
    ltb-false (keys_end file) (length file) (this_passes passes)
