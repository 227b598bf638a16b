-- The first refusal of tests that stand in a row.
use Rattle.std.proofs.Common.{◌≡◌, ℕ, zero, suc, ◌+◌, ◌<◌, ◌≤◌, Bool, true, false, List, [], ◌∷◌, ◌++◌, inl, inr, refl, ap, ◌∙◌, arith, subst, add-one}
use Rattle.std.proofs.lemmas.Bool.{cases_lt}
use Rattle.std.specs.Prelude.{None, Some, if◌then◌else◌}
use Rattle.nj_saved.specs.declared.refusal.SavedRefused.{SavedRefused}
use Rattle.nj_saved.specs.Reading.{Test, first_refusal, tests_below}

-- nothing is refused of the tests
pub record Accepts (tests : List Test) : Type 0 where
  pub none : first_refusal tests ≡ None

-- what is refused of the first tests is refused of all
pub first_stays :
    (tests more : List Test) (refused : SavedRefused) → first_refusal tests ≡ Some refused →
    first_refusal (tests ++ more) ≡ Some refused
first_stays [] more refused is = absurd (cc)
first_stays (test ∷ tests) more refused is = by_test test.0 (first_stays tests more refused) is where
  by_test : (b : Bool) → (first_refusal tests ≡ Some refused → first_refusal (tests ++ more) ≡ Some refused) →
      (if b then Some test.1 else first_refusal tests) ≡ Some refused →
      (if b then Some test.1 else first_refusal (tests ++ more)) ≡ Some refused
  by_test true again is = is
  by_test false again is = again is

-- where nothing is refused of the first tests, the others decide
pub first_passes :
    (tests more : List Test) → first_refusal tests ≡ None → first_refusal (tests ++ more) ≡ first_refusal more
first_passes [] more is = refl
first_passes (test ∷ tests) more is = by_test test.0 (first_passes tests more) is where
  by_test : (b : Bool) → (first_refusal tests ≡ None → first_refusal (tests ++ more) ≡ first_refusal more) →
      (if b then Some test.1 else first_refusal tests) ≡ None →
      (if b then Some test.1 else first_refusal (tests ++ more)) ≡ first_refusal more
  by_test true again is = absurd (cc)
  by_test false again is = again is

-- what is refused of the tests below k is refused of those below each greater number
pub below_stays :
    (tests : ℕ → List Test) (k n : ℕ) (refused : SavedRefused) → k ≤ n →
    first_refusal (tests_below tests k) ≡ Some refused → first_refusal (tests_below tests n) ≡ Some refused
below_stays tests k zero refused low is =
    let e : k ≡ zero = omega (arith, low) in subst (λ m. first_refusal (tests_below tests m) ≡ Some refused) e is
below_stays tests k (suc n) refused low is =
    elim (cases_lt n k) [
      | inl above ↦
          let e : k ≡ suc n = omega (arith, low, above) in
          subst (λ m. first_refusal (tests_below tests m) ≡ Some refused) e is
      | inr below ↦ first_stays (tests_below tests n) (tests n) refused (below_stays tests k n refused below is)
    ]

-- the tests of the numbers below k refuse nothing, and those of k do
pub refused_at :
    (tests : ℕ → List Test) (k n : ℕ) (refused : SavedRefused) → k < n → first_refusal (tests_below tests k) ≡ None →
    first_refusal (tests k) ≡ Some refused → first_refusal (tests_below tests n) ≡ Some refused
refused_at tests k n refused below before is =
    below_stays tests (suc k) n refused (omega (arith, below))
    (first_passes (tests_below tests k) (tests k) before ∙ is)

-- nor do those of k
pub passed_at :
    (tests : ℕ → List Test) (k : ℕ) → first_refusal (tests_below tests k) ≡ None → first_refusal (tests k) ≡ None →
    first_refusal (tests_below tests (k + 1)) ≡ None
passed_at tests k before is =
    ap (λ m. first_refusal (tests_below tests m)) (add-one k)
    ∙ (first_passes (tests_below tests k) (tests k) before ∙ is)
