-- Nothing is refused of generations that stand at their places and are in their ranges.
use Rattle.std.proofs.Common.{◌≡◌, ℕ, zero, suc, ◌+◌, ◌*◌, ◌<◌, ◌≤◌, ◌&&◌, not, Bool, true, false, List, [], ◌∷◌, ◌++◌, length, take, slice_index, slice_index_or, refl, ap, ◌∙◌, subst, arith, le-ltb, le-leb, nat_le, add-one}
use Rattle.std.specs.Prelude.{None}
use Rattle.std.proofs.lemmas.Bool.{lt-leb, or_from}
use Rattle.std.proofs.lemmas.List.Sums.{sum_by_more, sum_by-take-le}
use Rattle.nj_saved.specs.declared.refusal.SavedRefused.{SavedRefused}
use Rattle.nj_saved.specs.Fields.{u32_at, u64_at, place_of, key_place, key_before, generations_below}
use Rattle.nj_saved.specs.Reading.{Test, first_refusal, tests_below, key_tests, count_tests, generation_tests, key_count, has_key}
use Rattle.nj_saved.specs.Ranges.{IsNext, AreGenerations}
use Rattle.nj_saved.proofs.Refusals.{Accepts, first_passes}
use Rattle.nj_saved.proofs.Placed.{IsKeyAt, IsGenerationAt}

-- a test that passes, and then those behind it
pub passes :
    {b : Bool} {refused : SavedRefused} {tests : List Test} → b ≡ false → Accepts tests → Accepts ((b, refused) ∷ tests)
passes {b = true} is rest = absurd (cc)
passes {b = false} is rest = record { none = rest.none }

pub no_more : Accepts []
no_more = record { none = refl }

-- the tests below n pass
pub below_pass :
    (tests : ℕ → List Test) (n : ℕ) → ((k : ℕ) → k < n → first_refusal (tests k) ≡ None) →
    first_refusal (tests_below tests n) ≡ None
below_pass tests zero pass = refl
below_pass tests (suc n) pass =
    first_passes (tests_below tests n) (tests n) (below_pass tests n (λ k below. pass k (omega (arith, below))))
    ∙ pass n (omega arith)

pub both_pass :
    (tests more : List Test) → first_refusal tests ≡ None → first_refusal more ≡ None →
    first_refusal (tests ++ more) ≡ None
both_pass tests more is rest = first_passes tests more is ∙ rest

not_true : (b : Bool) → b ≡ true → not b ≡ false
not_true true is = refl
not_true false is = absurd (cc)

-- the key before the k-th is that of the list with 0 in front
key_before_is :
    (file keys rest : List ℕ) (at k : ℕ) → IsGenerationAt file keys rest at → k ≤ length keys →
    key_before file at k ≡ slice_index (0 ∷ keys) k
key_before_is file keys rest at zero is fits = refl
key_before_is file keys rest at (suc k) is fits = (is.each k (omega (arith, fits))).is

-- each key passes
key_passes :
    (file keys rest : List ℕ) (older : List (List ℕ)) (at k : ℕ) → IsGenerationAt file keys rest at →
    IsNext older keys → k < length keys →
    first_refusal (key_tests file older at k) ≡ None
unfolding key_tests
key_passes file keys rest older at k is next inside =
    let here : IsKeyAt file keys (at + 4) k = is.each k inside in
    let key : u64_at file (key_place at k) ≡ slice_index keys k = here.is in
    let far : at + 4 + 8 * k + 8 ≤ length file = here.there in
    let before : key_before file at k ≡ slice_index (0 ∷ keys) k =
    key_before_is file keys rest at k is (omega (arith, inside)) in
    let rises : slice_index (0 ∷ keys) k < slice_index keys k =
    subst (λ m. slice_index (0 ∷ keys) k < slice_index (0 ∷ keys) m) (add-one k) (next.rising k (omega (arith, inside)))
    in
    let above : key_before file at k < u64_at file (key_place at k) = omega (arith, key, before, rises) in
    let all : Accepts (key_tests file older at k) =
    passes (le-ltb (length file) (key_place at k + 8) far)
    (passes
    (or_from _ _ (lt-leb (u64_at file (key_place at k)) (key_before file at k) above)
    (ap (has_key older) key ∙ next.new k inside)) no_more) in
    all.none

-- a generation passes
pub generation_passes :
    (file keys rest : List ℕ) (older : List (List ℕ)) (at : ℕ) → IsGenerationAt file keys rest at → IsNext older keys →
    key_count older + length keys ≤ 33554432 → first_refusal (generation_tests file older at) ≡ None
unfolding generation_tests count_tests
generation_passes file keys rest older at is next few =
    let count : u32_at file at ≡ length keys = is.count in
    let some : 1 ≤ length keys = next.some in
    let in_range : (nat_le 1 (u32_at file at) && nat_le (key_count older + u32_at file at) 33554432) ≡ true =
    ap (λ n. nat_le 1 n && nat_le (key_count older + n) 33554432) count
    ∙ (ap (λ b. b && nat_le (key_count older + length keys) 33554432) (le-leb 1 (length keys) some)
    ∙ le-leb (key_count older + length keys) 33554432 few) in
    let counted : Accepts (count_tests file older at) =
    passes (le-ltb (length file) (at + 4) is.there) (passes (not_true _ in_range) no_more) in
    both_pass (count_tests file older at) (tests_below (key_tests file older at) (u32_at file at)) counted.none
    (below_pass (key_tests file older at) (u32_at file at)
    (λ k below. key_passes file keys rest older at k is next (omega (arith, below, count))))

-- all generations pass
pub generations_pass :
    (file : List ℕ) (generations : List (List ℕ)) (rest : ℕ → List ℕ) →
    ((g : ℕ) → g < length generations →
    IsGenerationAt file (slice_index_or generations g []) (rest g) (place_of file g)) →
    ((n : ℕ) → n ≤ length generations → generations_below file n ≡ take n generations) → AreGenerations generations →
    key_count generations ≤ 33554432 →
    first_refusal
    (tests_below (λ g. generation_tests file (generations_below file g) (place_of file g)) (length generations))
    ≡ None
generations_pass file generations rest there are ranges few =
    below_pass (λ g. generation_tests file (generations_below file g) (place_of file g)) (length generations)
    (λ g inside.
    let older : generations_below file g ≡ take g generations = are g (omega (arith, inside)) in
    let more : key_count (take (g + 1) generations)
    ≡ key_count (take g generations) + length (slice_index_or generations g []) =
    sum_by_more length generations g [] inside in
    let most : key_count (take (g + 1) generations) ≤ key_count generations =
    sum_by-take-le length generations (g + 1) in
    let within : key_count (take g generations) + length (slice_index_or generations g []) ≤ 33554432 =
    omega (arith, more, most, few) in
    ap (λ older. first_refusal (generation_tests file older (place_of file g))) older
    ∙ generation_passes file (slice_index_or generations g []) (rest g) (take g generations) (place_of file g)
    (there g inside) (ranges g inside) within)
