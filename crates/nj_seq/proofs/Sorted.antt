-- A sorted rearrangement of a list is unique, where only equal elements tie: by counting, for each test,
-- the elements that pass it.
use Rattle.std.proofs.Common.{◌≡◌, ℕ, ◌+◌, ◌≤◌, ◌<◌, suc, Bool, true, false, List, [], ◌∷◌, length, get_or, refl, sym, ◌∙◌, ap, zero-add, arith, if◌then◌else◌}
use Rattle.std.specs.Prelude.{sum_by}
use Rattle.std.specs.Cmp.{IsStrictWeakOrder}
use Rattle.std.specs.List.Sorted.{IsPermutation, IsSortedBy}
use Rattle.std.proofs.lemmas.List.Sorted.{sum_by-IsPermutation, sorted_far}
use Rattle.std.proofs.lemmas.List.Sums.{sum_by-cons}

-- 1 for an element that passes the test, and 0 for another
abbrev one : {X : Type 0} → (X → Bool) → X → ℕ
one p x = if p x then 1 else 0

-- each test is passed by as many elements of either list
abbrev SameCounts : {X : Type 0} → List X → List X → Type 0
SameCounts {X} xs ys = (p : X → Bool) → sum_by (one p) xs ≡ sum_by (one p) ys

-- no element is below one before it
abbrev Ascends : {X : Type 0} → (X → X → Bool) → List X → Type 0
Ascends {X} lt xs = (i j : ℕ) (d : X) → i ≤ j → j < length xs → lt (get_or xs j d) (get_or xs i d) ≡ false

-- a test that no element passes has the count 0
none_pass : {X : Type 0} (p : X → Bool) (xs : List X) → ((k : ℕ) (d : X) → k < length xs → p (get_or xs k d) ≡ false)
    → sum_by (one p) xs ≡ 0
none_pass p [] none = refl
none_pass p (x ∷ xs) none =
    sum_by-cons (one p) x xs ∙ ap (λ b. (if b then 1 else 0) + sum_by (one p) xs) (none 0 x (omega arith))
    ∙ zero-add (sum_by (one p) xs) ∙ none_pass p xs (λ k d lt. none (suc k) d (omega arith))

-- where the count is 0, the first element does not pass
not_first : {X : Type 0} (p : X → Bool) (x : X) (xs : List X) → sum_by (one p) (x ∷ xs) ≡ 0 → p x ≡ false
not_first p x xs none = by_test (p x) (sym (sum_by-cons (one p) x xs) ∙ none) where
  by_test : (b : Bool) → (if b then 1 else 0) + sum_by (one p) xs ≡ 0 → b ≡ false
  by_test true sum = absurd (omega arith)
  by_test false sum = refl

-- the first element of an ascending list with the same counts is not above another's first
not_below : {X : Type 0} (lt : X → X → Bool) (x y : X) (xs ys : List X) → SameCounts (x ∷ xs) (y ∷ ys)
    → Ascends lt (y ∷ ys) → lt x y ≡ false
not_below lt x y xs ys same up =
    not_first (λ z. lt z y) x xs (same (λ z. lt z y)
    ∙ none_pass (λ z. lt z y) (y ∷ ys) (λ k d within. up 0 k d (omega arith) within))

-- without one first element the counts stay the same
tails_same : {X : Type 0} (x y : X) (xs ys : List X) → x ≡ y → SameCounts (x ∷ xs) (y ∷ ys) → SameCounts xs ys
tails_same x y xs ys is same p =
    let left = sum_by-cons (one p) x xs in
    let right = sum_by-cons (one p) y ys in
    let both = same p in
    let first : one p x ≡ one p y = ap (one p) is in
    omega arith

-- ascending lists with the same counts are equal
same_list : {X : Type 0} (lt : X → X → Bool) → ((x y : X) → lt x y ≡ false → lt y x ≡ false → x ≡ y)
    → (xs ys : List X) → SameCounts xs ys → Ascends lt xs → Ascends lt ys → xs ≡ ys
same_list lt ties [] [] same left right = refl
same_list lt ties [] (y ∷ ys) same left right =
    absurd (let count = same (λ _. true) in let more = sum_by-cons (λ _. 1) y ys in omega arith)
same_list lt ties (x ∷ xs) [] same left right =
    absurd (let count = same (λ _. true) in let more = sum_by-cons (λ _. 1) x xs in omega arith)
same_list lt ties (x ∷ xs) (y ∷ ys) same left right =
    let first : x ≡ y =
    ties x y (not_below lt x y xs ys same right) (not_below lt y x ys xs (λ p. sym (same p)) left) in
    let rest : xs ≡ ys = same_list lt ties xs ys (tails_same x y xs ys first same)
    (λ i j d le within. left (suc i) (suc j) d (omega arith) (omega arith))
    (λ i j d le within. right (suc i) (suc j) d (omega arith) (omega arith)) in
    cc

-- a sorted rearrangement of a list is unique, where only equal elements tie
pub sorted_unique : {X : Type 0} (lt : X → X → Bool) → IsStrictWeakOrder lt
    → ((x y : X) → lt x y ≡ false → lt y x ≡ false → x ≡ y)
    → (xs ys : List X) → IsPermutation xs ys → IsSortedBy lt xs → IsSortedBy lt ys → xs ≡ ys
sorted_unique lt order ties xs ys moved left right =
    same_list lt ties xs ys (λ p. sym (sum_by-IsPermutation (one p) xs ys moved)) (sorted_far lt order xs left)
    (sorted_far lt order ys right)
