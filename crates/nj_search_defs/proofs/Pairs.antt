-- Lists whose members are pairwise in a relation, and numbers in order.
use Rattle.std.proofs.Common.{◌≡◌, ◌≢◌, ℕ, zero, suc, ◌+◌, ◌<◌, ◌≤◌, Bool, true, false, cond, nat_lt, List, [], ◌∷◌, ◌++◌, length, refl, sym, ap, ◌∙◌, arith, ltb-true, append-nil, append_assoc}
use Rattle.std.specs.List.{All, AllPairs, concat}
use Rattle.std.specs.List.Sorted.{IsStrictlyIncreasing}
use Rattle.std.proofs.lemmas.Bool.{ltb-false}
use Rattle.std.proofs.lemmas.List.Elements.{All-nil, All-cons, All-head, All-tail, All-weaker, All-append}
use Rattle.std.proofs.lemmas.List.Kept.{AllPairs-cons}
use Rattle.nj_search_defs.specs.Order.{put_in, in_order}
use Rattle.nj_search_defs.proofs.Orders.{All-put_in, All-in_order}

module _ {X : Type 0} (R : X → X → Type 0) where
  pub AllPairs-nil : AllPairs R []
  AllPairs-nil i j d lt within = absurd (omega (arith, within))

  pub AllPairs-head : (x : X) (xs : List X) → AllPairs R (x ∷ xs) → All (R x) xs
  AllPairs-head x xs pairs k d within = pairs zero (suc k) d (omega arith) (omega (arith, within))

  pub AllPairs-tail : (x : X) (xs : List X) → AllPairs R (x ∷ xs) → AllPairs R xs
  AllPairs-tail x xs pairs i j d lt within = pairs (suc i) (suc j) d (omega (arith, lt)) (omega (arith, within))

  -- the pairs of the right one of two lists
  pub AllPairs-right : (xs ys : List X) → AllPairs R (xs ++ ys) → AllPairs R ys
  AllPairs-right [] ys pairs = pairs
  AllPairs-right (x ∷ xs) ys pairs = AllPairs-right xs ys (AllPairs-tail x (xs ++ ys) pairs)

  -- two lists, and each of the one with each of the other
  pub AllPairs-append : (xs ys : List X) → AllPairs R xs → AllPairs R ys → All (λ x. All (R x) ys) xs
      → AllPairs R (xs ++ ys)
  AllPairs-append [] ys left right across = right
  AllPairs-append (x ∷ xs) ys left right across =
      AllPairs-cons R x (xs ++ ys) (All-append (R x) xs ys (AllPairs-head x xs left)
      (All-head (λ y. All (R y) ys) x xs across))
      (AllPairs-append xs ys (AllPairs-tail x xs left) right (All-tail (λ y. All (R y) ys) x xs across))

-- the keys with a generation more
pub concat_push : (seen : List (List ℕ)) (keys : List ℕ) → concat (seen ++ keys ∷ []) ≡ concat seen ++ keys
concat_push [] keys = append-nil keys
concat_push (first ∷ later) keys =
    ap (λ xs. first ++ xs) (concat_push later keys) ∙ sym (append_assoc first (concat later) keys)

-- what holds of each key of each generation
pub All-concat : (P : ℕ → Type 0) (seen : List (List ℕ)) → All (All P) seen → All P (concat seen)
All-concat P [] all = All-nil P
All-concat P (keys ∷ later) all =
    All-append P keys (concat later) (All-head (All P) keys later all)
    (All-concat P later (All-tail (All P) keys later all))

-- ---- different numbers in order rise

put_up : (x : ℕ) (xs : List ℕ) → AllPairs (λ a b. a < b) xs → All (λ y. x ≢ y) xs
    → AllPairs (λ a b. a < b) (put_in nat_lt x xs)
put_up x [] up differ = AllPairs-cons (λ a b. a < b) x [] (All-nil (λ b. x < b)) up
put_up x (y ∷ ys) up differ =
    elim (nat_lt x y) as (λ b. nat_lt x y ≡ b
    → AllPairs (λ a b. a < b) (cond b (x ∷ y ∷ ys) (y ∷ put_in nat_lt x ys))) [
      | true ↦ λ e. (
          let less : x < y = ltb-true x y e in
          AllPairs-cons (λ a b. a < b) x (y ∷ ys)
          (All-cons (λ b. x < b) y ys less
          (All-weaker (λ b. y < b) (λ b. x < b) (λ b h. omega (arith, less, h)) ys
          (AllPairs-head (λ a b. a < b) y ys up))) up)
      | false ↦ λ e. (
          let least : y ≤ x = ltb-false x y e in
          let other : x ≢ y = All-head (λ b. x ≢ b) y ys differ in
          AllPairs-cons (λ a b. a < b) y (put_in nat_lt x ys)
          (All-put_in nat_lt (λ b. y < b) x ys (omega (arith, least, other)) (AllPairs-head (λ a b. a < b) y ys up))
          (put_up x ys (AllPairs-tail (λ a b. a < b) y ys up) (All-tail (λ b. x ≢ b) y ys differ)))
    ] refl

pub in_order_up : (xs : List ℕ) → AllPairs (λ a b. a ≢ b) xs → AllPairs (λ a b. a < b) (in_order nat_lt xs)
in_order_up [] differ = AllPairs-nil (λ a b. a < b)
in_order_up (x ∷ xs) differ =
    put_up x (in_order nat_lt xs) (in_order_up xs (AllPairs-tail (λ a b. a ≢ b) x xs differ))
    (All-in_order nat_lt (λ b. x ≢ b) xs (AllPairs-head (λ a b. a ≢ b) x xs differ))

-- numbers of which each is below all later ones differ
pub up_differ : (xs : List ℕ) → AllPairs (λ a b. a < b) xs → AllPairs (λ a b. a ≢ b) xs
up_differ xs up i j d lt within same = absurd (omega (arith, up i j d lt within, same))

-- and where none is 0 they rise from 0
pub up_from_0 : (xs : List ℕ) → AllPairs (λ a b. a < b) xs → All (λ b. b ≢ 0) xs → IsStrictlyIncreasing (0 ∷ xs)
up_from_0 xs up some k within =
    AllPairs-cons (λ a b. a < b) 0 xs (All-weaker (λ b. b ≢ 0) (λ b. 0 < b) (λ b h. omega (arith, h)) xs some) up k
    (k + 1) 0 (omega arith) within

put_longer : {X : Type 0} (before : X → X → Bool) (x : X) (xs : List X) → length (put_in before x xs) ≡ length xs + 1
put_longer before x [] = refl
put_longer before x (y ∷ ys) =
    elim (before x y) as (λ b. length (cond b (x ∷ y ∷ ys) (y ∷ put_in before x ys)) ≡ length (y ∷ ys) + 1) [
      | true ↦ omega arith
      | false ↦ let rest : length (put_in before x ys) ≡ length ys + 1 = put_longer before x ys in omega (arith, rest)
    ]

-- a list in order is as long as the list
pub length-in_order : {X : Type 0} (before : X → X → Bool) (xs : List X) → length (in_order before xs) ≡ length xs
length-in_order before [] = refl
length-in_order before (x ∷ xs) =
    let rest : length (in_order before xs) ≡ length xs = length-in_order before xs in
    let one : length (put_in before x (in_order before xs)) ≡ length (in_order before xs) + 1 =
    put_longer before x (in_order before xs) in
    omega (arith, rest, one)
