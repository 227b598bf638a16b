-- A list in order is a sorted rearrangement, and so the only one.
use Rattle.std.proofs.Common.{◌≡◌, zero, suc, ◌+◌, Bool, true, false, cond, List, [], ◌∷◌, refl, arith}
use Rattle.std.specs.List.{All}
use Rattle.std.specs.List.Sorted.{IsPermutation, IsSortedBy}
use Rattle.std.specs.Cmp.{IsStrictWeakOrder}
use Rattle.std.proofs.lemmas.List.Elements.{All-nil, All-cons, All-head, All-weaker}
use Rattle.std.proofs.lemmas.List.Sorted.{IsPermutation-refl, IsPermutation-cons, IsPermutation-middle, IsPermutation-trans, IsPermutation-sym}
use Rattle.nj_seq.proofs.Sorted.{sorted_unique}
use Rattle.nj_search_defs.specs.Order.{put_in, in_order}
use Rattle.nj_search_defs.proofs.Orders.{All-put_in}

module _ {X : Type 0} (before : X → X → Bool) where
  -- a list with x put in is a rearrangement of it and x
  put_in_moves : (x : X) (xs : List X) → IsPermutation (x ∷ xs) (put_in before x xs)
  put_in_moves x [] = IsPermutation-refl (x ∷ [])
  put_in_moves x (y ∷ ys) =
      elim (before x y) as (λ b. IsPermutation (x ∷ y ∷ ys) (cond b (x ∷ y ∷ ys) (y ∷ put_in before x ys))) [
        | true ↦ IsPermutation-refl (x ∷ y ∷ ys)
        | false ↦ IsPermutation-trans (x ∷ y ∷ ys) (y ∷ x ∷ ys) (y ∷ put_in before x ys)
            (IsPermutation-middle (x ∷ []) y ys)
            (IsPermutation-cons y (x ∷ ys) (put_in before x ys) (put_in_moves x ys))
      ]

  -- a list in order is a rearrangement of it
  pub in_order_moves : (xs : List X) → IsPermutation xs (in_order before xs)
  in_order_moves [] = IsPermutation-refl []
  in_order_moves (x ∷ xs) =
      IsPermutation-trans (x ∷ xs) (x ∷ in_order before xs) (put_in before x (in_order before xs))
      (IsPermutation-cons x xs (in_order before xs) (in_order_moves xs)) (put_in_moves x (in_order before xs))

  -- no member of a list is before one that stands earlier
  abbrev Ascends : List X → Type 0
  Ascends [] = Unit {0}
  Ascends (x ∷ xs) = All (λ y. before y x ≡ false) xs × Ascends xs

  -- so no neighbour is before the one to its left
  neighbours : (xs : List X) → Ascends xs → IsSortedBy before xs
  neighbours [] up k d low high = absurd (omega arith)
  neighbours (x ∷ []) up k d low high = absurd (omega arith)
  neighbours (x ∷ y ∷ ys) up zero d low high = All-head (λ z. before z x ≡ false) y ys up.0
  neighbours (x ∷ y ∷ ys) up (suc k) d low high =
      let e : suc k + 1 ≡ suc (k + 1) = omega arith in
      rw e (neighbours (y ∷ ys) up.1 k d (omega arith) (omega arith))

  module _ (order : IsStrictWeakOrder before) where
    put_ascends : (x : X) (xs : List X) → Ascends xs → Ascends (put_in before x xs)
    put_ascends x [] up = (All-nil (λ y. before y x ≡ false), tt)
    put_ascends x (y ∷ ys) up =
        elim (before x y) as (λ b. before x y ≡ b → Ascends (cond b (x ∷ y ∷ ys) (y ∷ put_in before x ys))) [
          | true ↦ λ e. (
            All-cons (λ z. before z x ≡ false) y ys (order.one_way x y e)
                (All-weaker (λ z. before z y ≡ false) (λ z. before z x ≡ false)
                (λ z h. order.chain z y x h (order.one_way x y e)) ys up.0),
            up,
          )
          | false ↦ λ e. (All-put_in before (λ z. before z y ≡ false) x ys e up.0, put_ascends x ys up.1)
        ] refl

    in_order_ascends : (xs : List X) → Ascends (in_order before xs)
    in_order_ascends [] = tt
    in_order_ascends (x ∷ xs) = put_ascends x (in_order before xs) (in_order_ascends xs)

    -- a list in order is sorted
    pub in_order_sorted : (xs : List X) → IsSortedBy before (in_order before xs)
    in_order_sorted xs = neighbours (in_order before xs) (in_order_ascends xs)

    module _ (ties : (x y : X) → before x y ≡ false → before y x ≡ false → x ≡ y) where
      -- a sorted rearrangement of a list is the list in order
      pub sorted_in_order : (xs ys : List X) → IsPermutation xs ys → IsSortedBy before ys → ys ≡ in_order before xs
      sorted_in_order xs ys moved sorted =
          sorted_unique before order ties ys (in_order before xs)
          (IsPermutation-trans ys xs (in_order before xs) (IsPermutation-sym xs ys moved) (in_order_moves xs))
          sorted (in_order_sorted xs)

      -- rearranged lists are the same in order
      pub in_order_any : (xs ys : List X) → IsPermutation xs ys → in_order before xs ≡ in_order before ys
      in_order_any xs ys moved =
          sorted_in_order ys (in_order before xs)
          (IsPermutation-trans ys xs (in_order before xs) (IsPermutation-sym xs ys moved) (in_order_moves xs))
          (in_order_sorted xs)
