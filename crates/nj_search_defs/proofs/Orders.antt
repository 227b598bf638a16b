-- What a list in order has and keeps of the list.
use Rattle.std.proofs.Common.{◌≡◌, Bool, true, false, cond, List, [], ◌∷◌, refl, sym, subst}
use Rattle.std.specs.List.{All}
use Rattle.std.specs.Cmp.{IsStrictWeakOrder}
use Rattle.std.proofs.lemmas.List.Elements.{All-nil, All-cons, All-head, All-tail, All-weaker}
use Rattle.nj_search_defs.specs.Order.{put_in, in_order}

module _ {X : Type 0} (before : X → X → Bool) where
  -- what holds of x and of each member holds of each member once x is put in
  pub All-put_in : (P : X → Type 0) (x : X) (xs : List X) → P x → All P xs → All P (put_in before x xs)
  All-put_in P x [] p all = All-cons P x [] p (All-nil P)
  All-put_in P x (y ∷ ys) p all =
      elim (before x y) as (λ b. All P (cond b (x ∷ y ∷ ys) (y ∷ put_in before x ys))) [
        | true ↦ All-cons P x (y ∷ ys) p all
        | false ↦ All-cons P y (put_in before x ys) (All-head P y ys all) (All-put_in P x ys p (All-tail P y ys all))
      ]

  -- what holds of each member holds of each in order
  pub All-in_order : (P : X → Type 0) (xs : List X) → All P xs → All P (in_order before xs)
  All-in_order P [] all = All-nil P
  All-in_order P (x ∷ xs) all =
      All-put_in P x (in_order before xs) (All-head P x xs all) (All-in_order P xs (All-tail P x xs all))

  -- no member of a list is before x
  abbrev pub IsFirst : X → List X → Type 0
  IsFirst x xs = All (λ y. before y x ≡ false) xs

  -- the head of a list in order, where there is one, is the first of the members
  abbrev pub IsHeaded : List X → List X → Type 0
  IsHeaded [] xs = xs ≡ []
  IsHeaded (y ∷ ys) xs = IsFirst y xs

  module _ (order : IsStrictWeakOrder before) where
    not_itself : (x : X) → before x x ≡ false
    not_itself x = elim (before x x) as (λ b. before x x ≡ b → before x x ≡ false) [
      | true ↦ λ e. order.one_way x x e
      | false ↦ λ e. e
    ] refl

    put_headed : (x : X) (ys xs : List X) → IsHeaded ys xs → IsHeaded (put_in before x ys) (x ∷ xs)
    put_headed x [] xs none =
        let P : List X → Type 0 = λ l. IsFirst x (x ∷ l) in
        subst P (sym none) (All-cons (λ z. before z x ≡ false) x [] (not_itself x) (All-nil (λ z. before z x ≡ false)))
    put_headed x (y ∷ ys) xs first =
        elim (before x y) as (λ b. before x y ≡ b → IsHeaded (cond b (x ∷ y ∷ ys) (y ∷ put_in before x ys)) (x ∷ xs)) [
          | true ↦ λ e. All-cons (λ z. before z x ≡ false) x xs (not_itself x)
              (All-weaker (λ z. before z y ≡ false) (λ z. before z x ≡ false)
              (λ z h. order.chain z y x h (order.one_way x y e)) xs first)
          | false ↦ λ e. All-cons (λ z. before z y ≡ false) x xs e first
        ] refl

    -- a list in order begins with its first member
    pub headed : (xs : List X) → IsHeaded (in_order before xs) xs
    headed [] = refl
    headed (x ∷ xs) = put_headed x (in_order before xs) xs (headed xs)
