-- Lists of different members that have the same members are the same but for their order.
use Rattle.std.proofs.Common.{◌≡◌, ◌⊎◌, inl, inr, ⊎_elim, List, [], ◌∷◌, ◌++◌, refl, sym, ap, subst}
use Rattle.std.specs.List.Sorted.{IsPermutation}
use Rattle.std.proofs.lemmas.List.Sorted.{IsPermutation-refl, IsPermutation-sym, IsPermutation-cons, IsPermutation-trans, IsPermutation-middle}
use Rattle.nj_seen.proofs.Members.{In, Distinct, in_left, in_right, in_either}

module _ {X : Type 0} where
  -- a list parts at a member
  part_at : (x : X) (ys : List X) → In x ys → (before : List X) × (behind : List X) × (ys ≡ before ++ x ∷ behind)
  part_at x [] i = absurd i
  part_at x (y ∷ ys) i =
      ⊎_elim (λ (e : y ≡ x). ([], ys, ap (λ z. z ∷ ys) e))
      (λ (r : In x ys). let s = part_at x ys r in (y ∷ s.0, s.1, ap (λ zs. y ∷ zs) s.2)) i

  -- members with and without it
  in_rest : (x z : X) (before behind : List X) → In z (before ++ x ∷ behind) → (x ≡ z) ⊎ In z (before ++ behind)
  in_rest x z before behind i =
      ⊎_elim (λ (a : In z before). inr (in_left z before behind a))
      (λ (b : In z (x ∷ behind)). ⊎_elim (λ (e : x ≡ z). inl e)
      (λ (r : In z behind). inr (in_right z before behind r)) b)
      (in_either z before (x ∷ behind) i)

  rest_in : (x z : X) (before behind : List X) → In z (before ++ behind) → In z (before ++ x ∷ behind)
  rest_in x z before behind i =
      ⊎_elim (λ (a : In z before). in_left z before (x ∷ behind) a)
      (λ (b : In z behind). in_right z before (x ∷ behind) (inr b))
      (in_either z before behind i)

  distinct_rest : (x : X) (before behind : List X) → Distinct (before ++ x ∷ behind)
      → Distinct (before ++ behind) × (In x (before ++ behind) → ⊥)
  distinct_rest x [] behind d = (d.1, d.0)
  distinct_rest x (y ∷ before) behind d =
      let rest = distinct_rest x before behind d.1 in (
        (λ i. d.0 (rest_in x y before behind i), rest.0),
        λ i. ⊎_elim (λ (e : y ≡ x). d.0
            (subst (λ z. In z (before ++ x ∷ behind)) (sym e) (in_right x before (x ∷ behind) (inl refl))))
            (λ (r : In x (before ++ behind)). rest.1 r) i,
      )

  none_in : (ys : List X) → ((z : X) → In z ys → ⊥) → IsPermutation [] ys
  none_in [] f = IsPermutation-refl []
  none_in (y ∷ ys) f = absurd (f y (inl refl))

  pub same_members : (xs ys : List X) → Distinct xs → Distinct ys → ((z : X) → In z xs → In z ys)
      → ((z : X) → In z ys → In z xs) → IsPermutation xs ys
  same_members [] ys dx dy into back = none_in ys (λ z i. back z i)
  same_members (x ∷ xs) ys dx dy into back =
      let s = part_at x ys (into x (inl refl)) in
      let before : List X = s.0 in let behind : List X = s.1 in let parts : ys ≡ before ++ x ∷ behind = s.2 in
      let rest = distinct_rest x before behind (subst Distinct parts dy) in
      subst (IsPermutation (x ∷ xs)) (sym parts)
      (IsPermutation-trans (x ∷ xs) (x ∷ (before ++ behind)) (before ++ x ∷ behind)
      (IsPermutation-cons x xs (before ++ behind) (same_members xs (before ++ behind) dx.1 rest.0
      (λ z i. ⊎_elim (λ (e : x ≡ z). absurd (dx.0 (subst (λ w. In w xs) (sym e) i)))
      (λ (r : In z (before ++ behind)). r)
      (in_rest x z before behind (subst (In z) parts (into z (inr i)))))
      (λ z i. ⊎_elim (λ (e : x ≡ z). absurd (rest.1 (subst (λ w. In w (before ++ behind)) (sym e) i)))
      (λ (r : In z xs). r)
      (back z (subst (In z) (sym parts) (rest_in x z before behind i))))))
      (IsPermutation-sym (before ++ x ∷ behind) (x ∷ (before ++ behind)) (IsPermutation-middle before x behind)))
