-- Members of lists, and lists of different members.
use Rattle.std.proofs.Common.{◌≡◌, ◌≢◌, ℕ, zero, suc, ◌<◌, ◌⊎◌, inl, inr, ⊎_elim, Bool, true, false, cond, List, [], ◌∷◌, ◌++◌, length, map, get_or, refl, sym, ap, ◌∙◌, subst, arith, ◌==◌, eq-eqb}
use Rattle.std.specs.Prelude.{filter}
use Rattle.std.specs.List.{All, AllPairs, Contains, list_any}
use Rattle.std.proofs.lemmas.Bool.{eqb-true}
use Rattle.std.proofs.lemmas.List.{get_or_default}
use Rattle.std.proofs.lemmas.List.Elements.{Contains-append_right, All-contains}
use Rattle.std.proofs.lemmas.List.Folds.{list_any_at, Any-from_list_any}

module _ {X : Type 0} where
  -- x is a member, by recursion
  abbrev pub In : X → List X → Type 0
  In x [] = ⊥
  In x (y ∷ ys) = (y ≡ x) ⊎ In x ys

  at_place : (x : X) (ys : List X) (k : ℕ) → k < length ys → get_or ys k x ≡ x → In x ys
  at_place x [] k l e = absurd (omega arith)
  at_place x (y ∷ ys) zero l e = inl e
  at_place x (y ∷ ys) (suc k) l e = inr (at_place x ys k (omega arith) e)

  pub in_list : (x : X) (ys : List X) → Contains ys x → In x ys
  in_list x ys c = at_place x ys c.0 c.1 c.2

  pub contained : (x : X) (ys : List X) → In x ys → Contains ys x
  contained x [] i = absurd i
  contained x (y ∷ ys) i =
      ⊎_elim (λ (e : y ≡ x). (0, omega arith, e))
      (λ (r : In x ys). Contains-append_right (y ∷ []) ys x (contained x ys r)) i

  -- what holds of all holds of a member
  pub of_member : (P : X → Type 0) (xs : List X) (x : X) → All P xs → In x xs → P x
  of_member P xs x all i = All-contains P xs x all (contained x xs i)

  -- no member is a later one
  abbrev pub Distinct : List X → Type 0
  Distinct [] = Unit {0}
  Distinct (x ∷ xs) = (In x xs → ⊥) × Distinct xs

  pub distinct : (xs : List X) → AllPairs (λ a b. a ≢ b) xs → Distinct xs
  distinct [] p = tt
  distinct (x ∷ xs) p = (
    λ i. let c = contained x xs i in let l : c.0 < length xs =
        c.1 in p 0 (suc c.0) x (omega arith) (omega arith) (sym c.2),
    distinct xs (λ i j d l m. p (suc i) (suc j) d (omega arith) (omega arith)),
  )

  pub differ : (xs : List X) → Distinct xs → AllPairs (λ a b. a ≢ b) xs
  differ [] p i j d l m = absurd (omega arith)
  differ (x ∷ xs) p zero zero d l m = absurd (omega arith)
  differ (x ∷ xs) p zero (suc j) d l m =
      let inside : j < length xs = omega arith in
      λ e. p.0 (at_place x xs j inside (get_or_default xs j x d inside ∙ sym e))
  differ (x ∷ xs) p (suc i) zero d l m = absurd (omega arith)
  differ (x ∷ xs) p (suc i) (suc j) d l m = differ xs p.1 i j d (omega arith) (omega arith)

  -- members of what a filter keeps
  pub in_filter : (p : X → Bool) (x : X) (xs : List X) → In x (filter p xs) → In x xs × (p x ≡ true)
  in_filter p x [] = λ i. absurd i
  in_filter p x (y ∷ ys) =
      elim (p y) as (λ b. p y ≡ b → In x (cond b (y ∷ filter p ys) (filter p ys)) → In x (y ∷ ys) × (p x ≡ true)) [
        | true ↦ λ e i. ⊎_elim (λ (same : y ≡ x). (inl same, ap p (sym same) ∙ e))
            (λ (r : In x (filter p ys)). let s = in_filter p x ys r in (inr s.0, s.1)) i
        | false ↦ λ e r. let s = in_filter p x ys r in (inr s.0, s.1)
      ] refl

  pub filtered : (p : X → Bool) (x : X) (xs : List X) → In x xs → p x ≡ true → In x (filter p xs)
  filtered p x [] i t = absurd i
  filtered p x (y ∷ ys) i t =
      ⊎_elim
      (λ (e : y ≡ x). subst (λ b. In x (cond b (y ∷ filter p ys) (filter p ys))) (sym (ap p e ∙ t)) (inl e))
      (λ (r : In x ys). elim (p y) as (λ b. In x (cond b (y ∷ filter p ys) (filter p ys))) [
        | true ↦ inr (filtered p x ys r t)
        | false ↦ filtered p x ys r t
      ]) i

  pub distinct_filter : (p : X → Bool) (xs : List X) → Distinct xs → Distinct (filter p xs)
  distinct_filter p [] d = tt
  distinct_filter p (y ∷ ys) d =
      elim (p y) as (λ b. Distinct (cond b (y ∷ filter p ys) (filter p ys))) [
        | true ↦ (λ i. d.0 (in_filter p y ys i).0, distinct_filter p ys d.1)
        | false ↦ distinct_filter p ys d.1
      ]

  -- members of two lists
  pub in_left : (x : X) (xs ys : List X) → In x xs → In x (xs ++ ys)
  in_left x [] ys i = absurd i
  in_left x (y ∷ xs) ys i = ⊎_elim (λ (e : y ≡ x). inl e) (λ (r : In x xs). inr (in_left x xs ys r)) i

  pub in_right : (x : X) (xs ys : List X) → In x ys → In x (xs ++ ys)
  in_right x [] ys i = i
  in_right x (y ∷ xs) ys i = inr (in_right x xs ys i)

  pub in_either : (x : X) (xs ys : List X) → In x (xs ++ ys) → In x xs ⊎ In x ys
  in_either x [] ys i = inr i
  in_either x (y ∷ xs) ys i =
      ⊎_elim (λ (e : y ≡ x). inl (inl e))
      (λ (r : In x (xs ++ ys)). ⊎_elim (λ (a : In x xs). inl (inr a)) (λ (b : In x ys). inr b) (in_either x xs ys r)) i

  pub distinct_both : (xs ys : List X) → Distinct xs → Distinct ys → ((x : X) → In x xs → In x ys → ⊥)
      → Distinct (xs ++ ys)
  distinct_both [] ys dx dy apart = dy
  distinct_both (x ∷ xs) ys dx dy apart = (
    λ i. ⊎_elim (λ (a : In x xs). dx.0 a) (λ (b : In x ys). apart x (inl refl) b) (in_either x xs ys i),
    distinct_both xs ys dx.1 dy (λ z a b. apart z (inr a) b),
  )

  pub distinct_left : (xs ys : List X) → Distinct (xs ++ ys) → Distinct xs
  distinct_left [] ys d = tt
  distinct_left (x ∷ xs) ys d = (λ i. d.0 (in_left x xs ys i), distinct_left xs ys d.1)

  pub distinct_right : (xs ys : List X) → Distinct (xs ++ ys) → Distinct ys
  distinct_right [] ys d = d
  distinct_right (x ∷ xs) ys d = distinct_right xs ys d.1

  pub apart : (xs ys : List X) → Distinct (xs ++ ys) → (x : X) → In x xs → In x ys → ⊥
  apart [] ys d x i j = i
  apart (y ∷ xs) ys d x i j =
      ⊎_elim (λ (e : y ≡ x). d.0 (subst (λ z. In z (xs ++ ys)) (sym e) (in_right x xs ys j)))
      (λ (r : In x xs). apart xs ys d.1 x r j) i

  -- a test that passes at some member
  pub some_member : (p : X → Bool) (xs : List X) → list_any p xs ≡ true → (x : X) × In x xs × (p x ≡ true)
  some_member p xs t = let a = Any-from_list_any p xs t in (a.1, at_place a.1 xs a.0 a.2 a.3, a.4)

  pub member_any : (p : X → Bool) (x : X) (xs : List X) → In x xs → p x ≡ true → list_any p xs ≡ true
  member_any p x xs i t = let c = contained x xs i in list_any_at p xs c.0 x c.1 (ap p c.2 ∙ t)

module _ {X Y : Type 0} (f : X → Y) where
  pub in_map : (y : Y) (xs : List X) → In y (map f xs) → (x : X) × In x xs × (f x ≡ y)
  in_map y [] i = absurd i
  in_map y (x ∷ xs) i =
      ⊎_elim (λ (e : f x ≡ y). (x, inl refl, e))
      (λ (r : In y (map f xs)). let s = in_map y xs r in (s.0, inr s.1, s.2)) i

  pub mapped : (x : X) (xs : List X) → In x xs → In (f x) (map f xs)
  mapped x [] i = absurd i
  mapped x (y ∷ xs) i = ⊎_elim (λ (e : y ≡ x). inl (ap f e)) (λ (r : In x xs). inr (mapped x xs r)) i

-- whether a key is among keys
pub is_key : (key : ℕ) (keys : List ℕ) → list_any (λ k. k == key) keys ≡ true → In key keys
is_key key keys t = let s = some_member (λ k. k == key) keys t in subst (λ k. In k keys) (eqb-true s.0 key s.2) s.1

pub key_is : (key : ℕ) (keys : List ℕ) → In key keys → list_any (λ k. k == key) keys ≡ true
key_is key keys i = member_any (λ k. k == key) key keys i (eq-eqb key key refl)
