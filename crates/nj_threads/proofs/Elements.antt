-- What holds of the first element and of the others holds of all.
use Rattle.std.proofs.Common.{arith, refl, sym, subst, ap, ◌≡◌, ℕ, ◌+◌, ◌<◌, ◌≤◌, zero, suc, List, [], ◌∷◌, ◌++◌, length, slice_index_or}
use denote.Ref.{MutBor}
use denote.Param.Members.{Shared}
use Rattle.std.specs.Fork.{AcceptsAt, ChangesAt}
use Rattle.nj_threads.specs.Elements.{AcceptsOne, ChangesOne, AcceptsFrom, ChangesFrom}

module _ {F T : Type 0} (g : Shared F (ℕ × (MutBor T × Unit {0})) ((Unit {0}) × (MutBor T × Unit {0}))) (f : F) where
  accepts_head : (place : ℕ) (x : T) (xs : List T) → AcceptsFrom g f place (x ∷ xs) → AcceptsAt g f place x
  accepts_head place x xs from =
      subst (λ n. AcceptsAt g f n x) {x = place + 0} (omega arith) (from.each 0 x (omega arith))

  accepts_tail : (place : ℕ) (x : T) (xs : List T) → AcceptsFrom g f place (x ∷ xs) → AcceptsFrom g f (place + 1) xs
  accepts_tail place x xs from =
      record {
        room = let room = from.room in omega arith;
        each = λ k d l. subst (λ n. AcceptsAt g f n (slice_index_or xs k d)) {x = place + suc k} (omega arith)
            (from.each (suc k) d (omega arith));
      }

  none : (place : ℕ) → ChangesFrom g f place [] []
  none place = record { many = refl; each = λ k d l. absurd (omega arith) }

  changes_cons : (place : ℕ) (x y : T) (xs ys : List T) → ChangesAt g f place x y → ChangesFrom g f (place + 1) xs ys
      → ChangesFrom g f place (x ∷ xs) (y ∷ ys)
  changes_cons place x y xs ys one from = record { many = ap suc from.many; each = each_of }
    where
      each_of : (k : ℕ) (d : T) → k < length (x ∷ xs)
          → ChangesAt g f (place + k) (slice_index_or (x ∷ xs) k d) (slice_index_or (y ∷ ys) k d)
      each_of zero d l = subst (λ n. ChangesAt g f n x y) (omega arith) one
      each_of (suc k) d l =
          subst (λ n. ChangesAt g f n (slice_index_or xs k d) (slice_index_or ys k d)) {x = place + 1 + k} (omega arith)
          (from.each k d (omega arith))

  -- where there is one element
  pub accepts_only : (place : ℕ) (all : List T) (x : T) (xs : List T) → all ≡ x ∷ xs → AcceptsFrom g f place all
      → AcceptsOne g f place x
  accepts_only place all x xs e from =
      record { accept = accepts_head place x xs (subst (AcceptsFrom g f place) e from) }

  pub changes_only : (place : ℕ) (all : List T) (x : T) (xs : List T) (y : T) → all ≡ x ∷ xs → length all ≤ 1
      → ChangesOne g f place x y → ChangesFrom g f place all (y ∷ xs)
  changes_only place all x [] y e few one =
      subst (λ l. ChangesFrom g f place l (y ∷ [])) (sym e) (changes_cons place x y [] [] one.change (none (place + 1)))
  changes_only place all x (z ∷ xs) y e few one = absurd (omega (arith, ap length e))

  -- where the first is cut off
  pub accepts_others : (place : ℕ) (all xs ys : List T) → all ≡ xs ++ ys → length xs ≡ 1 → AcceptsFrom g f place all
      → AcceptsFrom g f (place + 1) ys
  accepts_others place all [] ys e one from = absurd (omega arith)
  accepts_others place all (x ∷ []) ys e one from = accepts_tail place x ys (subst (AcceptsFrom g f place) e from)
  accepts_others place all (x ∷ y ∷ xs) ys e one from = absurd (omega arith)

  pub changes_both : (place : ℕ) (all xs ys xs' ys' : List T) → all ≡ xs ++ ys → length xs ≡ 1
      → ChangesFrom g f place xs xs' → ChangesFrom g f (place + 1) ys ys' → ChangesFrom g f place all (xs' ++ ys')
  changes_both place all (x ∷ []) ys (y ∷ []) ys' e one first others =
      subst (λ l. ChangesFrom g f place l (y ∷ ys')) (sym e) (changes_cons place x y ys ys' (head_of first) others)
    where
      head_of : ChangesFrom g f place (x ∷ []) (y ∷ []) → ChangesAt g f place x y
      head_of first = subst (λ n. ChangesAt g f n x y) {x = place + 0} (omega arith) (first.each 0 x (omega arith))
  changes_both place all [] ys xs' ys' e one first others = absurd (omega arith)
  changes_both place all (x ∷ z ∷ xs) ys xs' ys' e one first others = absurd (omega arith)
  changes_both place all (x ∷ []) ys [] ys' e one first others = absurd (let many = first.many in omega arith)
  changes_both place all (x ∷ []) ys (y ∷ z ∷ xs') ys' e one first others =
      absurd (let many = first.many in omega arith)
