-- The opening state has each dealt piece once: piece p is in the list of one worker, and no claim is made.
use Rattle.std.proofs.Common.{◌≡◌, ◌≢◌, ℕ, zero, suc, ◌+◌, ◌%◌, ◌<◌, ◌≤◌, Bool, true, false, cond, eqb, List, [], ◌∷◌, refl, sym, ◌∙◌, ap, zero-add, inl, inr, arith, if◌then◌else◌}
use Rattle.std.specs.Prelude.{sum_by, filter, map}
use Rattle.std.specs.List.{enumerate_from, range_with_len}
use Rattle.std.proofs.lemmas.List.Sums.{sum_by-cons}
use Rattle.std.proofs.lemmas.Bool.{cases_eq, eq-eqb, ne_eqb}
use Rattle.nj_core.specs.declared.claim.Claim.{Claim}
use Rattle.nj_core.specs.Machine.{Piece, dealt_to, beginning, opening}
use Rattle.nj_core.proofs.Steps.{weigh, made_by}

sum_map : {X Y : Type 0} (f : Y → ℕ) (g : X → Y) (xs : List X) → sum_by f (map g xs) ≡ sum_by (λ x. f (g x)) xs
sum_map f g [] = refl
sum_map f g (x ∷ xs) =
    sum_by-cons f (g x) (map g xs) ∙ ap (λ n. f (g x) + n) (sum_map f g xs) ∙ sym (sum_by-cons (λ y. f (g y)) x xs)

sum_same : {X : Type 0} (f g : X → ℕ) (xs : List X) → ((x : X) → f x ≡ g x) → sum_by f xs ≡ sum_by g xs
sum_same {X} f g xs same = ap (λ (h : X → ℕ). sum_by h xs) (λ i x. same x i)

sum_zero : {X : Type 0} (xs : List X) → sum_by (λ _. 0) xs ≡ 0
sum_zero [] = refl
sum_zero (x ∷ xs) = sum_by-cons (λ _. 0) x xs ∙ zero-add (sum_by (λ _. 0) xs) ∙ sum_zero xs

sum_plus : {X : Type 0} (f g : X → ℕ) (xs : List X) → sum_by (λ x. f x + g x) xs ≡ sum_by f xs + sum_by g xs
sum_plus f g [] = refl
sum_plus f g (x ∷ xs) =
    omega (arith, sum_by-cons (λ y. f y + g y) x xs, sum_by-cons f x xs, sum_by-cons g x xs, sum_plus f g xs)

-- a weight at this number alone
abbrev at : ℕ → ℕ → ℕ → ℕ
at m weight w = if eqb m w then weight else 0

-- in a range behind the number it is nowhere
past : (m weight a n : ℕ) → m < a → sum_by (at m weight) (range_with_len a n) ≡ 0
past m weight a zero lt = refl
past m weight a (suc n) lt =
    let sum = sum_by-cons (at m weight) a (range_with_len (a + 1) n) in
    let here : at m weight a ≡ 0 = ap (λ (b : Bool). if b then weight else 0) (ne_eqb m a (λ e. omega arith)) in
    let rest = past m weight (a + 1) n (omega arith) in
    omega arith

-- in a range that has the number it is there once
within : (m weight a n : ℕ) → a ≤ m → m < a + n → sum_by (at m weight) (range_with_len a n) ≡ weight
within m weight a zero low high = absurd (omega arith)
within m weight a (suc n) low high =
    elim (cases_eq m a) [
      | inl same ↦
          (let sum = sum_by-cons (at m weight) a (range_with_len (a + 1) n) in
          let here : at m weight a ≡ weight = ap (λ (b : Bool). if b then weight else 0) (eq-eqb m a same) in
          let rest = past m weight (a + 1) n (omega arith) in
          omega arith)
      | inr differ ↦
          (let sum = sum_by-cons (at m weight) a (range_with_len (a + 1) n) in
          let here : at m weight a ≡ 0 = ap (λ (b : Bool). if b then weight else 0) (ne_eqb m a differ) in
          let ne : m ≢ a = differ in
          let rest = within m weight (a + 1) n (omega arith) (omega arith) in
          omega arith)
    ]

-- the pieces among these that are dealt to worker w
abbrev share : ℕ → List (ℕ × Piece) → ℕ → List Piece
share n entries w = map (λ (e : ℕ × Piece). e.1) (filter (λ (e : ℕ × Piece). eqb (e.0 % n) w) entries)

share_more : (h : Piece → ℕ) (n : ℕ) (entry : ℕ × Piece) (entries : List (ℕ × Piece)) (w : ℕ)
    → sum_by h (share n (entry ∷ entries) w) ≡ at (entry.0 % n) (h entry.1) w + sum_by h (share n entries w)
share_more h n entry entries w = go (eqb (entry.0 % n) w) where
  go : (b : Bool) → sum_by h (map (λ (e : ℕ × Piece). e.1) (cond b (entry
      ∷ filter (λ (e : ℕ × Piece). eqb (e.0 % n) w) entries) (filter (λ (e : ℕ × Piece). eqb (e.0 % n) w) entries)))
      ≡ (if b then h entry.1 else 0) + sum_by h (share n entries w)
  go true = sum_by-cons h entry.1 (share n entries w)
  go false = sym (zero-add (sum_by h (share n entries w)))

-- the shares of all workers weigh what the pieces weigh
shares : (h : Piece → ℕ) (n : ℕ) (entries : List (ℕ × Piece)) → 1 ≤ n
    → sum_by (λ w. sum_by h (share n entries w)) (range_with_len 0 n) ≡ sum_by (λ (e : ℕ × Piece). h e.1) entries
shares h n [] some = sum_zero (range_with_len 0 n)
shares h n (entry ∷ entries) some =
    sum_same (λ w. sum_by h (share n (entry ∷ entries) w)) (λ w. at (entry.0 % n) (h entry.1) w
    + sum_by h (share n entries w)) (range_with_len 0 n) (share_more h n entry entries)
    ∙ sum_plus (at (entry.0 % n) (h entry.1)) (λ w. sum_by h (share n entries w)) (range_with_len 0 n)
    ∙ ap (λ k. k + sum_by (λ w. sum_by h (share n entries w)) (range_with_len 0 n))
    (within (entry.0 % n) (h entry.1) 0 n (omega arith) (omega arith))
    ∙ ap (λ k. h entry.1 + k) (shares h n entries some)
    ∙ sym (sum_by-cons (λ (e : ℕ × Piece). h e.1) entry entries)

numbered : (h : Piece → ℕ) (k : ℕ) (pieces : List Piece)
    → sum_by (λ (e : ℕ × Piece). h e.1) (enumerate_from k pieces) ≡ sum_by h pieces
numbered h k [] = refl
numbered h k (piece ∷ pieces) =
    sum_by-cons (λ (e : ℕ × Piece). h e.1) (k, piece) (enumerate_from (k + 1) pieces)
    ∙ ap (λ n. h piece + n) (numbered h (k + 1) pieces)
    ∙ sym (sum_by-cons h piece pieces)

-- the opening state weighs what the dealt pieces weigh
pub opening_weight : (h : Piece → ℕ) (owners : List Claim) (pieces : List Piece) (n : ℕ) → 1 ≤ n
    → sum_by (weigh h) (opening owners pieces n).workers ≡ sum_by h pieces
unfolding opening
opening_weight h owners pieces n some =
    sum_map (weigh h) (λ w. beginning (dealt_to n pieces w)) (range_with_len 0 n)
    ∙ sum_same (λ w. weigh h (beginning (dealt_to n pieces w))) (λ w. sum_by h (share n (enumerate_from 0 pieces) w))
    (range_with_len 0 n) (λ w. omega arith)
    ∙ shares h n (enumerate_from 0 pieces) some
    ∙ numbered h 0 pieces

-- no claim is made in it
pub opening_made : (f : Claim → ℕ) (owners : List Claim) (pieces : List Piece) (n : ℕ)
    → sum_by (made_by f) (opening owners pieces n).workers ≡ 0
unfolding opening
opening_made f owners pieces n =
    sum_map (made_by f) (λ w. beginning (dealt_to n pieces w)) (range_with_len 0 n) ∙ sum_zero (range_with_len 0 n)

-- and its owners are the opening owners
pub opening_owners : (owners : List Claim) (pieces : List Piece) (n : ℕ) → (opening owners pieces n).owners ≡ owners
unfolding opening
opening_owners owners pieces n = refl
