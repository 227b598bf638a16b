-- Lists by their counts: two lists over which each sum is the same have the same members, each as often.
use Rattle.std.proofs.Common.{◌≡◌, ℕ, ◌+◌, ◌<◌, Bool, true, false, cond, eqb, List, [], ◌∷◌, ◌++◌, refl, sym, ◌∙◌, ap, subst, zero-add, arith, if◌then◌else◌, ◌&&◌}
use Rattle.std.specs.Prelude.{sum_by, filter, flat_map}
use Rattle.std.specs.List.Sorted.{IsPermutation}
use Rattle.std.proofs.lemmas.List.Sums.{sum_by-cons, sum_by-append}
use Rattle.std.proofs.lemmas.List.Sorted.{IsPermutation-refl, IsPermutation-cons, IsPermutation-middle, IsPermutation-trans, IsPermutation-sym, sum_by-IsPermutation}
use Rattle.std.proofs.lemmas.Bool.{eqb-true, eq-eqb}
use Rattle.nj_core.specs.declared.claim.Claim.{Claim}
use Rattle.nj_core.specs.Machine.{Piece}

-- each sum over the members of both lists is the same
abbrev pub SameSums : {X : Type 0} → List X → List X → Type 0
SameSums {X} xs ys = (f : X → ℕ) → sum_by f xs ≡ sum_by f ys

-- 1 for an element that passes the test, and 0 for another
abbrev pub one : {X : Type 0} → (X → Bool) → X → ℕ
one p x = if p x then 1 else 0

-- rearranged lists have the same sums
pub sums_moved : {X : Type 0} (xs ys : List X) → IsPermutation xs ys → SameSums xs ys
sums_moved xs ys moved f = sym (sum_by-IsPermutation f xs ys moved)

-- a list has this element, between others
pub record Has {X : Type 0} (ys : List X) (x : X) : Type 0 where
  pub before : List X
  pub after : List X
  pub is : ys ≡ before ++ x ∷ after

-- a test of equality
pub record Tells {X : Type 0} (same : X → X → Bool) : Type 0 where
  pub itself : (x : X) → same x x ≡ true
  pub equal : (x y : X) → same x y ≡ true → x ≡ y

-- where the count of an element is not 0, the list has it
pub has : {X : Type 0} (same : X → X → Bool) → Tells same → (x : X) (ys : List X) → 0 < sum_by (one (same x)) ys
    → Has ys x
has same tells x [] some = absurd (omega arith)
has same tells x (y ∷ ys) some = go (same x y) refl (sum_by-cons (one (same x)) y ys) (has same tells x ys) where
  go : (b : Bool) → same x y ≡ b → sum_by (one (same x)) (y ∷ ys) ≡ one (same x) y + sum_by (one (same x)) ys
      → (0 < sum_by (one (same x)) ys → Has ys x) → Has (y ∷ ys) x
  go true is sum rest = record { before = []; after = ys; is = ap (λ z. z ∷ ys) (sym (tells.equal x y is)) }
  go false is sum rest =
      let zero : one (same x) y ≡ 0 = ap (λ (b : Bool). if b then 1 else 0) is in
      let found = rest (omega arith) in
      record { before = y ∷ found.before; after = found.after; is = ap (λ zs. y ∷ zs) found.is }

-- a list without members has no count
pub no_members : {X : Type 0} (ys : List X) → sum_by (λ _. 1) ys ≡ 0 → ys ≡ []
no_members [] none = refl
no_members (y ∷ ys) none = absurd (let sum = sum_by-cons (λ _. 1) y ys in omega arith)

-- an element in the middle adds as much as one in front
pub sum_middle : {X : Type 0} (f : X → ℕ) (before : List X) (x : X) (after : List X)
    → sum_by f (before ++ x ∷ after) ≡ f x + sum_by f (before ++ after)
sum_middle f before x after =
    omega (arith, sum_by-append f before (x ∷ after), sum_by-append f before after, sum_by-cons f x after)

-- without one element the sums stay the same
pub rest_sums : {X : Type 0} (x : X) (xs ys : List X) (found : Has ys x) → SameSums (x ∷ xs) ys
    → SameSums xs (found.before ++ found.after)
rest_sums x xs ys found sums f =
    let left = sum_by-cons f x xs in
    let both : sum_by f (x ∷ xs) ≡ sum_by f (found.before ++ x ∷ found.after) = sums f ∙ ap (sum_by f) found.is in
    let right = sum_middle f found.before x found.after in
    omega arith

-- the first element of one list is in the other
pub first_found : {X : Type 0} (same : X → X → Bool) → Tells same → (x : X) (xs ys : List X) → SameSums (x ∷ xs) ys
    → Has ys x
first_found same tells x xs ys sums =
    let left = sum_by-cons (one (same x)) x xs in
    let both = sums (one (same x)) in
    let is : one (same x) x ≡ 1 = ap (λ (b : Bool). if b then 1 else 0) (tells.itself x) in
    has same tells x ys (omega arith)

-- lists with the same sums are rearranged
pub moved_from_sums : {X : Type 0} (same : X → X → Bool) → Tells same → (xs ys : List X) → SameSums xs ys
    → IsPermutation xs ys
moved_from_sums same tells [] ys sums =
    subst (IsPermutation []) (sym (no_members ys (sym (sums (λ _. 1))))) (IsPermutation-refl [])
moved_from_sums {X} same tells (x ∷ xs) ys sums =
    let found : Has ys x = first_found same tells x xs ys sums in
    let rest : List X = found.before ++ found.after in
    subst (IsPermutation (x ∷ xs)) (sym found.is)
    (IsPermutation-trans (x ∷ xs) (x ∷ rest) (found.before ++ x ∷ found.after)
    (IsPermutation-cons x xs rest (moved_from_sums same tells xs rest (rest_sums x xs ys found sums)))
    (IsPermutation-sym (found.before ++ x ∷ found.after) (x ∷ rest) (IsPermutation-middle found.before x found.after)))

both_true : (a b : Bool) → (a && b) ≡ true → (a ≡ true) × (b ≡ true)
both_true true b h = (refl, h)
both_true false b h = absurd (cc)

-- whether two claims are equal
abbrev pub same_claim : Claim → Claim → Bool
same_claim a b = eqb a.key b.key && eqb a.number b.number

claim_itself : (a : Claim) → same_claim a a ≡ true
claim_itself a =
    ap (λ (b : Bool). b && eqb a.number a.number) (eq-eqb a.key a.key refl) ∙ eq-eqb a.number a.number refl

claims_equal : (a b : Claim) → same_claim a b ≡ true → a ≡ b
claims_equal a b h =
    let both = both_true (eqb a.key b.key) (eqb a.number b.number) h in
    let key = eqb-true a.key b.key both.0 in
    let number = eqb-true a.number b.number both.1 in
    λ i. record { key = key i; number = number i }

pub claim_tells : Tells same_claim
claim_tells = record { itself = claim_itself; equal = claims_equal }

-- whether two pieces are equal
abbrev pub same_piece : Piece → Piece → Bool
same_piece [] [] = true
same_piece [] (d ∷ ds) = false
same_piece (c ∷ cs) [] = false
same_piece (c ∷ cs) (d ∷ ds) = same_claim c d && same_piece cs ds

piece_itself : (p : Piece) → same_piece p p ≡ true
piece_itself [] = refl
piece_itself (c ∷ cs) = ap (λ (b : Bool). b && same_piece cs cs) (claim_itself c) ∙ piece_itself cs

pieces_equal : (p q : Piece) → same_piece p q ≡ true → p ≡ q
pieces_equal [] [] h = refl
pieces_equal [] (d ∷ ds) h = absurd (cc)
pieces_equal (c ∷ cs) [] h = absurd (cc)
pieces_equal (c ∷ cs) (d ∷ ds) h =
    let both = both_true (same_claim c d) (same_piece cs ds) h in
    let first = claims_equal c d both.0 in
    let rest = pieces_equal cs ds both.1 in
    cc

pub piece_tells : Tells same_piece
piece_tells = record { itself = piece_itself; equal = pieces_equal }

-- a sum over lists joined is a sum over the lists
pub sum_flat : {X A : Type 0} (g : X → List A) (f : A → ℕ) (xs : List X)
    → sum_by f (flat_map g xs) ≡ sum_by (λ x. sum_by f (g x)) xs
sum_flat g f [] = refl
sum_flat g f (x ∷ xs) =
    sum_by-append f (g x) (flat_map g xs)
    ∙ ap (λ n. sum_by f (g x) + n) (sum_flat g f xs)
    ∙ sym (sum_by-cons (λ y. sum_by f (g y)) x xs)

-- a sum over what a test keeps
pub sum_filter : {X : Type 0} (p : X → Bool) (f : X → ℕ) (xs : List X)
    → sum_by f (filter p xs) ≡ sum_by (λ x. if p x then f x else 0) xs
sum_filter p f [] = refl
sum_filter p f (x ∷ xs) =
    go (p x) (sum_filter p f xs) ∙ sym (sum_by-cons (λ y. if p y then f y else 0) x xs) where
      go : (b : Bool) → sum_by f (filter p xs) ≡ sum_by (λ y. if p y then f y else 0) xs
          → sum_by f (cond b (x ∷ filter p xs) (filter p xs)) ≡ cond b (f x) 0 + sum_by (λ y. if p y then f y else 0) xs
      go true rest = sum_by-cons f x (filter p xs) ∙ ap (λ n. f x + n) rest
      go false rest = rest ∙ sym (zero-add (sum_by (λ y. if p y then f y else 0) xs))

-- a test keeps the same of both lists
pub filter_sums : {X : Type 0} (p : X → Bool) (xs ys : List X) → SameSums xs ys → SameSums (filter p xs) (filter p ys)
filter_sums p xs ys sums f =
    sum_filter p f xs ∙ sums (λ x. if p x then f x else 0) ∙ sym (sum_filter p f ys)
