-- All pieces of a front, in whatever order they were taken.
use Rattle.std.proofs.Common.{◌≡◌, ℕ, zero, suc, ◌+◌, ◌*◌, ◌/◌, ◌<◌, ◌==◌, Bool, true, false, List, [], ◌∷◌, ◌++◌, length, take, refl, sym, ap, ◌∙◌, subst, arith, append_assoc, append-nil, if◌then◌else◌}
use Rattle.std.specs.Prelude.{flat_map}
use Rattle.std.specs.List.{sum_by, range_with_len}
use Rattle.std.specs.List.Sorted.{IsPermutation}
use Rattle.std.proofs.Math.Seq.{take-add}
use Rattle.std.proofs.lemmas.Bool.{eqb-true, eq-eqb}
use Rattle.std.proofs.lemmas.List.{take_all, length-take-le}
use Rattle.std.proofs.lemmas.List.Concat.{flat_map-append}
use Rattle.std.proofs.lemmas.List.Sorted.{IsPermutation-refl, IsPermutation-trans, IsPermutation-append, IsPermutation-append_comm}
use Rattle.std.proofs.lemmas.List.Sums.{sum_by-append, sum_by-cons, sum_by_push}
use Rattle.nj_search_defs.specs.Game.{Word}
use Rattle.nj_game.specs.Words.{allowed_of}
use Rattle.nj_rows.specs.declared.Row.{Row}
use Rattle.nj_expand.specs.Held.{Held, live_rows, candidates_in}
use Rattle.nj_expand.specs.Children.{rows_from, runs_from}
use Rattle.nj_hands.specs.Shares.{pieces_in, words_in, piece_rows, piece_runs, rows_of, runs_of}
use Rattle.nj_hands.proofs.Words.{rows_append}

-- ---- in their order

range_more : (a n : ℕ) → range_with_len a (suc n) ≡ range_with_len a n ++ (a + n) ∷ []
range_more a zero = ap (λ m. m ∷ []) (let e : a ≡ a + 0 = omega arith in e)
range_more a (suc n) = ap (λ rest. a ∷ rest) (range_more (a + 1) n
    ∙ ap (λ m. range_with_len (a + 1) n ++ m ∷ []) (let e : a + 1 + n ≡ a + suc n = omega arith in e))

range_next : (n : ℕ) → range_with_len 0 (suc n) ≡ range_with_len 0 n ++ n ∷ []
range_next n = range_more 0 n ∙ ap (λ m. range_with_len 0 n ++ m ∷ []) (let e : 0 + n ≡ n = omega arith in e)

-- the first pieces are the first words
rows_upto : (held : Held) (n : ℕ) → 16 * n < length held.state.front + 16
    → rows_of held (range_with_len 0 n) ≡ rows_from held 0 (take (16 * n) held.state.front)
unfolding piece_rows
rows_upto held zero within = refl
rows_upto held (suc n) within =
    let front : List Word = held.state.front in
    let long : 0 + length (take (16 * n) front) ≡ 16 * n =
    (let e = length-take-le (16 * n) front (omega arith) in omega (arith, e)) in
    let far : 16 * suc n ≡ 16 * n + 16 = omega arith in
    ap (rows_of held) (range_next n)
    ∙ flat_map-append (piece_rows held) (range_with_len 0 n) (n ∷ [])
    ∙ ap (λ rows. rows ++ (piece_rows held n ++ [])) (rows_upto held n (omega arith))
    ∙ ap (λ rows. rows_from held 0 (take (16 * n) front) ++ rows) (append-nil (piece_rows held n))
    ∙ ap (λ m. rows_from held 0 (take (16 * n) front) ++ rows_from held m (words_in held n)) (sym long)
    ∙ sym (rows_append held 0 (take (16 * n) front) (words_in held n))
    ∙ ap (rows_from held 0) (sym (take-add (16 * n) 16 front))
    ∙ ap (λ m. rows_from held 0 (take m front)) (sym far)

runs_upto : (held : Held) (n : ℕ)
    → runs_of held (range_with_len 0 n) ≡ runs_from held.plan (take (16 * n) held.state.front)
unfolding piece_runs
runs_upto held zero = refl
runs_upto held (suc n) =
    let front : List Word = held.state.front in
    let far : 16 * suc n ≡ 16 * n + 16 = omega arith in
    ap (runs_of held) (range_next n)
    ∙ sum_by_push (piece_runs held) (range_with_len 0 n) n
    ∙ ap (λ m. m + runs_from held.plan (words_in held n)) (runs_upto held n)
    ∙ sym (sum_by-append (λ word. length (allowed_of held.plan word)) (take (16 * n) front) (words_in held n))
    ∙ ap (runs_from held.plan) (sym (take-add (16 * n) 16 front))
    ∙ ap (λ m. runs_from held.plan (take m front)) (sym far)

-- all pieces are all words
pub all_rows : (held : Held) → rows_of held (range_with_len 0 (pieces_in held)) ≡ rows_from held 0 held.state.front
unfolding pieces_in
all_rows held =
    rows_upto held (pieces_in held) (omega arith)
    ∙ ap (rows_from held 0) (take_all (16 * pieces_in held) held.state.front (omega arith))

pub all_runs : (held : Held) → runs_of held (range_with_len 0 (pieces_in held)) ≡ runs_from held.plan held.state.front
unfolding pieces_in
all_runs held = runs_upto held (pieces_in held)
    ∙ ap (runs_from held.plan) (take_all (16 * pieces_in held) held.state.front (omega arith))

-- ---- in any order

-- each sum over the members of both lists is the same
abbrev pub SameSums : List ℕ → List ℕ → Type 0
SameSums xs ys = (h : ℕ → ℕ) → sum_by h xs ≡ sum_by h ys

-- a list has this number, between others
record Has (ys : List ℕ) (x : ℕ) : Type 0 where
  before : List ℕ
  after : List ℕ
  is : ys ≡ before ++ x ∷ after

-- 1 for this number
abbrev one_for : ℕ → ℕ → ℕ
one_for x y = if y == x then 1 else 0

has : (x : ℕ) (ys : List ℕ) → 0 < sum_by (one_for x) ys → Has ys x
has x [] some = absurd (omega arith)
has x (y ∷ ys) some = by_test (y == x) refl (λ more. has x ys more) where
  one : ℕ
  one = one_for x y

  parts : sum_by (one_for x) (y ∷ ys) ≡ one + sum_by (one_for x) ys
  parts = sum_by-cons (one_for x) y ys

  by_test : (b : Bool) → (y == x) ≡ b → (0 < sum_by (one_for x) ys → Has ys x) → Has (y ∷ ys) x
  by_test true e rest = record { before = []; after = ys; is = ap (λ z. z ∷ ys) (eqb-true y x e) }
  by_test false e rest =
      let none : one ≡ 0 = ap (λ (b : Bool). if b then 1 else 0) e in
      let found = rest (omega (arith, parts)) in
      record { before = y ∷ found.before; after = found.after; is = ap (λ zs. y ∷ zs) found.is }

none_there : (ys : List ℕ) → sum_by (λ _. 1) ys ≡ 0 → ys ≡ []
none_there [] none = refl
none_there (y ∷ ys) none = absurd (let sum = sum_by-cons (λ (_ : ℕ). 1) y ys in omega arith)

first_found : (x : ℕ) (xs ys : List ℕ) → SameSums (x ∷ xs) ys → Has ys x
first_found x xs ys sums =
    let left = sum_by-cons (one_for x) x xs in
    let both = sums (one_for x) in
    let is : one_for x x ≡ 1 = ap (λ (b : Bool). if b then 1 else 0) (eq-eqb x x refl) in
    has x ys (omega arith)

rest_sums : (x : ℕ) (xs ys : List ℕ) (found : Has ys x) → SameSums (x ∷ xs) ys
    → SameSums xs (found.before ++ found.after)
rest_sums x xs ys found sums h =
    let left = sum_by-cons h x xs in
    let both : sum_by h (x ∷ xs) ≡ sum_by h (found.before ++ x ∷ found.after) = sums h ∙ ap (sum_by h) found.is in
    omega (
      arith,
      sum_by-append h found.before (x ∷ found.after),
      sum_by-append h found.before found.after,
      sum_by-cons h x found.after,
    )

-- rows in front of others go behind them
pass_by : (a b c : List Row) → IsPermutation (a ++ (b ++ c)) (b ++ (a ++ c))
pass_by a b c =
    subst (λ l. IsPermutation l (b ++ (a ++ c))) (append_assoc a b c)
    (subst (λ r. IsPermutation ((a ++ b) ++ c) r) (append_assoc b a c)
    (IsPermutation-append (a ++ b) (b ++ a) c c (IsPermutation-append_comm a b) (IsPermutation-refl c)))

-- the rows of pieces, where two lists have the same pieces, each as often
pub rows_moved : (f : ℕ → List Row) (xs ys : List ℕ) → SameSums xs ys → IsPermutation (flat_map f xs) (flat_map f ys)
rows_moved f [] ys sums =
    subst (λ l. IsPermutation [] (flat_map f l)) (sym (none_there ys (sym (sums (λ _. 1))))) (IsPermutation-refl [])
rows_moved f (x ∷ xs) ys sums =
    let found : Has ys x = first_found x xs ys sums in
    let front : List Row = flat_map f found.before in
    let back : List Row = flat_map f found.after in
    let rest : IsPermutation (flat_map f xs) (front ++ back) =
    subst (λ r. IsPermutation (flat_map f xs) r) (flat_map-append f found.before found.after)
    (rows_moved f xs (found.before ++ found.after) (rest_sums x xs ys found sums)) in
    let here : IsPermutation (f x ++ flat_map f xs) (front ++ (f x ++ back)) =
    IsPermutation-trans (f x ++ flat_map f xs) (f x ++ (front ++ back)) (front ++ (f x ++ back))
    (IsPermutation-append (f x) (f x) (flat_map f xs) (front ++ back) (IsPermutation-refl (f x)) rest)
    (pass_by (f x) front back) in
    subst (λ r. IsPermutation (f x ++ flat_map f xs) r) (sym (flat_map-append f found.before (x ∷ found.after))
    ∙ ap (flat_map f) (sym found.is)) here

-- where each piece was taken as often as it stands in the front, the rows of what was taken are the live ones
pub rows_are_live : ((held : Held) → live_rows held ≡ rows_from held 0 held.state.front) → (held : Held)
    (taken : List ℕ) → SameSums (range_with_len 0 (pieces_in held)) taken
    → IsPermutation (live_rows held) (rows_of held taken)
rows_are_live by_words held taken sums =
    subst (λ rows. IsPermutation rows (rows_of held taken)) (all_rows held ∙ sym (by_words held))
    (rows_moved (piece_rows held) (range_with_len 0 (pieces_in held)) taken sums)

-- all pieces have all candidates
pub runs_are_all : ((held : Held) → length (candidates_in held) ≡ runs_from held.plan held.state.front) → (held : Held)
    → runs_of held (range_with_len 0 (pieces_in held)) ≡ length (candidates_in held)
runs_are_all by_words held = all_runs held ∙ sym (by_words held)

-- how many pieces so many words have
pub count_is : (held : Held) (words : ℕ) → words ≡ length held.state.front → (words + 15) / 16 ≡ pieces_in held
unfolding pieces_in
count_is held words many = ap (λ (n : ℕ). (n + 15) / 16) many
