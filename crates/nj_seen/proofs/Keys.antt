-- Keys in order, where one is found, and which generations are forgotten.
use Rattle.std.proofs.Common.{◌≡◌, ℕ, zero, suc, ◌+◌, ◌-◌, ◌<◌, ◌≤◌, Bool, true, false, ◌||◌, cond, Ordering, Less, Equal, Greater, List, [], ◌∷◌, length, map, take, drop, get_or, refl, sym, ap, ◌∙◌, subst, arith, ◌⊎◌, inl, inr, ◌==◌, nat_lt, ⊎_elim}
use Rattle.std.specs.Prelude.{Result, Ok, Err, is_ok, MatchResult}
use Rattle.std.specs.Ordering.{is_lt, nat_cmp}
use Rattle.std.specs.List.{All, list_any}
use Rattle.std.specs.List.Sorted.{IsBinarySearchResult, IsPermutation, IsSorted}
use Rattle.std.proofs.lemmas.Bool.{cases_lt, eq-eqb, ne_eqb, le-leb, lt-leb, le-ltb, lt-ltb}
use Rattle.std.proofs.lemmas.Cmp.{nat_cmp_total, ranked}
use Rattle.std.proofs.lemmas.Map.Keys.{ge_from_not_lt}
use Rattle.std.proofs.lemmas.List.{get_or_default, get_or-drop, length-drop, at_drop_more, drop-drop, drop_all, take-append-drop}
use Rattle.std.proofs.lemmas.List.Folds.{list_any_at, list_any_none, list_any-append}
use Rattle.std.proofs.lemmas.List.Sums.{sum_by-drop_more, sum_by-take-drop}
use Rattle.std.proofs.lemmas.List.Sorted.{searched, IsNonDecreasingBy-from_sort, ranks_by}
use Rattle.nj_search_defs.specs.Order.{in_order}
use Rattle.nj_search_defs.specs.Pruning.{Seen, key_count, forgotten, is_seen}
use Rattle.nj_rows.proofs.Orders.{sorted_in_order}
use Rattle.nj_rows.specs.declared.Row.{Row}
use Rattle.nj_seen.specs.Rows.{generation_rows}
use Rattle.nj_seen.specs.Held.{AreInOrder}

-- a binary search tells whether keys in order have a key
pub found : (keys : List ℕ) (key : ℕ) (r : Result ℕ ℕ) → IsBinarySearchResult (λ y. nat_cmp y key) keys r
    → AreInOrder keys
    → is_ok r ≡ list_any (λ k. k == key) keys
found keys key r search sorted =
    told r (searched keys key r search (λ i j le lt.
    IsNonDecreasingBy-from_sort (λ n. n) keys sorted i j 0 le lt)) where
      told : (r : Result ℕ ℕ) → MatchResult r (λ i. (i < length keys) × (get_or keys i 0 ≡ key))
          (λ i. (i ≤ length keys) × ((k : ℕ) → k < i → get_or keys k 0 < key)
          × ((k : ℕ) → i ≤ k → k < length keys → key < get_or keys k 0))
          → is_ok r ≡ list_any (λ k. k == key) keys
      told (Ok i) h = sym (list_any_at (λ k. k == key) keys i 0 h.0 (eq-eqb (get_or keys i 0) key h.1))
      told (Err i) h = sym (list_any_none (λ k. k == key) keys (λ k d lt. ne_eqb (get_or keys k d) key (λ e.
          let at : get_or keys k 0 ≡ key = get_or_default keys k 0 d lt ∙ e in
          ⊎_elim (λ below. omega (arith, at, h.1 k below)) (λ le. omega (arith, at, h.2 k le lt)) (cases_lt k i))))

-- keys that fit are not forgotten
pub all_stay : (slots room : ℕ) (seen : Seen) → key_count seen + room ≤ slots → forgotten slots room seen ≡ seen
all_stay slots room [] fits = refl
all_stay slots room (oldest ∷ rest) fits =
    ap (λ b. cond b (oldest ∷ rest) (forgotten slots room rest)) (le-leb (key_count (oldest ∷ rest) + room) slots fits)

-- the generations up to a place are forgotten, where the rest fits, or there is none, and with one more would not fit
pub up_to : (slots room : ℕ) (seen : Seen) (gone : ℕ)
    → (key_count (drop gone seen) + room ≤ slots) ⊎ (drop gone seen ≡ [])
    → ((before : ℕ) → before + 1 ≡ gone → slots < key_count (drop before seen) + room)
    → forgotten slots room seen ≡ drop gone seen
up_to slots room seen zero (inl fits) over = all_stay slots room seen fits
up_to slots room seen zero (inr none) over = ap (forgotten slots room) none ∙ sym none
up_to slots room [] (suc gone) fits over = refl
up_to slots room (oldest ∷ rest) (suc gone) fits over =
    let more : slots < key_count (drop gone (oldest ∷ rest)) + room = over gone (omega arith) in
    let part = sum_by-take-drop length (oldest ∷ rest) gone in
    ap (λ b. cond b (oldest ∷ rest) (forgotten slots room rest))
    (lt-leb (key_count (oldest ∷ rest) + room) slots (omega arith))
    ∙ up_to slots room rest gone fits (λ before e. over (suc before) (omega arith))

-- all are forgotten where the room alone does not fit
pub all_go : (slots room : ℕ) (seen : Seen) (gone : ℕ) → gone ≡ length seen → (room ≤ slots → ⊥)
    → drop gone seen ≡ forgotten slots room seen
all_go slots room seen gone all over =
    sym (up_to slots room seen gone (inr (drop_all gone seen (omega arith)))
    (λ before e. ⊎_elim (λ lt. omega arith) (λ le. absurd (over le)) (cases_lt slots room)))

-- the keys from a place on are one generation's and those behind it
pub one_more : (seen : Seen) (gone : ℕ) (keys : List ℕ) → 0 < gone → gone ≤ length seen
    → keys ≡ get_or seen (gone - 1) keys
    → key_count (drop (gone - 1) seen) ≡ length keys + key_count (drop gone seen)
one_more seen gone keys some within is =
    let next : gone - 1 + 1 ≡ gone = omega arith in
    sum_by-drop_more length seen (gone - 1) keys (omega arith)
    ∙ (λ i. length (sym is i) + key_count (drop (next i) seen))

-- the generations up to a place are forgotten, where the rest fits and the one before it does not
pub stopped : (slots room left : ℕ) (seen : Seen) (gone : ℕ) (keys : List ℕ) → 0 < gone → gone ≤ length seen
    → keys ≡ get_or seen (gone - 1) keys
    → left + key_count (drop gone seen) + room ≡ slots → left < length keys → drop gone seen ≡ forgotten slots room seen
stopped slots room left seen gone keys some within is fits over =
    sym (up_to slots room seen gone (inl (omega arith))
    (λ before e.
    let last : before ≡ gone - 1 = omega arith in
    let count = one_more seen gone keys some within is in
    let same : key_count (drop before seen) ≡ key_count (drop (gone - 1) seen) =
    ap (λ n. key_count (drop n seen)) last in
    omega arith))

-- none is forgotten where all fit
pub none_goes : (slots room left : ℕ) (seen : Seen) (gone : ℕ) → gone ≤ 0
    → left + key_count (drop gone seen) + room ≡ slots → seen ≡ forgotten slots room seen
none_goes slots room left seen gone none fits =
    let is : gone ≡ 0 = omega arith in
    let whole : key_count (drop gone seen) ≡ key_count seen = ap (λ n. key_count (drop n seen)) is in
    sym (all_stay slots room seen (omega arith))

-- no generation from a place on has the key where none before it has
pub none_behind : (p : List ℕ → Bool) (seen : Seen) (i j : ℕ) → i ≤ j → list_any p (drop i seen) ≡ false
    → list_any p (drop j seen) ≡ false
none_behind p seen i j le none =
    let at : i + (j - i) ≡ j = omega arith in
    let parts = list_any-append p (take (j - i) (drop i seen)) (drop (j - i) (drop i seen)) in
    ap (λ n. list_any p (drop n seen)) (sym at) ∙ ap (list_any p) (sym (drop-drop (j - i) i seen))
    ∙ second (list_any p (take (j - i) (drop i seen))) (list_any p (drop (j - i) (drop i seen)))
    (sym parts ∙ ap (list_any p) (take-append-drop (j - i) (drop i seen)) ∙ none) where
      second : (a b : Bool) → (a || b) ≡ false → b ≡ false
      second true b e = absurd (cc)
      second false b e = e

-- a generation from a place on has it
pub one_has : (p : List ℕ → Bool) (seen : Seen) (gone place : ℕ) (keys : List ℕ) → gone ≤ place → place < length seen
    → keys ≡ get_or seen place keys → p keys ≡ true
    → list_any p (drop gone seen) ≡ true
one_has p seen gone place keys le lt is has =
    let at : gone + (place - gone) ≡ place = omega arith in
    list_any_at p (drop gone seen) (place - gone) keys (omega (arith, length-drop gone seen))
    (ap p (get_or-drop gone seen (place - gone) keys ∙ ap (λ n. get_or seen n keys) at ∙ sym is) ∙ has)

-- a number compares as less where it is
pub less_is : (x y : ℕ) → is_lt (nat_cmp x y) ≡ nat_lt x y
less_is x y = by_order (nat_cmp x y) refl where
  by_order : (o : Ordering) → o ≡ nat_cmp x y → is_lt o ≡ nat_lt x y
  by_order Less e = sym (lt-ltb x y (ranked x y Less e))
  by_order Equal e = sym (le-ltb x y (omega (arith, ranked x y Equal e)))
  by_order Greater e = sym (le-ltb x y (omega (arith, ranked x y Greater e)))

-- sorted keys are the keys in rising order
pub in_rising_order : (xs ys : List ℕ) → IsPermutation xs ys → IsSorted nat_cmp ys → ys ≡ in_order nat_lt xs
in_rising_order xs ys moved sorted =
    sorted_in_order (λ x y. is_lt (nat_cmp x y)) (ranks_by nat_cmp_total (λ n. n)) none_ties xs ys moved sorted
    ∙ (λ i. in_order (λ x y. less_is x y i) xs) where
      none_ties : (x y : ℕ) → is_lt (nat_cmp x y) ≡ false → is_lt (nat_cmp y x) ≡ false → x ≡ y
      none_ties x y h k =
          let up : y ≤ x = ge_from_not_lt x y h in
          let down : x ≤ y = ge_from_not_lt y x k in
          omega arith

-- the keys of rows, sorted, are their generation
pub generation_is : (rows : List Row) (keys sorted : List ℕ) → keys ≡ map (λ row. row.key) rows
    → IsPermutation keys sorted → IsSorted nat_cmp sorted
    → sorted ≡ generation_rows rows
unfolding generation_rows
generation_is rows keys sorted is moved up = in_rising_order keys sorted moved up ∙ ap (in_order nat_lt) is

-- the last of the generations that are left, which is in order, is searched
searched_last : (seen : Seen) (place key : ℕ) (keys slice : List ℕ) (r : Result ℕ ℕ) → 0 < place → place ≤ length seen
    → All AreInOrder seen
    → keys ≡ get_or seen (place - 1) keys → slice ≡ keys → IsBinarySearchResult (λ y. nat_cmp y key) slice r
    → is_ok r ≡ list_any (λ k. k == key) keys
searched_last seen place key keys slice r some within sorted is same search =
    found keys key r (subst (λ xs. IsBinarySearchResult (λ y. nat_cmp y key) xs r) same search)
    (subst AreInOrder (sym is) (sorted (place - 1) keys (omega arith)))

-- a generation has the key
pub has_it : (seen : Seen) (gone place key : ℕ) (keys slice : List ℕ) (r : Result ℕ ℕ) → gone < place
    → place ≤ length seen → All AreInOrder seen
    → keys ≡ get_or seen (place - 1) keys → slice ≡ keys → IsBinarySearchResult (λ y. nat_cmp y key) slice r
    → is_ok r ≡ true
    → is_seen (drop gone seen) key ≡ true
has_it seen gone place key keys slice r lt within sorted is same search has =
    one_has (list_any (λ k. k == key)) seen gone (place - 1) keys (omega arith) (omega arith) is
    (sym (searched_last seen place key keys slice r (omega arith) within sorted is same search) ∙ has)

-- one generation more lacks the key
pub lacks_it : (seen : Seen) (place key : ℕ) (keys slice : List ℕ) (r : Result ℕ ℕ) → 0 < place → place ≤ length seen
    → All AreInOrder seen
    → keys ≡ get_or seen (place - 1) keys → slice ≡ keys → IsBinarySearchResult (λ y. nat_cmp y key) slice r
    → is_ok r ≡ false
    → is_seen (drop place seen) key ≡ false → is_seen (drop (place - 1) seen) key ≡ false
lacks_it seen place key keys slice r some within sorted is same search lacks none =
    let next : place - 1 + 1 ≡ place = omega arith in
    at_drop_more (λ left. is_seen left key) seen (place - 1) keys (omega arith)
    ∙ ap (λ ks. list_any (λ k. k == key) ks || is_seen (drop (place - 1 + 1) seen) key) (sym is)
    ∙ ap (λ b. b || is_seen (drop (place - 1 + 1) seen) key)
    (sym (searched_last seen place key keys slice r some within sorted is same search) ∙ lacks)
    ∙ ap (λ n. is_seen (drop n seen) key) next ∙ none
