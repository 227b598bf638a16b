-- The order of rows sorts them, and only equal rows tie. The winner, row by row.
use Rattle.std.proofs.Common.{◌≡◌, ◌≢◌, ℕ, ℤ, Ordering, Less, Equal, Greater, Bool, true, false, cond, List, [], ◌∷◌, refl, sym, ap, ap₂, ◌∙◌, ◌+◌, ◌<◌, length, drop, get_or, arith}
use Rattle.std.specs.Prelude.{Option, Some, None, ◌↔◌, filter, slice_get, All}
use Rattle.std.specs.Ordering.{is_lt, ordering_then, ordering_reverse, int_cmp, nat_cmp}
use Rattle.std.specs.Cmp.{IsTotalOrder, IsStrictWeakOrder}
use Rattle.std.specs.Cmp.Lexicographic.{slice_cmp, lists_total}
use Rattle.std.specs.Fn.{Called, ComparesAs}
use Rattle.std.specs.List.Sorted.{IsPermutation, IsSortedBy}
use denote.Param.Members.{Mut}
use denote.Ref.{Bor}
use Rattle.std.proofs.lemmas.List.{at_drop_more}
use Rattle.std.proofs.lemmas.Fn.{always_returns_same}
use Rattle.nj_rows.proofs.Orders.{sorted_in_order}
use Rattle.std.proofs.lemmas.Cmp.{ranked, int_ranked, on_total, then_total, back_total, nat_cmp_total, int_cmp_total}
use Rattle.std.proofs.lemmas.List.Sorted.{ranks_by}
use Rattle.std.proofs.lemmas.List.Elements.{All-nil, All-cons, All-head, All-tail}
use Rattle.nj_search_defs.specs.Order.{is_preferred, put_in, in_order}
use Rattle.nj_rows.specs.declared.Row.{Row}
use Rattle.nj_rows.specs.declared.Verdict3.{Verdict3}
use Rattle.nj_rows.specs.declared.Verdict3.TheVariants.{Go, Win, Fail}
use Rattle.nj_rows.specs.Order.{is_win_row, place_of, preference, remainder, row_order, is_row_before}
use Rattle.nj_rows.specs.Best.{first, better}

preference_total : IsTotalOrder preference
unfolding preference
preference_total =
    then_total (back_total (on_total (λ (r : Row). r.reward) int_cmp_total))
    (on_total (λ (r : Row). r.number) nat_cmp_total)

remainder_total : IsTotalOrder remainder
unfolding remainder
remainder_total =
    then_total
    (then_total (on_total (λ (r : Row). r.key) nat_cmp_total) (on_total (λ (r : Row). r.level) nat_cmp_total))
    (then_total (then_total (on_total (λ (r : Row). place_of r.verdict) nat_cmp_total)
    (on_total (λ (r : Row). r.pad) nat_cmp_total))
    (on_total (λ (r : Row). r.bucket) (lists_total int_cmp_total)))

row_order_total : IsTotalOrder row_order
unfolding row_order
row_order_total = then_total preference_total remainder_total

-- the order of rows sorts them
pub row_order_sorts : IsStrictWeakOrder is_row_before
row_order_sorts = ranks_by row_order_total (λ (r : Row). r)

-- two orders one after the other tie where both do
then_ties : (o p : Ordering) → ordering_then o p ≡ Equal → (o ≡ Equal) × (p ≡ Equal)
then_ties Less p h = absurd (cc)
then_ties Equal p h = (refl, h)
then_ties Greater p h = absurd (cc)

equal_numbers : (x y : ℕ) → nat_cmp x y ≡ Equal → x ≡ y
equal_numbers x y h = ranked x y Equal (sym h)

equal_rewards : (x y : ℤ) → int_cmp x y ≡ Equal → x ≡ y
equal_rewards x y h = int_ranked x y Equal (sym h)

equal_verdicts : (v w : Verdict3) → place_of v ≡ place_of w → v ≡ w
equal_verdicts Go Go h = refl
equal_verdicts Go Win h = absurd (omega (arith, h))
equal_verdicts Go Fail h = absurd (omega (arith, h))
equal_verdicts Win Go h = absurd (omega (arith, h))
equal_verdicts Win Win h = refl
equal_verdicts Win Fail h = absurd (omega (arith, h))
equal_verdicts Fail Go h = absurd (omega (arith, h))
equal_verdicts Fail Win h = absurd (omega (arith, h))
equal_verdicts Fail Fail h = refl

-- lists of values that compare as equal are equal
equal_values : (xs ys : List ℤ) → slice_cmp int_cmp xs ys ≡ Equal → xs ≡ ys
equal_values [] [] h = refl
equal_values [] (y ∷ ys) h = absurd (cc)
equal_values (x ∷ xs) [] h = absurd (cc)
equal_values (x ∷ xs) (y ∷ ys) h =
    let both = then_ties (int_cmp x y) (slice_cmp int_cmp xs ys) h in
    ap₂ (λ z zs. z ∷ zs) (equal_rewards x y both.0) (equal_values xs ys both.1)

-- rows that compare as equal are equal
equal_rows : (a b : Row) → row_order a b ≡ Equal → a ≡ b
unfolding row_order preference remainder
equal_rows a b h =
    let both = then_ties (preference a b) (remainder a b) h in
    let first = then_ties (int_cmp b.reward a.reward) (nat_cmp a.number b.number) both.0 in
    let rest =
    then_ties (ordering_then (nat_cmp a.key b.key) (nat_cmp a.level b.level))
    (ordering_then (ordering_then (nat_cmp (place_of a.verdict) (place_of b.verdict)) (nat_cmp a.pad b.pad))
    (slice_cmp int_cmp a.bucket b.bucket)) both.1 in
    let third = then_ties (nat_cmp a.key b.key) (nat_cmp a.level b.level) rest.0 in
    let fourth =
    then_ties (ordering_then (nat_cmp (place_of a.verdict) (place_of b.verdict)) (nat_cmp a.pad b.pad))
    (slice_cmp int_cmp a.bucket b.bucket) rest.1 in
    let last = then_ties (nat_cmp (place_of a.verdict) (place_of b.verdict)) (nat_cmp a.pad b.pad) fourth.0 in
    let reward : a.reward ≡ b.reward = sym (equal_rewards b.reward a.reward first.0) in
    let number : a.number ≡ b.number = equal_numbers a.number b.number first.1 in
    let key : a.key ≡ b.key = equal_numbers a.key b.key third.0 in
    let level : a.level ≡ b.level = equal_numbers a.level b.level third.1 in
    let verdict : a.verdict ≡ b.verdict =
    equal_verdicts a.verdict b.verdict (equal_numbers (place_of a.verdict) (place_of b.verdict) last.0) in
    let pad : a.pad ≡ b.pad = equal_numbers a.pad b.pad last.1 in
    let bucket : a.bucket ≡ b.bucket = equal_values a.bucket b.bucket fourth.1 in
    λ i. record {
      number = number i;
      key = key i;
      reward = reward i;
      level = level i;
      verdict = verdict i;
      pad = pad i;
      bucket = bucket i;
    }

-- what is neither before nor after is equal
neither : (o p : Ordering) → p ≡ ordering_reverse o → is_lt o ≡ false → is_lt p ≡ false → o ≡ Equal
neither Less p e h k = absurd (cc)
neither Equal p e h k = refl
neither Greater p e h k = absurd (let turned : is_lt p ≡ true = ap is_lt e in cc)

-- only equal rows tie
pub only_equal_tie : (a b : Row) → is_row_before a b ≡ false → is_row_before b a ≡ false → a ≡ b
only_equal_tie a b h k = equal_rows a b (neither (row_order a b) (row_order b a) (row_order_total.antisymm b a) h k)

then_untied : (o p : Ordering) → o ≢ Equal → ordering_then o p ≡ o
then_untied Less p h = refl
then_untied Equal p h = absurd (h refl)
then_untied Greater p h = refl

-- rows of different numbers stand in the candidates' order
pub preferred : (a b : Row) → a.number ≢ b.number → is_row_before a b ≡ is_preferred a.reward a.number b.reward b.number
unfolding row_order preference
preferred a b differ =
    ap is_lt (then_untied (preference a b) (remainder a b)
    (λ h. differ (equal_numbers a.number b.number
    (then_ties (int_cmp b.reward a.reward) (nat_cmp a.number b.number) h).1)))

-- the first win of rows by their order
abbrev pub winner_of : List Row → Option Row
winner_of rows = slice_get (in_order is_row_before (filter is_win_row rows)) 0

head_put : (row : Row) (rows : List Row)
    → slice_get (put_in is_row_before row rows) 0 ≡ Some (first row (slice_get rows 0))
head_put row [] = refl
head_put row (other ∷ rows) =
    elim (is_row_before row other) as (λ b.
    slice_get (cond b (row ∷ other ∷ rows) (other ∷ put_in is_row_before row rows)) 0 ≡ Some (cond b row other)) [
      | true ↦ refl
      | false ↦ refl
    ]

-- the winner with one row more in front
pub winner_more : (row : Row) (rows : List Row) → winner_of (row ∷ rows) ≡ better row (winner_of rows)
winner_more row rows =
    elim (is_win_row row) as (λ b.
    slice_get (in_order is_row_before (cond b (row ∷ filter is_win_row rows) (filter is_win_row rows))) 0
    ≡ cond b (Some (first row (winner_of rows))) (winner_of rows)) [
      | true ↦ head_put row (in_order is_row_before (filter is_win_row rows))
      | false ↦ refl
    ]

-- no row wins
abbrev NoWins : List Row → Type 0
NoWins rows = All (λ row. is_win_row row ≡ false) rows

better_none : (b : Bool) (row : Row) (best : Option Row) → cond b (Some (first row best)) best ≡ None
    → (b ≡ false) × (best ≡ None)
better_none true row best h = absurd (cc)
better_none false row best h = (refl, h)

-- there is no winner where no row wins, and only there
no_winner : (rows : List Row) → winner_of rows ≡ None → NoWins rows
no_winner [] h = All-nil (λ row. is_win_row row ≡ false)
no_winner (row ∷ rows) h =
    let both = better_none (is_win_row row) row (winner_of rows) (sym (winner_more row rows) ∙ h) in
    All-cons (λ row. is_win_row row ≡ false) row rows both.0 (no_winner rows both.1)

no_wins : (rows : List Row) → NoWins rows → winner_of rows ≡ None
no_wins [] all = refl
no_wins (row ∷ rows) all =
    winner_more row rows
    ∙ ap (λ b. cond b (Some (first row (winner_of rows))) (winner_of rows))
    (All-head (λ row. is_win_row row ≡ false) row rows all)
    ∙ no_wins rows (All-tail (λ row. is_win_row row ≡ false) row rows all)

pub none_exactly : (rows : List Row) (result : Option Row) → result ≡ winner_of rows → (result ≡ None) ↔ NoWins rows
none_exactly rows result is = (λ h. no_winner rows (sym is ∙ h), λ all. is ∙ no_wins rows all)

-- what a sort by a closure that compares rows gives
pub sorted_rows : {F : Type 0} {g : Mut F (Bor Row × (Bor Row × Unit {0})) Ordering} {f : F} (xs ys : List Row)
    → IsPermutation xs ys
    → ((lt : Row → Row → Bool) → IsStrictWeakOrder lt → ComparesAs g lt f → IsSortedBy lt ys)
    → ((a : Bor Row × (Bor Row × Unit {0})) (r : Ordering) (f' : F) → Called g f a r f'
    → (r ≡ row_order a.0.now a.1.0.now) × (f' ≡ f))
    → ys ≡ in_order is_row_before xs
sorted_rows {g = g} {f = f} xs ys moved sorted h =
    sorted_in_order is_row_before row_order_sorts only_equal_tie xs ys moved
    (sorted is_row_before row_order_sorts
    (always_returns_same g (λ a r. is_lt r ≡ is_row_before a.0.now a.1.0.now) f
    (λ a r f' k. (ap is_lt (h a r f' k).0, (h a r f' k).1))))

-- the winner from a place on
pub winner_step : (rows : List Row) (i : ℕ) (default : Row) → i < length rows
    → winner_of (drop i rows) ≡ better (get_or rows i default) (winner_of (drop (i + 1) rows))
winner_step rows i default lt =
    at_drop_more winner_of rows i default lt ∙ winner_more (get_or rows i default) (drop (i + 1) rows)
