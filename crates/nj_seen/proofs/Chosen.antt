-- Rows in any order that have all of a kind give these in the same order as all rows do.
use Rattle.std.proofs.Common.{◌≡◌, ◌≢◌, ◌<◌, Bool, true, List, [], ◌∷◌, filter, refl, sym, ap, ◌∙◌, arith}
use Rattle.std.specs.List.{All, AllPairs, Contains}
use Rattle.std.specs.List.Sorted.{IsPermutation}
use Rattle.std.specs.Prelude.{slice_get}
use Rattle.nj_search_defs.specs.Order.{in_order}
use Rattle.nj_search_defs.specs.Pruning.{Seen}
use Rattle.nj_rows.specs.declared.Row.{Row}
use Rattle.nj_rows.specs.Order.{is_win_row, is_row_before}
use Rattle.nj_seen.specs.Rows.{IsRising, winner_row, is_fresh_row, fresh_rows}
use Rattle.nj_seen.proofs.Members.{In, Distinct, in_list, of_member, in_filter, filtered, distinct, distinct_filter}
use Rattle.nj_seen.proofs.Shuffling.{same_members}

-- the law that rows have one order
abbrev pub HaveOneOrder : Type 0
HaveOneOrder = (xs ys : List Row) → IsPermutation xs ys → in_order is_row_before xs ≡ in_order is_row_before ys

-- rows of different numbers are different, and so are those whose numbers rise
differ_by : (rows : List Row) → AllPairs (λ a b. a.number ≢ b.number) rows → Distinct rows
differ_by rows p = distinct rows (λ i j d l m e. p i j d l m (ap (λ (r : Row). r.number) e))

rising_differ : (rows : List Row) → IsRising rows → Distinct rows
rising_differ [] up = tt
rising_differ (row ∷ rows) up = (
  λ i. let lt : row.number < row.number =
      of_member (λ (later : Row). row.number < later.number) rows row up.0 i in absurd (omega arith),
  rising_differ rows up.1,
)

-- so the rows of a kind among some and among all are the same but for their order
pub of_kind : (p q : Row → Bool) (some rows : List Row) → Distinct some → Distinct rows → All (Contains rows) some
    → All (λ row. p row ≡ q row) rows
    → All (λ row. q row ≡ true → Contains some row) rows → IsPermutation (filter p some) (filter q rows)
of_kind p q some rows ds dr within same has =
    same_members (filter p some) (filter q rows) (distinct_filter p some ds) (distinct_filter q rows dr)
    (λ row i. let s = in_filter p row some i in
    let r : In row rows = in_list row rows (of_member (Contains rows) some row within s.0) in
    filtered q row rows r (sym (of_member (λ (x : Row). p x ≡ q x) rows row same r) ∙ s.1))
    (λ row i. let s = in_filter q row rows i in
    filtered p row some (in_list row some (of_member (λ (x : Row). q x ≡ true → Contains some x) rows row has s.0 s.1))
    (of_member (λ (x : Row). p x ≡ q x) rows row same s.0 ∙ s.1))

pub same_winner : HaveOneOrder → (some rows : List Row) → AllPairs (λ a b. a.number ≢ b.number) some → IsRising rows
    → All (Contains rows) some
    → All (λ row. is_win_row row ≡ true → Contains some row) rows → winner_row some ≡ winner_row rows
unfolding winner_row
same_winner law some rows once rises within wins =
    ap (λ xs. slice_get xs 0) (law (filter is_win_row some) (filter is_win_row rows)
    (of_kind is_win_row is_win_row some rows (differ_by some once) (rising_differ rows rises)
    within (λ k d lt. refl) wins))

pub same_fresh : (some rows : List Row) (test : Row → Bool) (seen : Seen) → AllPairs (λ a b. a.number ≢ b.number) some
    → IsRising rows
    → All (Contains rows) some → All (λ row. test row ≡ is_fresh_row seen rows row) rows
    → All (λ row. is_fresh_row seen rows row ≡ true → Contains some row) rows
    → IsPermutation (filter test some) (fresh_rows seen rows)
unfolding fresh_rows
same_fresh some rows test seen once rises within same has =
    of_kind test (is_fresh_row seen rows) some rows (differ_by some once) (rising_differ rows rises) within same has
