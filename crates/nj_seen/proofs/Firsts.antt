-- Which rows are fresh, row by row.
use Rattle.std.proofs.Common.{◌≡◌, ℕ, ◌+◌, ◌<◌, ◌≤◌, Bool, true, false, not, ◌&&◌, ◌||◌, List, [], ◌∷◌, ◌++◌, length, take, drop, get_or, refl, sym, ap, ◌∙◌, subst, arith, length-append, ◌==◌, nat_lt, if◌then◌else◌}
use Rattle.std.specs.Prelude.{filter}
use Rattle.std.specs.List.{list_any}
use Rattle.std.proofs.lemmas.Bool.{lt-ltb, le-ltb}
use Rattle.std.proofs.lemmas.List.{take_more, take_all, take-append-drop, at_drop_more}
use Rattle.std.proofs.Math.Seq.{get_or-append_seam}
use Rattle.std.proofs.lemmas.List.Folds.{list_any_none, list_any_more}
use Rattle.std.proofs.lemmas.List.Elements.{filter-append, All-cons, All-weaker}
use Rattle.nj_search_defs.specs.Pruning.{Seen, is_seen}
use Rattle.nj_rows.specs.declared.Row.{Row}
use Rattle.nj_seen.specs.Rows.{is_fresh_row, IsRising, fresh_rows}

-- some row has the key
abbrev pub has_key : ℕ → List Row → Bool
has_key key rows = list_any (λ row. row.key == key) rows

-- a row of smaller number has the key
abbrev pub has_key_below : Row → List Row → Bool
has_key_below row rows = list_any (λ other. nat_lt other.number row.number && (other.key == row.key)) rows

-- where numbers rise, the rows of smaller number are those before
pub before_it : (before : List Row) (row : Row) (behind : List Row) → IsRising (before ++ row ∷ behind)
    → has_key_below row (before ++ row ∷ behind) ≡ has_key row.key before
before_it [] row behind rises =
    list_any_none (λ other. nat_lt other.number row.number && (other.key == row.key)) (row ∷ behind)
    (All-cons (λ other. (nat_lt other.number row.number && (other.key == row.key)) ≡ false) row behind
    (later row (omega arith)) (All-weaker (λ other. row.number < other.number)
    (λ other. (nat_lt other.number row.number && (other.key == row.key)) ≡ false)
    (λ other lt. later other (omega arith)) behind rises.0)) where
      later : (other : Row) → row.number ≤ other.number
          → (nat_lt other.number row.number && (other.key == row.key)) ≡ false
      later other le = ap (λ b. b && (other.key == row.key)) (le-ltb other.number row.number le)
before_it (first ∷ before) row behind rises =
    let lt : first.number < row.number =
    subst (λ (later : Row). first.number < later.number) (get_or-append_seam before row behind row)
    (rises.0 (length before) row (omega (arith, length-append before (row ∷ behind)))) in
    (λ i. (lt-ltb first.number row.number lt i && (first.key == row.key)) || before_it before row behind rises.1 i)

-- so a row is fresh where its key is neither seen nor met before
pub is_fresh_at : (seen : Seen) (rows : List Row) (i : ℕ) (default : Row) → i < length rows → IsRising rows
    → is_fresh_row seen rows (get_or rows i default)
    ≡ (not (is_seen seen (get_or rows i default).key) && not (has_key (get_or rows i default).key (take i rows)))
is_fresh_at seen rows i default lt rises =
    let row : Row = get_or rows i default in
    let whole : rows ≡ take i rows ++ row ∷ drop (i + 1) rows =
    sym (take-append-drop i rows) ∙ at_drop_more (λ left. take i rows ++ left) rows i default lt in
    ap (λ has. not (is_seen seen row.key) && not has)
    (ap (has_key_below row) whole ∙ before_it (take i rows) row (drop (i + 1) rows) (subst IsRising whole rises))

-- the fresh among some rows
abbrev pub fresh_among : Seen → List Row → List Row → List Row
fresh_among seen rows some = filter (is_fresh_row seen rows) some

-- the keys of the first i rows are met, and the fresh of them are collected
pub record IsMet (seen : Seen) (rows : List Row) (i : ℕ) (has : ℕ → Bool) (fresh : List Row) : Type 0 where
  pub met : (key : ℕ) → has key ≡ has_key key (take i rows)
  pub collected : fresh ≡ fresh_among seen rows (take i rows)

-- one row more
pub one_met : (seen : Seen) (rows : List Row) (i : ℕ) (default : Row) (has has' : ℕ → Bool)
    (fresh fresh' : List Row) (first : Bool)
    → i < length rows → IsRising rows → IsMet seen rows i has fresh
    → first ≡ (not (has (get_or rows i default).key) && not (is_seen seen (get_or rows i default).key))
    → ((key : ℕ) → has' key ≡ (has key || ((get_or rows i default).key == key)))
    → fresh' ≡ fresh ++ (if first then get_or rows i default ∷ [] else []) → IsMet seen rows (i + 1) has' fresh'
one_met seen rows i default has has' fresh fresh' first lt rises met tells adds pushed = record {
  met = λ key.
      adds key ∙ ap (λ b. b || ((get_or rows i default).key == key)) (met.met key)
      ∙ sym (list_any_more (λ (r : Row). r.key == key) rows i default lt);
  collected =
      let row : Row = get_or rows i default in
      let now : is_fresh_row seen rows row ≡ first =
      is_fresh_at seen rows i default lt rises
      ∙ turned (is_seen seen row.key) (has_key row.key (take i rows))
      ∙ ap (λ b. not b && not (is_seen seen row.key)) (sym (met.met row.key)) ∙ sym tells in
      pushed ∙ ap (λ b. fresh ++ (if b then row ∷ [] else [])) (sym now)
      ∙ ap (λ xs. xs ++ filter (is_fresh_row seen rows) (row ∷ [])) met.collected
      ∙ sym (filter-append (is_fresh_row seen rows) (take i rows) (row ∷ []))
      ∙ sym (ap (filter (is_fresh_row seen rows)) (take_more rows i default lt));
} where
  turned : (a b : Bool) → (not a && not b) ≡ (not b && not a)
  turned true true = refl
  turned true false = refl
  turned false true = refl
  turned false false = refl

-- at the end all fresh rows are collected
pub all_met : (seen : Seen) (rows : List Row) (i : ℕ) (has : ℕ → Bool) (fresh : List Row) → length rows ≤ i
    → IsMet seen rows i has fresh → fresh ≡ fresh_rows seen rows
unfolding fresh_rows
all_met seen rows i has fresh le met = met.collected ∙ ap (filter (is_fresh_row seen rows)) (take_all i rows le)
