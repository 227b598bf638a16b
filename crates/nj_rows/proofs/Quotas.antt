-- The rows that are kept one by one, and the counts of their buckets.
use Rattle.std.proofs.Common.{◌≡◌, ℕ, ℤ, pos, ◌+◌, ◌<◌, ◌≤◌, ◌⊎◌, ⊎_elim, true, false, cond, ◌&&◌, nat_lt, List, [], ◌∷◌, ◌++◌, length, take, drop, min, get_or, set, refl, sym, ap, ap₂, ◌∙◌, subst, arith, lt-ltb, le-ltb}
use Rattle.std.specs.Prelude.{Some, Result, Ok, Err, OnOk, IsOk, unwrap_or, count_by}
use Rattle.std.specs.HashMap.{HashMap, IsEmpty, Updates, get, spare}
use Rattle.std.specs.Map.{lookup}
use Rattle.std.proofs.lemmas.Bool.{false_from_ne_true, both_ways}
use Rattle.std.proofs.lemmas.Bool.Decides.{Decides-int_eq}
use Rattle.std.proofs.lemmas.Slice.Eq.{slice_eq-Decides}
use Rattle.std.proofs.lemmas.List.{length-set, take_more_set, get_or-drop, drop-drop, take_all}
use Rattle.std.proofs.lemmas.List.Sums.{fold_more, sum_by_push}
use Rattle.nj_search_defs.specs.Quota.{same_values, kept_with, limited}
use Rattle.nj_rows.specs.declared.Row.{Row}
use Rattle.nj_rows.specs.declared.Verdict3.TheVariants.{Go}
use Rattle.nj_rows.specs.Order.{is_alike_row}
use Rattle.nj_rows.specs.Keeping.{AreCounted}

-- ---- one row

-- a row is not kept where as many are kept as may be, or as many of its bucket
pub not_kept : (most quota count : ℕ) (done : List Row) (row : Row) → count ≡ count_by (is_alike_row row) done
    → (most ≤ length done) ⊎ (quota ≤ count)
    → done ≡ kept_with is_alike_row most quota done row
not_kept most quota count done row counts full =
    ⊎_elim
    (λ (m : most ≤ length done). sym (ap (λ b. cond (b && nat_lt (count_by (is_alike_row row) done) quota)
    (done ++ row ∷ []) done) (le-ltb (length done) most m)))
    (λ (q : quota ≤ count). let over : quota ≤ count_by (is_alike_row row) done = omega (arith, q, counts) in
    elim (nat_lt (length done) most) as (λ b. done
    ≡ cond (b && nat_lt (count_by (is_alike_row row) done) quota) (done ++ row ∷ []) done) [
      | true ↦ sym (ap (λ b. cond b (done ++ row ∷ []) done) (le-ltb (count_by (is_alike_row row) done) quota over))
      | false ↦ refl
    ]) full

-- else it is kept
pub is_kept : (most quota count : ℕ) (done : List Row) (row : Row) → count ≡ count_by (is_alike_row row) done
    → length done < most → count < quota
    → done ++ row ∷ [] ≡ kept_with is_alike_row most quota done row
is_kept most quota count done row counts room few =
    let below : count_by (is_alike_row row) done < quota = omega (arith, few, counts) in
    sym (ap (λ b. cond (b && nat_lt (count_by (is_alike_row row) done) quota) (done ++ row ∷ []) done)
    (lt-ltb (length done) most room)
    ∙ ap (λ b. cond b (done ++ row ∷ []) done) (lt-ltb (count_by (is_alike_row row) done) quota below))

-- ---- the counts

pub from_ok : {T E P : Type 0} (r : Result T E) → IsOk r → OnOk r P → P
from_ok (Ok v) is p = p
from_ok (Err e) is p = absurd (cc)

same_back : (a b : List ℤ) → same_values a b ≡ false → same_values b a ≡ false
same_back a b differ =
    false_from_ne_true (same_values b a) (λ t.
    both_ways (same_values a b) differ
    ((slice_eq-Decides Decides-int_eq a b (same_values a b) refl).1
    (sym ((slice_eq-Decides Decides-int_eq b a (same_values b a) refl).0 t))))

same_as : (a b : List ℤ) → same_values a b ≡ true → a ≡ b
same_as a b t = (slice_eq-Decides Decides-int_eq a b (same_values a b) refl).0 t

module _ {S : Type 0} (counts after : HashMap (List ℤ) ℕ S) (rows : List Row) (row : Row) (n kept count : ℕ)
    (inside : kept < length rows) where
  more_counted : AreCounted rows counts n kept → count ≡ count_by (is_alike_row row) (take kept rows)
      → (bucket : List ℤ) → unwrap_or
      (cond (same_values row.bucket bucket) (Some (count + 1)) (get same_values counts bucket)) 0
      ≡ count_by (λ r. same_values bucket r.bucket) (take kept rows ++ row ∷ [])
  more_counted are is bucket =
      elim (same_values row.bucket bucket) as (λ b. same_values row.bucket bucket ≡ b
      → unwrap_or (cond b (Some (count + 1)) (get same_values counts bucket)) 0
      ≡ count_by (λ r. same_values bucket r.bucket) (take kept rows ++ row ∷ [])) [
        | true ↦ λ t. (
            let same : row.bucket ≡ bucket = same_as row.bucket bucket t in
            let one : ◌≡◌ {A = ℕ} (cond (same_values bucket row.bucket) 1 0) 1 =
            ap (λ b. cond {A = ℕ} b 1 0) (subst (λ (b : List ℤ). same_values b row.bucket ≡ true) same
            (subst (λ (b : List ℤ). same_values row.bucket b ≡ true) (sym same) t)) in
            let old : count ≡ count_by (λ r. same_values bucket r.bucket) (take kept rows) =
            is ∙ ap (λ (b : List ℤ). count_by (λ r. same_values b r.bucket) (take kept rows)) same in
            omega (
              arith,
              sum_by_push (λ (r : Row). cond (same_values bucket r.bucket) 1 0) (take kept rows) row,
              one,
              old,
            ))
        | false ↦ λ f. (
            let none : ◌≡◌ {A = ℕ} (cond (same_values bucket row.bucket) 1 0) 0 =
            ap (λ b. cond {A = ℕ} b 1 0) (same_back row.bucket bucket f) in
            omega (
              arith,
              sum_by_push (λ (r : Row). cond (same_values bucket r.bucket) 1 0) (take kept rows) row,
              none,
              are.counted bucket,
            ))
      ] refl

  -- with the row counted
  pub counted_more : AreCounted rows counts n kept → count ≡ count_by (is_alike_row row) (take kept rows)
      → Updates same_values counts after row.bucket (Some (count + 1))
      → spare counts ≤ spare after + 1 → AreCounted (set rows kept row) after n (kept + 1)
  counted_more are is puts space = record {
    counted = λ bucket. ap (λ o. unwrap_or o 0) (puts.0 bucket) ∙ more_counted are is bucket
        ∙ ap (count_by (λ r. same_values bucket r.bucket)) (sym (take_more_set rows kept row inside));
    room = omega (arith, are.room, space, length-set rows kept row);
  }

-- ---- all rows

-- the rows before a place are looked at, those that are kept stand in front
pub record AreGathered {S : Type 0} (all rows : List Row) (counts : HashMap (List ℤ) ℕ S)
    (n quota place kept : ℕ) : Type 0 where
  pub kept_are : take kept rows ≡ limited is_alike_row n quota (take place all)
  pub rest : drop place rows ≡ drop place all
  pub long : length rows ≡ length all
  pub below : kept ≤ place
  pub counted : AreCounted rows counts n kept

-- a row, to be read where there is none
blank : Row
blank = record { number = 0; key = 0; reward = pos 0; level = 0; verdict = Go; pad = 0; bucket = [] }

pub none_gathered : {S : Type 0} (all : List Row) (counts : HashMap (List ℤ) ℕ S) (n quota : ℕ) → IsEmpty counts
    → min n (length all) ≤ spare counts
    → AreGathered all all counts n quota 0 0
none_gathered all counts n quota empty room = record {
  kept_are = refl;
  rest = refl;
  long = refl;
  below = omega arith;
  counted = record {
    counted = λ bucket. ap (λ es. unwrap_or (lookup (same_values bucket) es) 0) empty;
    room = omega (arith, room);
  };
}

module _ {S : Type 0} (all rows : List Row) (counts : HashMap (List ℤ) ℕ S) (n quota : ℕ) where
  pub one_gathered : {T : Type 0} (place kept : ℕ) (rows' : List Row) (counts' : HashMap (List ℤ) ℕ T) (kept' : ℕ)
      → place < length rows → AreGathered all rows counts n quota place kept
      → ((default : Row) → take kept' rows'
      ≡ kept_with is_alike_row n quota (take kept rows) (get_or rows place default))
      → drop (place + 1) rows' ≡ drop (place + 1) rows → length rows' ≡ length rows → kept' ≤ place + 1
      → AreCounted rows' counts' n kept'
      → AreGathered all rows' counts' n quota (place + 1) kept'
  one_gathered place kept rows' counts' kept' inside are keeps rest long below counted =
      let at : place + 0 ≡ place = omega arith in
      let within : place < length all = omega (arith, inside, are.long) in
      let read : get_or rows place blank ≡ get_or all place blank =
      ap (λ i. get_or rows i blank) (sym at)
      ∙ (sym (get_or-drop place rows 0 blank) ∙ (ap (λ l. get_or l 0 blank) are.rest
      ∙ (get_or-drop place all 0 blank ∙ ap (λ i. get_or all i blank) at))) in
      record {
        kept_are = keeps blank ∙ ap₂ (kept_with is_alike_row n quota) are.kept_are read
            ∙ sym (fold_more (kept_with is_alike_row n quota) [] all place blank within);
        rest = rest ∙ (sym (drop-drop 1 place rows) ∙ (ap (drop 1) are.rest ∙ drop-drop 1 place all));
        long = long ∙ are.long;
        below = below;
        counted = counted;
      }

  pub all_gathered : (place kept : ℕ) → length rows ≤ place → AreGathered all rows counts n quota place kept
      → take kept rows ≡ limited is_alike_row n quota all
  all_gathered place kept done are =
      are.kept_are ∙ ap (limited is_alike_row n quota) (take_all place all (omega (arith, done, are.long)))
