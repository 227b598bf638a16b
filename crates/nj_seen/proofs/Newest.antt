-- The generation of the fresh rows, and the table that holds the seen keys with it.
use Rattle.std.proofs.Common.{◌≡◌, ◌≢◌, ℕ, ◌+◌, ◌<◌, ◌≤◌, ◌⊎◌, inl, inr, ⊎_elim, Bool, true, false, cond, not, ◌&&◌, ◌==◌, nat_lt, List, [], ◌∷◌, ◌++◌, length, map, refl, sym, ap, ◌∙◌, subst, arith, eq-eqb, append-nil, append_assoc}
use Rattle.std.specs.Prelude.{Option, Some, None, filter, option_map, if◌then◌else◌}
use Rattle.std.specs.Ordering.{is_lt, nat_cmp}
use Rattle.std.specs.List.{AllPairs, concat, list_any}
use Rattle.std.specs.List.Sorted.{IsSorted}
use Rattle.std.proofs.lemmas.Bool.{and_parts, lt-ltb, le-ltb, both_ways, not-true, false_from_ne_true}
use Rattle.std.proofs.lemmas.Cmp.{nat_cmp_total}
use Rattle.std.proofs.lemmas.List.{length_push}
use Rattle.std.proofs.lemmas.List.Elements.{All-push}
use Rattle.std.proofs.lemmas.List.Sorted.{ranks_by}
use Rattle.nj_search_defs.specs.Order.{put_in, in_order}
use Rattle.nj_search_defs.specs.Pruning.{Seen, is_seen}
use Rattle.nj_rows.proofs.Orders.{in_order_sorted}
use Rattle.nj_rows.specs.declared.Row.{Row}
use Rattle.nj_claims.specs.Tables.{owner_in}
use Rattle.nj_seen.specs.Held.{AreInOrder}
use Rattle.nj_seen.specs.Rows.{IsRising, is_fresh_row, fresh_rows, generation_rows}
use Rattle.nj_seen.specs.Held.{HoldsSeen, first_claim, is_owner, is_owned, step_of, oldest_step, published}
use Rattle.nj_seen.proofs.Keys.{less_is}
use Rattle.nj_seen.proofs.Members.{In, Distinct, of_member, distinct, differ, in_filter, filtered, distinct_both, in_map, mapped, member_any, is_key, key_is}
use Rattle.nj_seen.proofs.Claims.{Claimed, IsClosed, is_beaten, is_seen_in, step_within, closed_kept, closed_claim, closed_most, row_owns}

module _ {X : Type 0} (before : X → X → Bool) where
  -- members of a list with x put in
  in_put : (z x : X) (ys : List X) → In z (put_in before x ys) → (x ≡ z) ⊎ In z ys
  in_put z x [] = λ i. i
  in_put z x (y ∷ ys) =
      elim (before x y) as (λ b. In z (cond b (x ∷ y ∷ ys) (y ∷ put_in before x ys)) → (x ≡ z) ⊎ In z (y ∷ ys)) [
        | true ↦ λ i. i
        | false ↦ λ i. ⊎_elim (λ (e : y ≡ z). inr (inl e))
            (λ (r : In z (put_in before x ys)).
            ⊎_elim (λ (e : x ≡ z). inl e) (λ (s : In z ys). inr (inr s)) (in_put z x ys r)) i
      ]

  put_in_has : (z x : X) (ys : List X) → (x ≡ z) ⊎ In z ys → In z (put_in before x ys)
  put_in_has z x [] i = i
  put_in_has z x (y ∷ ys) i =
      elim (before x y) as (λ b. In z (cond b (x ∷ y ∷ ys) (y ∷ put_in before x ys))) [
        | true ↦ i
        | false ↦ ⊎_elim (λ (e : x ≡ z). inr (put_in_has z x ys (inl e)))
            (λ (r : In z (y ∷ ys)). ⊎_elim (λ (e : y ≡ z). inl e) (λ (s : In z ys). inr (put_in_has z x ys (inr s))) r)
            i
      ]

  distinct_put : (x : X) (ys : List X) → (In x ys → ⊥) → Distinct ys → Distinct (put_in before x ys)
  distinct_put x [] lacks d = (lacks, d)
  distinct_put x (y ∷ ys) lacks d =
      elim (before x y) as (λ b. Distinct (cond b (x ∷ y ∷ ys) (y ∷ put_in before x ys))) [
        | true ↦ (lacks, d)
        | false ↦ (
          λ i. ⊎_elim (λ (e : x ≡ y). lacks (inl (sym e))) (λ (r : In y ys). d.0 r) (in_put y x ys i),
          distinct_put x ys (λ i. lacks (inr i)) d.1,
        )
      ]

  -- members of a list in order
  pub in_ordered : (z : X) (xs : List X) → In z (in_order before xs) → In z xs
  in_ordered z [] i = i
  in_ordered z (x ∷ xs) i =
      ⊎_elim (λ (e : x ≡ z). inl e) (λ (r : In z (in_order before xs)). inr (in_ordered z xs r))
      (in_put z x (in_order before xs) i)

  pub ordered_has : (z : X) (xs : List X) → In z xs → In z (in_order before xs)
  ordered_has z [] i = i
  ordered_has z (x ∷ xs) i =
      put_in_has z x (in_order before xs) (⊎_elim (λ (e : x ≡ z). inl e) (λ (r : In z xs). inr (ordered_has z xs r)) i)

  pub distinct_ordered : (xs : List X) → Distinct xs → Distinct (in_order before xs)
  distinct_ordered [] d = tt
  distinct_ordered (x ∷ xs) d =
      distinct_put x (in_order before xs) (λ i. d.0 (in_ordered x xs i)) (distinct_ordered xs d.1)

-- numbers in rising order are in order
pub rising_sorted : (xs : List ℕ) → AreInOrder (in_order nat_lt xs)
rising_sorted xs =
    subst (IsSorted nat_cmp) (λ i. in_order (λ x y. less_is x y i) xs)
    (in_order_sorted (λ x y. is_lt (nat_cmp x y)) (ranks_by nat_cmp_total (λ n. n)) xs)

abbrev pub keys_of : List Row → List ℕ
keys_of rows = map (λ (r : Row). r.key) rows

-- the keys of rows of which none has the key of a row of smaller number are different
pub distinct_fresh : (whole : List Row) (p : Row → Bool)
    → ((a b : Row) → In a whole → p b ≡ true → a.number < b.number → a.key ≡ b.key → ⊥)
    → (rows : List Row) → ((r : Row) → In r rows → In r whole) → IsRising rows → Distinct (keys_of (filter p rows))
distinct_fresh whole p first [] within rises = tt
distinct_fresh whole p first (row ∷ rows) within rises =
    elim (p row) as (λ b. Distinct (keys_of (cond b (row ∷ filter p rows) (filter p rows)))) [
      | true ↦ (
        λ i. let s = in_map (λ (r : Row). r.key) row.key (filter p rows) i in let t = in_filter p s.0 rows s.1 in
            first row s.0 (within row (inl refl)) t.1
            (of_member (λ (later : Row). row.number < later.number) rows s.0 rises.0 t.0) (sym s.2),
        distinct_fresh whole p first rows (λ r i. within r (inr i)) rises.1,
      )
      | false ↦ distinct_fresh whole p first rows (λ r i. within r (inr i)) rises.1
    ]

-- a fresh row is not seen, and no row of smaller number has its key
pub fresh_unseen : (seen : Seen) (rows : List Row) (row : Row) → is_fresh_row seen rows row ≡ true
    → is_seen seen row.key ≡ false
fresh_unseen seen rows row t =
    not-true (is_seen seen row.key) (and_parts (not (is_seen seen row.key)) (not (is_beaten rows row)) t).0

pub fresh_first : (seen : Seen) (rows : List Row) (a b : Row) → In a rows → is_fresh_row seen rows b ≡ true
    → a.number < b.number → a.key ≡ b.key → ⊥
fresh_first seen rows a b i t less same =
    both_ways (is_beaten rows b) (not-true (is_beaten rows b)
    (and_parts (not (is_seen seen b.key)) (not (is_beaten rows b)) t).1)
    (member_any (λ other. nat_lt other.number b.number && (other.key == b.key)) a rows i
    (λ j. lt-ltb a.number b.number less j && eq-eqb a.key b.key same j))

-- the generation of the fresh rows
abbrev pub newest : Seen → List Row → List ℕ
newest seen rows = generation_rows (fresh_rows seen rows)

pub newest_distinct : (seen : Seen) (rows : List Row) → IsRising rows → Distinct (newest seen rows)
unfolding generation_rows fresh_rows
newest_distinct seen rows rises =
    distinct_ordered nat_lt (keys_of (filter (is_fresh_row seen rows) rows))
    (distinct_fresh rows (is_fresh_row seen rows) (fresh_first seen rows) rows (λ r i. i) rises)

pub newest_sorted : (seen : Seen) (rows : List Row) → AreInOrder (newest seen rows)
unfolding generation_rows fresh_rows
newest_sorted seen rows = rising_sorted (keys_of (filter (is_fresh_row seen rows) rows))

-- a key of the generation is a fresh row's
pub record OfFresh (seen : Seen) (rows : List Row) (key : ℕ) : Type 0 where
  pub row : Row
  pub member : In row rows
  pub fresh : is_fresh_row seen rows row ≡ true
  pub key_is : row.key ≡ key

pub of_fresh : (seen : Seen) (rows : List Row) (key : ℕ) → In key (newest seen rows) → OfFresh seen rows key
unfolding generation_rows fresh_rows
of_fresh seen rows key i =
    let s = in_map (λ (r : Row). r.key) key (filter (is_fresh_row seen rows) rows)
    (in_ordered nat_lt key (keys_of (filter (is_fresh_row seen rows) rows)) i) in
    let t = in_filter (is_fresh_row seen rows) s.0 rows s.1 in
    record { row = s.0; member = t.0; fresh = t.1; key_is = s.2 }

pub fresh_in : (seen : Seen) (rows : List Row) (row : Row) → In row rows → is_fresh_row seen rows row ≡ true
    → In row.key (newest seen rows)
unfolding generation_rows fresh_rows
fresh_in seen rows row i t =
    ordered_has nat_lt row.key (keys_of (filter (is_fresh_row seen rows) rows))
    (mapped (λ (r : Row). r.key) row (filter (is_fresh_row seen rows) rows)
    (filtered (is_fresh_row seen rows) row rows i t))

-- the keys with a generation more
pub concat_push : (seen : Seen) (keys : List ℕ) → concat (seen ++ keys ∷ []) ≡ concat seen ++ keys
concat_push [] keys = append-nil keys
concat_push (first ∷ later) keys =
    ap (λ xs. first ++ xs) (concat_push later keys) ∙ sym (append_assoc first (concat later) keys)

-- the step of a key with a generation more
pub step_push : (first : ℕ) (seen : Seen) (keys : List ℕ) (key owner : ℕ) → step_of first seen key ≡ Some owner
    → step_of first (seen ++ keys ∷ []) key ≡ Some owner
step_push first [] keys key owner = λ e. absurd (cc)
step_push first (oldest ∷ later) keys key owner =
    elim (list_any (λ k. k == key) oldest) as (λ b. (if b then Some first else step_of (first + 1) later key)
    ≡ Some owner
    → (if b then Some first else step_of (first + 1) (later ++ keys ∷ []) key) ≡ Some owner) [
      | true ↦ λ e. e
      | false ↦ λ e. step_push (first + 1) later keys key owner e
    ]

pub step_push_new : (first last : ℕ) (seen : Seen) (keys : List ℕ) (key : ℕ) → first + length seen ≡ last
    → step_of first seen key ≡ None
    → step_of first (seen ++ keys ∷ []) key ≡ (if list_any (λ k. k == key) keys then Some last else None)
step_push_new first last [] keys key at = λ e. let same : first ≡ last =
    omega arith in ap (λ n. if list_any (λ k. k == key) keys then Some n else None) same
step_push_new first last (oldest ∷ later) keys key at =
    elim (list_any (λ k. k == key) oldest) as (λ b. (if b then Some first else step_of (first + 1) later key) ≡ None
    → (if b then Some first else step_of (first + 1) (later ++ keys ∷ []) key)
    ≡ (if list_any (λ k. k == key) keys then Some last else None)) [
      | true ↦ λ e. absurd (cc)
      | false ↦ λ e. step_push_new (first + 1) last later keys key (omega arith) e
    ]

-- a table that tells the seen keys with the generation of the fresh rows holds them
pub holds_with : (before words : List ℕ) (seen : Seen) (step : ℕ) (rows : List Row) → HoldsSeen before seen step
    → IsRising rows
    → ((key : ℕ) → owner_in words key ≡ step_of (oldest_step step seen) (seen ++ newest seen rows ∷ []) key)
    → HoldsSeen words (seen ++ newest seen rows ∷ []) (step + 1)
holds_with before words seen step rows holds rises each =
    let few : length seen ≤ step + 1 = holds.few in
    let long : length (seen ++ newest seen rows ∷ []) ≡ length seen + 1 = length_push seen (newest seen rows) in
    let at : oldest_step step seen ≡ oldest_step (step + 1) (seen ++ newest seen rows ∷ []) = omega arith in
    record {
      few = omega arith;
      in_order = All-push AreInOrder seen (newest seen rows) holds.in_order (newest_sorted seen rows);
      once = subst (AllPairs (λ a b. a ≢ b)) (sym (concat_push seen (newest seen rows)))
          (differ (concat seen ++ newest seen rows)
          (distinct_both (concat seen) (newest seen rows) (distinct (concat seen) holds.once)
          (newest_distinct seen rows rises)
          (λ key a b. let f = of_fresh seen rows key b in
          both_ways (is_seen seen key) (ap (is_seen seen) (sym f.key_is) ∙ fresh_unseen seen rows f.row f.fresh)
          (is_seen_in key seen a))));
      owners = λ key. each key ∙ ap (λ n. step_of n (seen ++ newest seen rows ∷ []) key) at;
    }

-- what is published
published_step : (step owner : ℕ) → owner < first_claim → published step owner ≡ owner
published_step step owner lt = ap (λ b. if b then owner else step) (lt-ltb owner first_claim lt)

published_claim : (step owner : ℕ) → first_claim ≤ owner → published step owner ≡ step
published_claim step owner le = ap (λ b. if b then owner else step) (le-ltb owner first_claim le)

module _ (opening closed words : List ℕ) (seen : Seen) (step : ℕ) (rows : List Row) (claims : Claimed)
    (is : IsClosed opening closed seen step rows claims)
    (publishes : (key : ℕ) → owner_in words key ≡ option_map (published (step + 1)) (owner_in closed key)) where
  first : ℕ
  first = oldest_step step seen

  kept_key : (key owner : ℕ) → owner_in opening key ≡ Some owner
      → owner_in words key ≡ step_of (oldest_step step seen) (seen ++ newest seen rows ∷ []) key
  kept_key key owner e =
      let le : owner ≤ step = step_within opening seen step key owner is.holds e in
      let below : step < first_claim = is.below in
      publishes key ∙ (ap (option_map (published (step + 1)))
      (closed_kept opening closed seen step rows claims is key owner e)
      ∙ (ap (λ (o : ℕ). Some o) (published_step (step + 1) owner (omega arith))
      ∙ sym (step_push (oldest_step step seen) seen (newest seen rows) key owner (sym (is.holds.owners key) ∙ e))))

  new_key : (key owner : ℕ) → owner_in opening key ≡ None → owner_in closed key ≡ Some owner
      → list_any (λ k. k == key) (newest seen rows) ≡ true
  new_key key owner none e =
      let m = closed_claim opening closed seen step rows claims is key owner none e in
      let owned : is_owned closed m.row ≡ true =
      ap (is_owner (first_claim + m.row.number)) (ap (owner_in closed) m.key_is ∙ e)
      ∙ eq-eqb owner (first_claim + m.row.number) (sym m.number_is) in
      key_is key (newest seen rows) (subst (λ k. In k (newest seen rows)) m.key_is
      (fresh_in seen rows m.row m.member
      (sym (row_owns opening closed seen step rows claims is m.row m.member) ∙ owned)))

  no_key : (key : ℕ) → owner_in closed key ≡ None → list_any (λ k. k == key) (newest seen rows) ≡ false
  no_key key e =
      false_from_ne_true (list_any (λ k. k == key) (newest seen rows)) (λ t.
      let f = of_fresh seen rows key (is_key key (newest seen rows) t) in
      let m = closed_most opening closed seen step rows claims is f.row f.member in
      let g : None ≡ Some m.0 = sym e ∙ (ap (owner_in closed) (sym f.key_is) ∙ m.1) in absurd (cc))

  last_step : oldest_step step seen + length seen ≡ step + 1
  last_step = let few : length seen ≤ step + 1 = is.holds.few in omega arith

  other_key : (key : ℕ) (x : Option ℕ) → owner_in opening key ≡ None → owner_in closed key ≡ x
      → owner_in words key ≡ step_of (oldest_step step seen) (seen ++ newest seen rows ∷ []) key
  other_key key None none e =
      publishes key ∙ (ap (option_map (published (step + 1))) e
      ∙ sym (step_push_new (oldest_step step seen) (step + 1) seen (newest seen rows) key last_step
      (sym (is.holds.owners key) ∙ none)
      ∙ ap (λ b. if b then Some (step + 1) else None) (no_key key e)))
  other_key key (Some owner) none e =
      let m = closed_claim opening closed seen step rows claims is key owner none e in
      let at : first_claim + m.row.number ≡ owner = m.number_is in
      publishes key ∙ (ap (option_map (published (step + 1))) e
      ∙ (ap (λ (o : ℕ). Some o) (published_claim (step + 1) owner (omega arith))
      ∙ sym (step_push_new (oldest_step step seen) (step + 1) seen (newest seen rows) key last_step
      (sym (is.holds.owners key) ∙ none)
      ∙ ap (λ b. if b then Some (step + 1) else None) (new_key key owner none e))))

  each_key : (key : ℕ) → owner_in words key ≡ step_of (oldest_step step seen) (seen ++ newest seen rows ∷ []) key
  each_key key = go (owner_in opening key) refl where
    go : (x : Option ℕ) → owner_in opening key ≡ x
        → owner_in words key ≡ step_of (oldest_step step seen) (seen ++ newest seen rows ∷ []) key
    go None e = other_key key (owner_in closed key) e refl
    go (Some owner) e = kept_key key owner e

  -- the table holds the seen keys with the generation of the fresh rows
  pub holds_newest : IsRising rows → HoldsSeen words (seen ++ newest seen rows ∷ []) (step + 1)
  holds_newest rises = holds_with opening words seen step rows is.holds rises each_key
