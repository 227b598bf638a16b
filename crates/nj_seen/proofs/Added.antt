-- A step of one thread: which keys are seen from a step on, and the table with the keys of the fresh rows.
use Rattle.std.proofs.Common.{◌≡◌, ◌≢◌, ℕ, zero, suc, ◌+◌, ◌-◌, ◌/◌, ◌<◌, ◌≤◌, ⊎_elim, Bool, true, false, not, ◌&&◌, ◌||◌, ◌==◌, nat_lt, cond, List, [], ◌∷◌, ◌++◌, length, take, drop, get_or, refl, sym, ap, ◌∙◌, arith}
use Rattle.std.specs.Prelude.{Option, Some, None, filter, if◌then◌else◌}
use Rattle.std.specs.List.{All, AllPairs, list_any}
use Rattle.std.proofs.lemmas.Bool.{le-leb, false_from_ne_true, cases_Bool, both_ways}
use Rattle.std.proofs.lemmas.List.{take_all}
use Rattle.std.proofs.lemmas.List.Elements.{Contains-get_or}
use Rattle.std.proofs.lemmas.List.Folds.{list_any_more}
use Rattle.nj_search_defs.specs.Order.{in_order}
use Rattle.nj_search_defs.specs.Pruning.{Seen, is_seen}
use Rattle.nj_rows.specs.declared.Row.{Row}
use Rattle.nj_claims.specs.Tables.{IsTable, entries_in, owner_in, slot_count}
use Rattle.nj_seen.specs.Rows.{IsRising, is_fresh_row, fresh_rows, generation_rows}
use Rattle.nj_seen.specs.Held.{HoldsSeen, keys_in_rows, is_owner_since, owner_since, step_of, oldest_step}
use Rattle.nj_seen.proofs.Firsts.{IsMet, one_met}
use Rattle.nj_seen.proofs.Members.{In, in_list, differ, in_filter, in_map, is_key, key_is}
use Rattle.nj_seen.proofs.Steps.{since_is, some_has, has_some}
use Rattle.nj_seen.proofs.Counting.{owners_since}
use Rattle.nj_seen.proofs.Claims.{is_seen_in, in_seen, owner_seen}
use Rattle.nj_seen.proofs.Newest.{keys_of, newest, in_ordered, ordered_has, fresh_unseen, fresh_first, distinct_fresh, step_push, step_push_new, holds_with}

-- a key is seen from a step on where its owner is the step or a later one
since_some : (from owner : ℕ) (x : Option ℕ) → owner_since from x ≡ Some owner → is_owner_since from x ≡ true
since_some from owner None e = absurd (cc)
since_some from owner (Some o) e =
    let s = since_is from owner (Some o) e in
    let le : from ≤ owner = s.1 in
    let same : o ≡ owner = cc in
    le-leb from o (omega arith)

since_none : (from : ℕ) (x : Option ℕ) → owner_since from x ≡ None → is_owner_since from x ≡ false
since_none from None e = refl
since_none from (Some o) e =
    false_from_ne_true (is_owner_since from (Some o))
    (λ t. let f : Some o ≡ None = sym (ap (λ b. if b then Some o else None) t) ∙ e in absurd (cc))

pub since_seen : (words : List ℕ) (seen : Seen) (step from key : ℕ) → HoldsSeen words seen step
    → is_owner_since from (owner_in words key) ≡ is_seen (drop (from - oldest_step step seen) seen) key
since_seen words seen step from key holds = go (owner_since from (owner_in words key)) refl where
  n : ℕ
  n = from - oldest_step step seen

  some : Seen
  some = drop (from - oldest_step step seen) seen

  first : ℕ
  first = oldest_step step seen + (from - oldest_step step seen)

  go : (x : Option ℕ) → owner_since from (owner_in words key) ≡ x
      → is_owner_since from (owner_in words key) ≡ is_seen (drop (from - oldest_step step seen) seen) key
  go None e =
      since_none from (owner_in words key) e
      ∙ sym (false_from_ne_true (is_seen (drop (from - oldest_step step seen) seen) key) (λ t.
      let h = has_some first (drop (from - oldest_step step seen) seen) key
      (in_seen key (drop (from - oldest_step step seen) seen) t) in
      let f : None ≡ Some h.0 = sym e ∙ (owners_since words seen step from holds key ∙ h.1) in absurd (cc)))
  go (Some o) e =
      since_some from o (owner_in words key) e
      ∙ sym (is_seen_in key (drop (from - oldest_step step seen) seen)
      (some_has first (drop (from - oldest_step step seen) seen) key o
      (sym (owners_since words seen step from holds key) ∙ e)))

-- one row more of those whose keys are looked up
pub one_unseen : (words : List ℕ) (seen : Seen) (step from : ℕ) → HoldsSeen words seen step
    → (rows : List Row) (i : ℕ) (default : Row) (has has' : ℕ → Bool) (fresh fresh' : List Row) (first : Bool)
    → i < length rows → IsRising rows → IsMet (drop (from - oldest_step step seen) seen) rows i has fresh
    → first ≡ (not (has (get_or rows i default).key)
    && not (is_owner_since from (owner_in words (get_or rows i default).key)))
    → ((key : ℕ) → has' key ≡ (has key || ((get_or rows i default).key == key)))
    → fresh' ≡ fresh ++ (if first then get_or rows i default ∷ [] else [])
    → IsMet (drop (from - oldest_step step seen) seen) rows (i + 1) has' fresh'
one_unseen words seen step from holds rows i default has has' fresh fresh' first lt rises met tells adds pushed =
    one_met (drop (from - oldest_step step seen) seen) rows i default has has' fresh fresh' first lt rises met
    (tells ∙ ap (λ b. not (has (get_or rows i default).key) && not b)
    (since_seen words seen step from (get_or rows i default).key holds)) adds pushed

-- ---- the keys of the fresh rows

-- such a key is a fresh row's
of_fresh_key : (seen : Seen) (rows : List Row) (key : ℕ) → In key (keys_in_rows (fresh_rows seen rows))
    → (row : Row) × In row rows × (is_fresh_row seen rows row ≡ true) × (row.key ≡ key)
unfolding fresh_rows
of_fresh_key seen rows key i =
    let s = in_map (λ (r : Row). r.key) key (filter (is_fresh_row seen rows) rows) i in
    let t = in_filter (is_fresh_row seen rows) s.0 rows s.1 in (s.0, t.0, t.1, s.2)

-- it has no owner
pub fresh_unowned : (words : List ℕ) (seen : Seen) (step : ℕ) (rows : List Row) (key : ℕ) → HoldsSeen words seen step
    → In key (keys_in_rows (fresh_rows seen rows)) → owner_in words key ≡ None
fresh_unowned words seen step rows key holds i = go (owner_in words key) refl where
  go : (x : Option ℕ) → owner_in words key ≡ x → owner_in words key ≡ None
  go None e = e
  go (Some o) e =
      let f = of_fresh_key seen rows key i in
      absurd (both_ways (is_seen seen key) (ap (is_seen seen) (sym f.3) ∙ fresh_unseen seen rows f.0 f.2)
      (owner_seen words seen step key o holds e))

pub all_unowned : (words : List ℕ) (seen : Seen) (step : ℕ) (rows : List Row) → HoldsSeen words seen step
    → All (λ key. owner_in words key ≡ None) (keys_in_rows (fresh_rows seen rows))
all_unowned words seen step rows holds k d lt =
    let keys : List ℕ = keys_in_rows (fresh_rows seen rows) in
    fresh_unowned words seen step rows (get_or keys k d) holds
    (in_list (get_or keys k d) keys (Contains-get_or keys k d lt))

pub fresh_differ : (seen : Seen) (rows : List Row) → IsRising rows
    → AllPairs (λ a b. a ≢ b) (keys_in_rows (fresh_rows seen rows))
unfolding fresh_rows
fresh_differ seen rows rises =
    differ (keys_of (filter (is_fresh_row seen rows) rows))
    (distinct_fresh rows (is_fresh_row seen rows) (fresh_first seen rows) rows (λ r i. i) rises)

filter_few : (p : Row → Bool) (rows : List Row) → length (filter p rows) ≤ length rows
filter_few p [] = omega arith
filter_few p (row ∷ rows) =
    let rest : length (filter p rows) ≤ length rows = filter_few p rows in
    elim (p row) as (λ b. length (cond b (row ∷ filter p rows) (filter p rows)) ≤ length (row ∷ rows)) [
      | true ↦ omega arith
      | false ↦ omega arith
    ]

pub fresh_few : (seen : Seen) (rows : List Row) → length (fresh_rows seen rows) ≤ length rows
unfolding fresh_rows
fresh_few seen rows = filter_few (is_fresh_row seen rows) rows

-- the new generation has the same keys
same_keys : (seen : Seen) (rows : List Row) (key : ℕ)
    → list_any (λ k. k == key) (keys_in_rows (fresh_rows seen rows)) ≡ list_any (λ k. k == key) (newest seen rows)
unfolding generation_rows
same_keys seen rows key =
    let keys : List ℕ = keys_in_rows (fresh_rows seen rows) in
    ⊎_elim
    (λ (t : list_any (λ k. k == key) (keys_in_rows (fresh_rows seen rows)) ≡ true).
    t ∙ sym (key_is key (in_order nat_lt (keys_in_rows (fresh_rows seen rows)))
    (ordered_has nat_lt key (keys_in_rows (fresh_rows seen rows))
    (is_key key (keys_in_rows (fresh_rows seen rows)) t))))
    (λ (f : list_any (λ k. k == key) (keys_in_rows (fresh_rows seen rows)) ≡ false).
    f ∙ sym (false_from_ne_true (list_any (λ k. k == key) (in_order nat_lt (keys_in_rows (fresh_rows seen rows)))) (λ t.
    both_ways (list_any (λ k. k == key) (keys_in_rows (fresh_rows seen rows))) f
    (key_is key (keys_in_rows (fresh_rows seen rows))
    (in_ordered nat_lt key (keys_in_rows (fresh_rows seen rows))
    (is_key key (in_order nat_lt (keys_in_rows (fresh_rows seen rows))) t))))))
    (cases_Bool (list_any (λ k. k == key) (keys_in_rows (fresh_rows seen rows))))

-- with them the table holds the seen keys and the new generation
pub holds_added : (before after : List ℕ) (seen : Seen) (step : ℕ) (rows : List Row) → HoldsSeen before seen step
    → IsRising rows
    → ((key : ℕ) → owner_in after key
    ≡ (if list_any (λ k. k == key) (keys_in_rows (fresh_rows seen rows)) then Some
    (step + 1) else owner_in before key))
    → HoldsSeen after (seen ++ newest seen rows ∷ []) (step + 1)
holds_added before after seen step rows holds rises adds = holds_with before after seen step rows holds rises each where
  last_step : oldest_step step seen + length seen ≡ step + 1
  last_step = let few : length seen ≤ step + 1 = holds.few in omega arith

  each : (key : ℕ) → owner_in after key ≡ step_of (oldest_step step seen) (seen ++ newest seen rows ∷ []) key
  each key = go (owner_in before key) refl where
    go : (x : Option ℕ) → owner_in before key ≡ x
        → owner_in after key ≡ step_of (oldest_step step seen) (seen ++ newest seen rows ∷ []) key
    go None e =
        adds key ∙ (λ i. if same_keys seen rows key i then Some (step + 1) else e i)
        ∙ sym (step_push_new (oldest_step step seen) (step + 1) seen (newest seen rows) key last_step
        (sym (holds.owners key) ∙ e))
    go (Some o) e =
        let lacks : list_any (λ k. k == key) (keys_in_rows (fresh_rows seen rows)) ≡ false =
        false_from_ne_true (list_any (λ k. k == key) (keys_in_rows (fresh_rows seen rows))) (λ t.
        let f : None ≡ Some o =
        sym (fresh_unowned before seen step rows key holds (is_key key (keys_in_rows (fresh_rows seen rows)) t))
        ∙ e in
        absurd (cc)) in
        adds key ∙ (λ i. if lacks i then Some (step + 1) else e i)
        ∙ sym (step_push (oldest_step step seen) seen (newest seen rows) key o (sym (holds.owners key) ∙ e))

-- ---- keys added one after another

-- the first i keys are added
pub record AreAdded (before : List ℕ) (keys : List ℕ) (step i : ℕ) (words : List ℕ) : Type 0 where
  pub table : IsTable words
  pub size : length words ≡ length before
  pub count : length (entries_in words) ≡ length (entries_in before) + i
  pub owners : (key : ℕ) → owner_in words key
      ≡ (if list_any (λ k. k == key) (take i keys) then Some step else owner_in before key)

pub none_added : (before keys : List ℕ) (step : ℕ) → IsTable before → AreAdded before keys step 0 before
none_added before keys step table = record { table = table; size = refl; count = omega arith; owners = λ key. refl }

-- the next key is not among those before it
not_before : (keys : List ℕ) (i d : ℕ) → i < length keys → AllPairs (λ a b. a ≢ b) keys
    → list_any (λ k. k == get_or keys i d) (take i keys) ≡ false
not_before keys i d lt differs =
    false_from_ne_true (list_any (λ k. k == get_or keys i d) (take i keys))
    (λ t. apart keys i d lt differs (is_key (get_or keys i d) (take i keys) t)) where
      apart : (keys : List ℕ) (i d : ℕ) → i < length keys → AllPairs (λ a b. a ≢ b) keys
          → In (get_or keys i d) (take i keys) → ⊥
      apart [] i d lt differs m = absurd (omega arith)
      apart (key ∷ keys) zero d lt differs m = m
      apart (key ∷ keys) (suc i) d lt differs m =
          ⊎_elim (λ (e : key ≡ get_or keys i d). differs 0 (suc i) d (omega arith) (omega arith) e)
          (λ (r : In (get_or keys i d) (take i keys)).
          apart keys i d (omega arith) (λ a b e l h. differs (suc a) (suc b) e (omega arith) (omega arith)) r) m

-- so it has no owner yet
pub next_new : (before keys : List ℕ) (step i d : ℕ) (words : List ℕ) → i < length keys → AllPairs (λ a b. a ≢ b) keys
    → All (λ key. owner_in before key ≡ None) keys
    → AreAdded before keys step i words → owner_in words (get_or keys i d) ≡ None
next_new before keys step i d words lt differs new added =
    added.owners (get_or keys i d) ∙ ap (λ b. if b then Some step else owner_in before (get_or keys i d))
    (not_before keys i d lt differs) ∙ new i d lt

pub next_room : (before keys : List ℕ) (step i : ℕ) (words : List ℕ) → i < length keys
    → length (entries_in before) + length keys ≤ slot_count before
    → AreAdded before keys step i words → length (entries_in words) < slot_count words
next_room before keys step i words lt room added =
    let count = added.count in
    let slots : slot_count words ≡ slot_count before = ap (λ n. n / 2) added.size in
    omega (arith, count, slots, room)

-- one key more
pub one_added : (before keys : List ℕ) (step i d : ℕ) (words new : List ℕ) → i < length keys
    → AreAdded before keys step i words
    → IsTable new → length new ≡ length words → length (entries_in new) ≡ length (entries_in words) + 1
    → ((other : ℕ) → owner_in new other ≡ (if get_or keys i d == other then Some step else owner_in words other))
    → AreAdded before keys step (i + 1) new
one_added before keys step i d words new lt added table size count owners = record {
  table = table;
  size = size ∙ added.size;
  count = let c = added.count in omega (arith, count, c);
  owners = λ key.
      owners key ∙ ap (λ x. if get_or keys i d == key then Some step else x) (added.owners key)
      ∙ either (get_or keys i d == key) (list_any (λ k. k == key) (take i keys)) (owner_in before key)
      ∙ ap (λ b. if b then Some step else owner_in before key) (sym (list_any_more (λ k. k == key) keys i d lt));
} where
  either : (a b : Bool) (x : Option ℕ)
      → (if a then Some step else (if b then Some step else x)) ≡ (if b || a then Some step else x)
  either true true x = refl
  either true false x = refl
  either false true x = refl
  either false false x = refl

-- all keys are added
pub all_added : (before keys : List ℕ) (step i : ℕ) (words : List ℕ) → length keys ≤ i
    → AreAdded before keys step i words
    → (key : ℕ) → owner_in words key ≡ (if list_any (λ k. k == key) keys then Some step else owner_in before key)
all_added before keys step i words le added key =
    added.owners key ∙ ap (λ xs. if list_any (λ k. k == key) xs then Some step else owner_in before key)
    (take_all i keys le)
