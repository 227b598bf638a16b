-- The generations put into a table one after another.
use Rattle.std.proofs.Common.{◌≡◌, ◌≢◌, ℕ, zero, suc, ◌+◌, ◌-◌, ◌/◌, ◌<◌, ◌≤◌, ⊎_elim, false, List, [], ◌∷◌, ◌++◌, length, take, drop, get_or, refl, sym, ap, ◌∙◌, subst, arith, length-drop, ◌==◌}
use Rattle.std.specs.Prelude.{Option, Some, None, if◌then◌else◌}
use Rattle.std.specs.List.{All, AllPairs, concat, list_any}
use Rattle.std.proofs.lemmas.Bool.{false_from_ne_true}
use Rattle.std.proofs.lemmas.List.{take_more, take_all, length-take-le, get_or-drop}
use Rattle.std.proofs.lemmas.List.Elements.{Contains-get_or}
use Rattle.std.proofs.lemmas.List.Sums.{sum_by_push, sum_by-take-le}
use Rattle.nj_search_defs.specs.Pruning.{Seen, key_count}
use Rattle.nj_claims.specs.Tables.{IsTable, entries_in, owner_in, slot_count}
use Rattle.nj_seen.specs.Held.{AreInOrder, HoldsSeen, step_of}
use Rattle.nj_seen.proofs.Members.{In, Distinct, in_list, differ, distinct_left, distinct_right, apart, in_left, in_right, in_either, is_key}
use Rattle.nj_seen.proofs.Steps.{none_has}
use Rattle.nj_seen.proofs.Newest.{step_push, step_push_new}

-- ---- a generation among all

-- its keys are among all keys
at_in : (seen : Seen) (k : ℕ) (d : List ℕ) (key : ℕ) → k < length seen → In key (get_or seen k d) → In key (concat seen)
at_in [] k d key within i = absurd (omega (arith, within))
at_in (keys ∷ later) zero d key within i = in_left key keys (concat later) i
at_in (keys ∷ later) (suc k) d key within i =
    in_right key keys (concat later) (at_in later k d key (omega (arith, within)) i)

-- none of them is in an older one
at_new : (seen : Seen) (k : ℕ) (d : List ℕ) (key : ℕ) → k < length seen → Distinct (concat seen)
    → In key (get_or seen k d) → In key (concat (take k seen)) → ⊥
at_new [] k d key within once i older = absurd (omega (arith, within))
at_new (keys ∷ later) zero d key within once i older = older
at_new (keys ∷ later) (suc k) d key within once i older =
    ⊎_elim (λ (a : In key keys). apart keys (concat later) once key a (at_in later k d key (omega (arith, within)) i))
    (λ (b : In key (concat (take k later))).
    at_new later k d key (omega (arith, within)) (distinct_right keys (concat later) once) i b)
    (in_either key keys (concat (take k later)) older)

-- and they differ
at_once : (seen : Seen) (k : ℕ) (d : List ℕ) → k < length seen → Distinct (concat seen) → Distinct (get_or seen k d)
at_once [] k d within once = absurd (omega (arith, within))
at_once (keys ∷ later) zero d within once = distinct_left keys (concat later) once
at_once (keys ∷ later) (suc k) d within once =
    at_once later k d (omega (arith, within)) (distinct_right keys (concat later) once)

-- a generation by its place among all, and behind the first of them
pub at_place : (seen : Seen) (first place : ℕ) (keys told : List ℕ) → first ≤ place → keys ≡ told
    → told ≡ get_or seen place told → keys ≡ get_or (drop first seen) (place - first) keys
at_place seen first place keys told le same is =
    let at : place ≡ first + (place - first) = omega (arith, le) in
    same ∙ (is ∙ (ap (get_or seen place) (sym same)
    ∙ (ap (λ n. get_or seen n keys) at ∙ sym (get_or-drop first seen (place - first) keys))))

pub in_rest : (seen : Seen) (first place : ℕ) → first ≤ place → place < length seen
    → place - first < length (drop first seen)
in_rest seen first place le lt = omega (arith, le, lt, length-drop first seen)

-- ---- the first of the generations are in the table

pub record AreFilled (slots : ℕ) (seen : Seen) (base k : ℕ) (words : List ℕ) : Type 0 where
  pub table : IsTable words
  pub size : slot_count words ≡ slots
  pub count : length (entries_in words) ≡ key_count (take k seen)
  pub owners : (key : ℕ) → owner_in words key ≡ step_of base (take k seen) key

pub none_filled : (words : List ℕ) (seen : Seen) (base k : ℕ) → k ≡ 0 → IsTable words → entries_in words ≡ []
    → ((key : ℕ) → owner_in words key ≡ None)
    → AreFilled (slot_count words) seen base k words
none_filled words seen base k first table empty none = record {
  table = table;
  size = refl;
  count = ap length empty ∙ sym (ap (λ n. key_count (take n seen)) first);
  owners = λ key. none key ∙ sym (ap (λ n. step_of base (take n seen) key) first);
}

module _ (slots : ℕ) (seen : Seen) (base k : ℕ) (words keys : List ℕ) (within : k < length seen)
    (is : keys ≡ get_or seen k keys)
    (once : Distinct (concat seen)) (filled : AreFilled slots seen base k words) where
  next_unowned : (key : ℕ) → In key keys → owner_in words key ≡ None
  next_unowned key i =
      filled.owners key ∙ none_has base (take k seen) key (at_new seen k keys key within once (subst (In key) is i))

  pub next_new : All (λ key. owner_in words key ≡ None) keys
  next_new j d lt = next_unowned (get_or keys j d) (in_list (get_or keys j d) keys (Contains-get_or keys j d lt))

  pub next_once : AllPairs (λ a b. a ≢ b) keys
  next_once = differ keys (subst Distinct (sym is) (at_once seen k keys within once))

  taken : take (k + 1) seen ≡ take k seen ++ keys ∷ []
  taken = take_more seen k keys within ∙ ap (λ x. take k seen ++ x ∷ []) (sym is)

  counted : key_count (take (k + 1) seen) ≡ key_count (take k seen) + length keys
  counted = ap key_count taken ∙ sum_by_push length (take k seen) keys

  pub next_room : key_count seen ≤ slots → length (entries_in words) + length keys ≤ slot_count words
  next_room few = let part : key_count (take (k + 1) seen) ≤ key_count seen =
      sum_by-take-le length seen (k + 1) in omega (arith, filled.count, filled.size, counted, part, few)

  last : base + length (take k seen) ≡ base + k
  last = ap (λ n. base + n) (length-take-le k seen (omega (arith, within)))

  -- the owners with the next generation
  each : (new : List ℕ) (owner : ℕ) → owner ≡ base + k
      → ((key : ℕ) → owner_in new key ≡ (if list_any (λ x. x == key) keys then Some owner else owner_in words key))
      → (key : ℕ) (x : Option ℕ) → owner_in words key ≡ x
      → owner_in new key ≡ step_of base (take k seen ++ keys ∷ []) key
  each new owner at adds key None e =
      adds key ∙ ((λ i. if list_any (λ x. x == key) keys then Some (at i) else e i)
      ∙ sym (step_push_new base (base + k) (take k seen) keys key last (sym (filled.owners key) ∙ e)))
  each new owner at adds key (Some o) e =
      let lacks : list_any (λ x. x == key) keys ≡ false =
      false_from_ne_true (list_any (λ x. x == key) keys)
      (λ t. let f : None ≡ Some o = sym (next_unowned key (is_key key keys t)) ∙ e in absurd (cc)) in
      adds key ∙ ((λ i. if lacks i then Some owner else e i)
      ∙ sym (step_push base (take k seen) keys key o (sym (filled.owners key) ∙ e)))

  pub one_filled : (new : List ℕ) (owner : ℕ) → owner ≡ base + k → IsTable new → length new ≡ length words
      → length (entries_in new) ≡ length (entries_in words) + length keys
      → ((key : ℕ) → owner_in new key ≡ (if list_any (λ x. x == key) keys then Some owner else owner_in words key))
      → AreFilled slots seen base (k + 1) new
  one_filled new owner at table size count adds = record {
    table = table;
    size = ap (λ n. n / 2) size ∙ filled.size;
    count = omega (arith, count, filled.count, counted);
    owners = λ key. each new owner at adds key (owner_in words key) refl ∙ ap (λ s. step_of base s key) (sym taken);
  }

-- all of them are
pub all_filled : (slots : ℕ) (seen : Seen) (step k : ℕ) (words : List ℕ) → length seen ≤ k → length seen ≤ step + 1
    → All AreInOrder seen → AllPairs (λ a b. a ≢ b) (concat seen)
    → AreFilled slots seen (step + 1 - length seen) k words → HoldsSeen words seen step
all_filled slots seen step k words all few sorted once filled = record {
  few = few;
  in_order = sorted;
  once = once;
  owners = λ key. filled.owners key ∙ ap (λ s. step_of (step + 1 - length seen) s key) (take_all k seen all);
}
