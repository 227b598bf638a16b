-- The step whose generation has a key, and the generations since a step.
use Rattle.std.proofs.Common.{◌≡◌, ℕ, zero, suc, ◌+◌, ◌-◌, ◌<◌, ◌≤◌, ⊎_elim, true, false, List, [], ◌∷◌, ◌++◌, length, drop, refl, sym, ap, ◌∙◌, arith, ◌==◌}
use Rattle.std.specs.Prelude.{Option, Some, None, if◌then◌else◌}
use Rattle.std.specs.List.{concat, list_any}
use Rattle.std.proofs.lemmas.Bool.{cases_lt, le-leb, lt-leb, false≢true}
use Rattle.std.proofs.lemmas.List.Concat.{concat_is, length-flat_map}
use Rattle.nj_search_defs.specs.Pruning.{Seen, key_count}
use Rattle.nj_seen.specs.Held.{step_of, owner_since}
use Rattle.nj_seen.proofs.Members.{In, Distinct, in_left, in_right, in_either, distinct_right, apart, is_key, key_is}

-- an owner since a step
pub since_at : (from owner : ℕ) → from ≤ owner → owner_since from (Some owner) ≡ Some owner
since_at from owner le = ap (λ b. if b then Some owner else None) (le-leb from owner le)

pub not_since : (from owner : ℕ) → owner < from → owner_since from (Some owner) ≡ None
not_since from owner lt = ap (λ b. if b then Some owner else None) (lt-leb from owner lt)

pub since_is : (from owner : ℕ) (x : Option ℕ) → owner_since from x ≡ Some owner → (x ≡ Some owner) × (from ≤ owner)
since_is from owner None e = absurd (cc)
since_is from owner (Some w) e =
    ⊎_elim (λ (lt : w < from). let f : None ≡ Some owner = sym (not_since from w lt) ∙ e in absurd (cc))
    (λ (le : from ≤ w). let f : Some w ≡ Some owner = sym (since_at from w le) ∙ e in let same : w ≡ owner = cc in
    (f, omega arith)) (cases_lt w from)

-- two owners are the same where each is the other
pub same_owner : (x y : Option ℕ) → ((o : ℕ) → x ≡ Some o → y ≡ Some o) → ((o : ℕ) → y ≡ Some o → x ≡ Some o) → x ≡ y
same_owner None None f g = refl
same_owner None (Some o) f g = g o refl
same_owner (Some o) y f g = sym (f o refl)

-- a key of no generation has no step, and one of some generation has one
pub none_has : (first : ℕ) (seen : Seen) (key : ℕ) → (In key (concat seen) → ⊥) → step_of first seen key ≡ None
none_has first [] key lacks = refl
none_has first (keys ∷ later) key lacks =
    elim (list_any (λ k. k == key) keys) as (λ b. list_any (λ k. k == key) keys ≡ b
    → (if b then Some first else step_of (first + 1) later key) ≡ None) [
      | true ↦ λ e. absurd (lacks (in_left key keys (concat later) (is_key key keys e)))
      | false ↦ λ e. none_has (first + 1) later key (λ i. lacks (in_right key keys (concat later) i))
    ] refl

pub some_has : (first : ℕ) (seen : Seen) (key owner : ℕ) → step_of first seen key ≡ Some owner → In key (concat seen)
some_has first [] key owner = λ e. absurd (cc)
some_has first (keys ∷ later) key owner =
    elim (list_any (λ k. k == key) keys) as (λ b. list_any (λ k. k == key) keys ≡ b
    → (if b then Some first else step_of (first + 1) later key) ≡ Some owner → In key (keys ++ concat later)) [
      | true ↦ λ e is. in_left key keys (concat later) (is_key key keys e)
      | false ↦ λ e is. in_right key keys (concat later) (some_has (first + 1) later key owner is)
    ] refl

pub has_some : (first : ℕ) (seen : Seen) (key : ℕ) → In key (concat seen)
    → (owner : ℕ) × (step_of first seen key ≡ Some owner)
has_some first [] key i = absurd i
has_some first (keys ∷ later) key i =
    elim (list_any (λ k. k == key) keys) as (λ b. list_any (λ k. k == key) keys ≡ b
    → (owner : ℕ) × ((if b then Some first else step_of (first + 1) later key) ≡ Some owner)) [
      | true ↦ λ e. (first, refl)
      | false ↦ λ e. has_some (first + 1) later key
          (⊎_elim (λ (a : In key keys). absurd (false≢true (sym e ∙ key_is key keys a)))
          (λ (b : In key (concat later)). b) (in_either key keys (concat later) i))
    ] refl

-- steps are at least the first, and less than the first and the number of generations
pub is_within : (first : ℕ) (seen : Seen) (key owner : ℕ) → step_of first seen key ≡ Some owner
    → (first ≤ owner) × (owner < first + length seen)
is_within first [] key owner = λ e. absurd (cc)
is_within first (keys ∷ later) key owner =
    elim (list_any (λ k. k == key) keys) as (λ b. (if b then Some first else step_of (first + 1) later key) ≡ Some owner
    → (first ≤ owner) × (owner < first + length (keys ∷ later))) [
      | true ↦ λ e. let same : first ≡ owner = cc in (omega arith, omega arith)
      | false ↦ λ e. let w = is_within (first + 1) later key owner e in let low : first + 1 ≤ owner =
          w.0 in let high : owner < first + 1 + length later = w.1 in (omega arith, omega arith)
    ]

-- all are since the first step
pub since_first : (first from : ℕ) (seen : Seen) (key : ℕ) → from ≤ first
    → owner_since from (step_of first seen key) ≡ step_of first seen key
since_first first from seen key le = same_owner (owner_since from (step_of first seen key)) (step_of first seen key)
    (λ o e. (since_is from o (step_of first seen key) e).0)
    (λ o e. let low : first ≤ o = (is_within first seen key o e).0 in ap (owner_since from) e
    ∙ since_at from o (omega arith))

-- keys of the generations behind the oldest
pub in_drop : (n : ℕ) (seen : Seen) (key : ℕ) → In key (concat (drop n seen)) → In key (concat seen)
in_drop zero seen key i = i
in_drop (suc n) [] key i = i
in_drop (suc n) (keys ∷ later) key i = in_right key keys (concat later) (in_drop n later key i)

pub distinct_drop : (n : ℕ) (seen : Seen) → Distinct (concat seen) → Distinct (concat (drop n seen))
distinct_drop zero seen d = d
distinct_drop (suc n) [] d = d
distinct_drop (suc n) (keys ∷ later) d = distinct_drop n later (distinct_right keys (concat later) d)

-- the owners since a step are those of the generations behind so many oldest ones
since_dropped : (n first from : ℕ) (seen : Seen) (key : ℕ) → from ≡ first + n → Distinct (concat seen)
    → owner_since from (step_of first seen key) ≡ step_of from (drop n seen) key
since_dropped zero first from seen key at d =
    let same : first ≡ from = omega arith in
    since_first first from seen key (omega arith) ∙ ap (λ f. step_of f seen key) same
since_dropped (suc n) first from [] key at d = refl
since_dropped (suc n) first from (keys ∷ later) key at d =
    elim (list_any (λ k. k == key) keys) as (λ b. list_any (λ k. k == key) keys ≡ b
    → owner_since from (if b then Some first else step_of (first + 1) later key) ≡ step_of from (drop n later) key) [
      | true ↦ λ e. not_since from first (omega arith)
          ∙ sym (none_has from (drop n later) key
          (λ i. apart keys (concat later) d key (is_key key keys e) (in_drop n later key i)))
      | false ↦ λ e. since_dropped n (first + 1) from later key (omega arith) (distinct_right keys (concat later) d)
    ] refl

pub since_step : (first from : ℕ) (seen : Seen) (key : ℕ) → Distinct (concat seen)
    → owner_since from (step_of first seen key) ≡ step_of (first + (from - first)) (drop (from - first) seen) key
since_step first from seen key d =
    ⊎_elim
    (λ (lt : first < from). let at : from ≡ first + (from - first) = omega arith in
    since_dropped (from - first) first from seen key at d ∙ ap (λ f. step_of f (drop (from - first) seen) key) at)
    (λ (le : from ≤ first). let none : 0 ≡ from - first = omega arith in
    let at : first ≡ first + (from - first) = omega arith in
    since_first first from seen key le ∙ (λ i. step_of (at i) (drop (none i) seen) key))
    (cases_lt first from)

-- how many keys there are
pub count_is : (seen : Seen) → length (concat seen) ≡ key_count seen
count_is seen = ap length (concat_is seen) ∙ length-flat_map (λ (x : List ℕ). x) seen
