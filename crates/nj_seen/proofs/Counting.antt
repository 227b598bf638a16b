-- How many keys have an owner since a step, and what a table without the oldest generations holds.
use Rattle.std.proofs.Common.{◌≡◌, ◌≢◌, ℕ, ◌+◌, ◌-◌, ◌<◌, ◌≤◌, inl, ⊎_elim, Bool, true, false, List, [], ◌∷◌, length, map, drop, get_or, sym, ap, ◌∙◌, subst, arith, nat_le, length-drop, cond}
use Rattle.std.specs.Prelude.{Some, filter, ◌↔◌}
use Rattle.std.specs.List.{All, AllPairs, Contains, concat}
use Rattle.std.specs.List.Sorted.{IsPermutation}
use Rattle.std.proofs.lemmas.Bool.{cases_lt, le-leb, leb-true}
use Rattle.std.proofs.lemmas.List.{drop_all, length-map}
use Rattle.std.proofs.lemmas.List.Elements.{All-drop, Contains-get_or}
use Rattle.std.proofs.lemmas.List.Sorted.{IsPermutation-sym, Contains-permutation}
use Rattle.nj_search_defs.specs.Pruning.{Seen, key_count, forgotten}
use Rattle.nj_claims.specs.Tables.{IsTable, entries_in, keys_in, owner_in, slot_count}
use Rattle.nj_seen.specs.Held.{AreInOrder}
use Rattle.nj_seen.specs.Held.{HoldsSeen, IsOldestKept, entries_since, owner_since, step_of, oldest_step}
use Rattle.nj_seen.proofs.Keys.{up_to}
use Rattle.nj_seen.proofs.Members.{In, Distinct, in_list, contained, distinct, differ, in_filter, filtered, in_map, mapped}
use Rattle.nj_seen.proofs.Steps.{since_at, since_is, same_owner, some_has, has_some, since_step, distinct_drop, count_is}

-- what a law of lists says: different numbers that stand in a list are no more than it has
abbrev pub NumbersFit : Type 0
NumbersFit = (numbers others : List ℕ) → AllPairs (λ a b. a ≢ b) numbers → All (Contains others) numbers
    → length numbers ≤ length others

-- what the laws of tables say: each key once, and the entries are the map
abbrev pub OnceEach : Type 0
OnceEach = (words : List ℕ) → IsTable words → AllPairs (λ key other. key ≢ other) (keys_in words)

abbrev pub OwnersAre : Type 0
OwnersAre = (words : List ℕ) (key owner : ℕ) → IsTable words
    → Contains (entries_in words) (key, owner) ↔ (owner_in words key ≡ Some owner)

-- a table's entries as a map
pub record IsMap (words : List ℕ) : Type 0 where
  pub once : Distinct (keys_in words)
  pub owner : (key owner : ℕ) → In (key, owner) (entries_in words) → owner_in words key ≡ Some owner
  pub entry : (key owner : ℕ) → owner_in words key ≡ Some owner → In (key, owner) (entries_in words)

pub is_map : OnceEach → OwnersAre → (words : List ℕ) → IsTable words → IsMap words
is_map once owners words table = record {
  once = distinct (keys_in words) (once words table);
  owner = λ key owner i. (owners words key owner table).0 (contained (key, owner) (entries_in words) i);
  entry = λ key owner e. in_list (key, owner) (entries_in words) ((owners words key owner table).1 e);
}

-- different members that stand in a list are no more than it has
pub fits_in : NumbersFit → (xs ys : List ℕ) → Distinct xs → ((k : ℕ) → In k xs → In k ys) → length xs ≤ length ys
fits_in law xs ys d inside = law xs ys (differ xs d)
    (λ i e l. contained (get_or xs i e) ys
    (inside (get_or xs i e) (in_list (get_or xs i e) xs (Contains-get_or xs i e l))))

-- the keys of some entries are different where those of all are
pub distinct_keys : (p : ℕ × ℕ → Bool) (es : List (ℕ × ℕ)) → Distinct (map (λ (e : ℕ × ℕ). e.0) es)
    → Distinct (map (λ (e : ℕ × ℕ). e.0) (filter p es))
distinct_keys p [] d = tt
distinct_keys p (e ∷ es) d =
    elim (p e) as (λ b. Distinct (map (λ (e : ℕ × ℕ). e.0) (cond b (e ∷ filter p es) (filter p es)))) [
      | true ↦ (
        λ i. let s = in_map (λ (e : ℕ × ℕ). e.0) e.0 (filter p es) i in
            d.0 (subst (λ k. In k (map (λ (e : ℕ × ℕ). e.0) es)) s.2
            (mapped (λ (e : ℕ × ℕ). e.0) s.0 es (in_filter p s.0 es s.1).0)),
        distinct_keys p es d.1,
      )
      | false ↦ distinct_keys p es d.1
    ]

-- an entry since a step
pub entry_since : (words : List ℕ) (from : ℕ) (entry : ℕ × ℕ) → IsMap words → In entry (entries_since from words)
    → owner_since from (owner_in words entry.0) ≡ Some entry.1
entry_since words from entry is i =
    let s = in_filter (λ (e : ℕ × ℕ). nat_le from e.1) entry (entries_in words) i in
    ap (owner_since from) (is.owner entry.0 entry.1 s.0) ∙ since_at from entry.1 (leb-true from entry.1 s.1)

pub since_entry : (words : List ℕ) (from key owner : ℕ) → IsMap words
    → owner_since from (owner_in words key) ≡ Some owner → In (key, owner) (entries_since from words)
since_entry words from key owner is e =
    let s = since_is from owner (owner_in words key) e in
    filtered (λ (e : ℕ × ℕ). nat_le from e.1) (key, owner) (entries_in words)
    (is.entry key owner s.0) (le-leb from owner s.1)

-- the entries since a step are as many as the keys of the generations that have these owners
pub same_count : NumbersFit → (words : List ℕ) (from first : ℕ) (some : Seen) → IsMap words → Distinct (concat some)
    → ((key : ℕ) → owner_since from (owner_in words key) ≡ step_of first some key)
    → length (entries_since from words) ≡ key_count some
same_count law words from first some is d same =
    let keys : List ℕ = map (λ (e : ℕ × ℕ). e.0) (entries_since from words) in
    let up : length keys ≤ length (concat some) = fits_in law keys (concat some)
    (distinct_keys (λ (e : ℕ × ℕ). nat_le from e.1) (entries_in words) is.once)
    (λ k i. let s = in_map (λ (e : ℕ × ℕ). e.0) k (entries_since from words) i in
    subst (λ x. In x (concat some)) s.2
    (some_has first some s.0.0 s.0.1 (sym (same s.0.0) ∙ entry_since words from s.0 is s.1))) in
    let down : length (concat some) ≤ length keys = fits_in law (concat some) keys d
    (λ k i. let h = has_some first some k i in
    mapped (λ (e : ℕ × ℕ). e.0) (k, h.0) (entries_since from words) (since_entry words from k h.0 is (same k ∙ h.1))) in
    let count : length keys ≡ length (entries_since from words) =
    length-map (entries_since from words) (λ (e : ℕ × ℕ). e.0) in
    let all = count_is some in
    omega arith

-- the owners since a step are those of the generations behind so many
pub owners_since : (words : List ℕ) (seen : Seen) (step from : ℕ) → HoldsSeen words seen step → (key : ℕ)
    → owner_since from (owner_in words key) ≡ step_of (oldest_step step seen + (from - oldest_step step seen))
    (drop (from - oldest_step step seen) seen) key
owners_since words seen step from holds key =
    ap (owner_since from) (holds.owners key)
    ∙ since_step (oldest_step step seen) from seen key (distinct (concat seen) holds.once)

pub count_since_is : NumbersFit → (words : List ℕ) (seen : Seen) (step from : ℕ) → IsMap words
    → HoldsSeen words seen step
    → length (entries_since from words) ≡ key_count (drop (from - oldest_step step seen) seen)
count_since_is law words seen step from is holds =
    let first : ℕ = oldest_step step seen in
    same_count law words from (first + (from - first)) (drop (from - first) seen) is
    (distinct_drop (from - first) seen (distinct (concat seen) holds.once)) (owners_since words seen step from holds)

-- what is forgotten are the generations before the oldest that is kept
pub forgets : NumbersFit → (words : List ℕ) (seen : Seen) (step room from : ℕ) → IsMap words → HoldsSeen words seen step
    → IsOldestKept words room from
    → forgotten (slot_count words) room seen ≡ drop (from - oldest_step step seen) seen
forgets law words seen step room from is holds oldest =
    let first : ℕ = oldest_step step seen in
    let count = count_since_is law words seen step from is holds in
    let fits : length (entries_since from words) + room ≤ slot_count words = oldest.fits in
    up_to (slot_count words) room seen (from - first) (inl (subst (λ n. n + room ≤ slot_count words) count fits))
    (λ before e.
    let over : slot_count words < length (entries_since (first + before) words) + room =
    oldest.over (first + before) (omega arith) in
    let back : first + before - first ≡ before = omega arith in
    let less = count_since_is law words seen step (first + before) is holds in
    subst (λ n. slot_count words < n + room) (less ∙ ap (λ n. key_count (drop n seen)) back) over)

-- the generations behind so many oldest ones, at the same step
oldest_dropped : (step n : ℕ) (seen : Seen) (key : ℕ) → length seen ≤ step + 1
    → step_of (oldest_step step seen + n) (drop n seen) key ≡ step_of (oldest_step step (drop n seen)) (drop n seen) key
oldest_dropped step n seen key few =
    ⊎_elim
    (λ (lt : length seen < n). let none : drop n seen ≡ [] = drop_all n seen (omega arith) in
    ap (λ some. step_of (oldest_step step seen + n) some key) none
    ∙ sym (ap (λ some. step_of (oldest_step step some) some key) none))
    (λ (le : n ≤ length seen). let long : length (drop n seen) ≡ length seen - n = length-drop n seen in
    let at : oldest_step step seen + n ≡ oldest_step step (drop n seen) = omega arith in
    ap (λ first. step_of first (drop n seen) key) at)
    (cases_lt (length seen) n)

-- a table without the oldest generations holds those behind them
pub holds_rest : NumbersFit → (words rest : List ℕ) (seen : Seen) (step room from : ℕ) → IsMap words
    → IsOldestKept words room from
    → ((key : ℕ) → owner_in rest key ≡ owner_since from (owner_in words key)) → HoldsSeen words seen step
    → HoldsSeen rest (forgotten (slot_count words) room seen) step
holds_rest law words rest seen step room from is oldest kept holds =
    subst (λ (some : Seen). HoldsSeen rest some step) (sym (forgets law words seen step room from is holds oldest))
    (record {
      few = let long : length (drop n seen) ≡ length seen - n = length-drop n seen in let few : length seen ≤ step + 1 =
          holds.few in omega arith;
      in_order = All-drop AreInOrder n seen holds.in_order;
      once = differ (concat (drop n seen)) (distinct_drop n seen (distinct (concat seen) holds.once));
      owners = λ key. kept key ∙ (owners_since words seen step from holds key
          ∙ oldest_dropped step n seen key holds.few);
    }) where
      n : ℕ
      n = from - oldest_step step seen

-- the map of a table of the entries since a step
pub kept_since : (words rest : List ℕ) (from : ℕ) → IsMap words → IsMap rest
    → IsPermutation (entries_since from words) (entries_in rest)
    → (key : ℕ) → owner_in rest key ≡ owner_since from (owner_in words key)
kept_since words rest from is is' moved key =
    same_owner (owner_in rest key) (owner_since from (owner_in words key))
    (λ o e. entry_since words from (key, o) is
    (in_list (key, o) (entries_since from words)
    (Contains-permutation (entries_in rest) (entries_since from words) (key, o)
    (IsPermutation-sym (entries_since from words) (entries_in rest) moved)
    (contained (key, o) (entries_in rest) (is'.entry key o e)))))
    (λ o e. is'.owner key o (in_list (key, o) (entries_in rest)
    (Contains-permutation (entries_since from words) (entries_in rest) (key, o) moved
    (contained (key, o) (entries_since from words) (since_entry words from key o is e)))))
