-- The entries since a step, put into a new table one after another.
use Rattle.std.proofs.Common.{◌≡◌, ◌≢◌, ℕ, ◌+◌, ◌*◌, ◌/◌, ◌<◌, ◌≤◌, inl, Bool, true, false, cond, List, [], ◌∷◌, ◌++◌, length, map, take, drop, refl, sym, ap, ◌∙◌, subst, arith, nat_le, ne_eqb}
use Rattle.std.specs.Prelude.{Result, Ok, Err, IfOk, Option, Some, None, filter, if◌then◌else◌}
use Rattle.std.specs.List.Sorted.{IsPermutation}
use Rattle.std.proofs.lemmas.List.{drop_more, length-take-le, map-append}
use Rattle.std.proofs.lemmas.List.Sorted.{IsPermutation-refl, IsPermutation-sym, IsPermutation-push_more, Contains-permutation, length_permutation}
use Rattle.nj_claims.specs.Tables.{key_at, owner_at, entries_in, owner_in, slot_count}
use Rattle.nj_seen.specs.Held.{entries_since, is_since}
use Rattle.nj_seen.proofs.Members.{In, Distinct, in_list, contained, in_filter, apart, mapped}
use Rattle.nj_seen.proofs.Counting.{IsMap}
use Rattle.nj_seen.proofs.Claims.{all_since}
use Rattle.nj_seen.proofs.Slots.{entries_split, since_taken, since_passed, holds_since}

-- at first none are
pub moved_none : (rest : List ℕ) → entries_in rest ≡ [] → IsPermutation [] (entries_in rest)
moved_none rest e = subst (IsPermutation []) (sym e) (IsPermutation-refl [])

-- a slot more
pub moved_more : (words rest : List ℕ) (from i : ℕ) (entries : List (ℕ × ℕ)) → 2 * i + 1 < length words
    → is_since from words i ≡ true
    → IsPermutation (entries_since from (take (2 * i) words)) entries
    → IsPermutation ((key_at words i, owner_at words i) ∷ entries) (entries_in rest)
    → IsPermutation (entries_since from (take (2 * (i + 1)) words)) (entries_in rest)
moved_more words rest from i entries lt t moved put =
    subst (λ es. IsPermutation es (entries_in rest)) (sym (since_taken words from i lt t))
    (IsPermutation-push_more (entries_since from (take (2 * i) words)) entries (entries_in rest)
    (key_at words i, owner_at words i) moved put)

pub moved_same : (words : List ℕ) (from i : ℕ) (entries : List (ℕ × ℕ)) → 2 * i + 1 < length words
    → is_since from words i ≡ false
    → IsPermutation (entries_since from (take (2 * i) words)) entries
    → IsPermutation (entries_since from (take (2 * (i + 1)) words)) entries
moved_same words from i entries lt f moved =
    subst (λ es. IsPermutation es entries) (sym (since_passed words from i lt f)) moved

-- the entry of a slot that holds a key is among those from there on
stands_here : (words : List ℕ) (i : ℕ) → 2 * i + 1 < length words → key_at words i ≢ 0
    → In (key_at words i, owner_at words i) (entries_in (drop (2 * i) words))
stands_here words i lt some =
    let k : ℕ = key_at words i in let o : ℕ = owner_at words i in let later : List ℕ = drop (2 * i + 1 + 1) words in
    subst (λ xs. In (k, o) (entries_in xs))
    (sym (drop_more words (2 * i) 0 (omega arith) ∙ ap (λ xs. k ∷ xs) (drop_more words (2 * i + 1) 0 lt)))
    (subst (λ b. In (k, o) (if b then entries_in later else (k, o) ∷ entries_in later))
    (sym (ne_eqb k 0 some)) (inl refl))

-- its key does not stand in the new table yet
pub absent_yet : (words rest : List ℕ) (from i : ℕ) → IsMap words → IsMap rest → 2 * i + 1 < length words
    → is_since from words i ≡ true
    → IsPermutation (entries_since from (take (2 * i) words)) (entries_in rest) → owner_in rest (key_at words i) ≡ None
absent_yet words rest from i is is' lt t moved = go (owner_in rest (key_at words i)) refl where
  go : (x : Option ℕ) → owner_in rest (key_at words i) ≡ x → owner_in rest (key_at words i) ≡ None
  go None e = e
  go (Some o) e =
      let k : ℕ = key_at words i in
      let before : In (k, o) (entries_in (take (2 * i) words)) =
      (in_filter (λ (e : ℕ × ℕ). nat_le from e.1) (k, o) (entries_in (take (2 * i) words))
      (in_list (k, o) (entries_since from (take (2 * i) words))
      (Contains-permutation (entries_in rest) (entries_since from (take (2 * i) words)) (k, o)
      (IsPermutation-sym (entries_since from (take (2 * i) words)) (entries_in rest) moved)
      (contained (k, o) (entries_in rest) (is'.entry k o e))))).0 in
      let here = stands_here words i lt (holds_since words from i t).0 in
      let parts : map (λ (e : ℕ × ℕ). e.0) (entries_in words) ≡ map (λ (e : ℕ × ℕ). e.0)
      (entries_in (take (2 * i) words)) ++ map (λ (e : ℕ × ℕ). e.0) (entries_in (drop (2 * i) words)) =
      ap (map (λ (e : ℕ × ℕ). e.0)) (entries_split words i (omega arith))
      ∙ map-append (λ (e : ℕ × ℕ). e.0) (entries_in (take (2 * i) words)) (entries_in (drop (2 * i) words)) in
      absurd (apart (map (λ (e : ℕ × ℕ). e.0) (entries_in (take (2 * i) words)))
      (map (λ (e : ℕ × ℕ). e.0) (entries_in (drop (2 * i) words))) (subst Distinct parts is.once) k
      (mapped (λ (e : ℕ × ℕ). e.0) (k, o) (entries_in (take (2 * i) words)) before)
      (mapped (λ (e : ℕ × ℕ). e.0) (k, owner_at words i) (entries_in (drop (2 * i) words)) here))

-- a filter keeps no more
pub filter_short : (p : ℕ × ℕ → Bool) (es : List (ℕ × ℕ)) → length (filter p es) ≤ length es
filter_short p [] = omega arith
filter_short p (e ∷ es) =
    let rest : length (filter p es) ≤ length es = filter_short p es in
    elim (p e) as (λ b. length (cond b (e ∷ filter p es) (filter p es)) ≤ length (e ∷ es)) [
      | true ↦ omega arith
      | false ↦ omega arith
    ]

-- what a law of tables says: no more entries than slots
abbrev pub AreWithin : Type 0
AreWithin = (words : List ℕ) → length (entries_in words) ≤ slot_count words

-- and a slot is empty
pub has_room : AreWithin → (words rest : List ℕ) (from i : ℕ) → i < length words / 2 → length rest ≡ length words
    → IsPermutation (entries_since from (take (2 * i) words)) (entries_in rest)
    → length (entries_in rest) < slot_count rest
has_room law words rest from i lt size moved =
    let n : length (entries_in rest) ≡ length (entries_since from (take (2 * i) words)) =
    length_permutation (entries_since from (take (2 * i) words)) (entries_in rest) moved in
    let f : length (entries_since from (take (2 * i) words)) ≤ length (entries_in (take (2 * i) words)) =
    filter_short (λ (e : ℕ × ℕ). nat_le from e.1) (entries_in (take (2 * i) words)) in
    let w : length (entries_in (take (2 * i) words)) ≤ length (take (2 * i) words) / 2 = law (take (2 * i) words) in
    let t : length (take (2 * i) words) ≡ 2 * i = length-take-le (2 * i) words (omega arith) in
    omega arith

-- a copy has all entries since step 0
pub kept_all : (words rest : List ℕ) (from : ℕ) → from ≡ 0 → rest ≡ words
    → IsPermutation (entries_since from words) (entries_in rest)
kept_all words rest from none same =
    subst (λ es. IsPermutation es (entries_in rest))
    (sym (ap (λ n. entries_since n words) none ∙ all_since (entries_in words)))
    (subst (λ xs. IsPermutation (entries_in words) (entries_in xs)) (sym same) (IsPermutation-refl (entries_in words)))

-- what two clauses on an answer give
pub both_ok : {T E : Type 0} (r : Result T E) (P Q R : T → Type 0) → ((x : T) → P x → Q x → R x) → IfOk r P → IfOk r Q
    → IfOk r R
both_ok (Ok x) P Q R f p q = f x p q
both_ok (Err e) P Q R f p q = tt
