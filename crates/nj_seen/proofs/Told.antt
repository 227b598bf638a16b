-- A table tells the generations that it holds.
use Rattle.std.proofs.Common.{◌≡◌, ℕ, ◌+◌, ◌-◌, ◌≤◌, true, false, List, [], ◌∷◌, length, map, refl, sym, ap, ◌∙◌, arith, ◌==◌, eq-eqb}
use Rattle.std.specs.Prelude.{Some, filter, if◌then◌else◌}
use Rattle.std.specs.List.{All, concat, list_any}
use Rattle.std.proofs.lemmas.Bool.{eqb-true, false_from_ne_true}
use Rattle.std.proofs.lemmas.List.Elements.{All-head, All-tail}
use Rattle.nj_search_defs.specs.Pruning.{Seen}
use Rattle.nj_claims.specs.Tables.{entries_in, owner_in}
use Rattle.nj_seen.specs.Held.{AreInOrder, HoldsSeen, generation_at, generations_from, seen_in, step_of, oldest_step}
use Rattle.nj_seen.proofs.Keys.{in_rising_order}
use Rattle.nj_seen.proofs.Members.{In, Distinct, distinct, distinct_left, distinct_right, apart, in_filter, filtered, in_map, mapped, is_key, key_is}
use Rattle.nj_seen.proofs.Steps.{is_within, some_has}
use Rattle.nj_seen.proofs.Counting.{IsMap, distinct_keys}
use Rattle.nj_seen.proofs.Shuffling.{same_members}

-- the keys of a table whose owner is a step, in the order of the slots
abbrev keys_at : List ℕ → ℕ → List ℕ
keys_at words step = map (λ (e : ℕ × ℕ). e.0) (filter (λ (e : ℕ × ℕ). e.1 == step) (entries_in words))

owned_at : (words : List ℕ) (step key : ℕ) → IsMap words → In key (keys_at words step) → owner_in words key ≡ Some step
owned_at words step key is i =
    let s = in_map (λ (e : ℕ × ℕ). e.0) key (filter (λ (e : ℕ × ℕ). e.1 == step) (entries_in words)) i in
    let t = in_filter (λ (e : ℕ × ℕ). e.1 == step) s.0 (entries_in words) s.1 in
    ap (owner_in words) (sym s.2) ∙ is.owner s.0.0 s.0.1 t.0 ∙ ap (λ (o : ℕ). Some o) (eqb-true s.0.1 step t.1)

at_owned : (words : List ℕ) (step key : ℕ) → IsMap words → owner_in words key ≡ Some step → In key (keys_at words step)
at_owned words step key is e =
    mapped (λ (e : ℕ × ℕ). e.0) (key, step) (filter (λ (e : ℕ × ℕ). e.1 == step) (entries_in words))
    (filtered (λ (e : ℕ × ℕ). e.1 == step) (key, step) (entries_in words) (is.entry key step e) (eq-eqb step step refl))

-- the step of a key of the oldest generation, and of a later one
step_here : (first : ℕ) (keys : List ℕ) (later : Seen) (key : ℕ) → In key keys
    → step_of first (keys ∷ later) key ≡ Some first
step_here first keys later key i = ap (λ b. if b then Some first else step_of (first + 1) later key) (key_is key keys i)

step_there : (first : ℕ) (keys : List ℕ) (later : Seen) (key : ℕ) → (In key keys → ⊥)
    → step_of first (keys ∷ later) key ≡ step_of (first + 1) later key
step_there first keys later key lacks =
    ap (λ b. if b then Some first else step_of (first + 1) later key)
    (false_from_ne_true (list_any (λ k. k == key) keys) (λ t. lacks (is_key key keys t)))

first_has : (first : ℕ) (keys : List ℕ) (later : Seen) (key : ℕ) → step_of first (keys ∷ later) key ≡ Some first
    → In key keys
first_has first keys later key =
    elim (list_any (λ k. k == key) keys) as (λ b. list_any (λ k. k == key) keys ≡ b
    → (if b then Some first else step_of (first + 1) later key) ≡ Some first → In key keys) [
      | true ↦ λ t e. is_key key keys t
      | false ↦ λ t e. let w = is_within (first + 1) later key first e in let le : first + 1 ≤ first =
          w.0 in absurd (omega arith)
    ] refl

-- where each owner from a step on is the step of its key's generation, the generations are those that the table tells
pub told : (words : List ℕ) (first : ℕ) (seen : Seen) → IsMap words → All AreInOrder seen → Distinct (concat seen)
    → ((key owner : ℕ) → first ≤ owner → owner_in words key ≡ Some owner → step_of first seen key ≡ Some owner)
    → ((key owner : ℕ) → first ≤ owner → step_of first seen key ≡ Some owner → owner_in words key ≡ Some owner)
    → seen ≡ generations_from words first (length seen)
told words first [] is sorted d into back = refl
told words first (keys ∷ later) is sorted d into back =
    let here : keys ≡ generation_at words first = in_rising_order (keys_at words first) keys
    (same_members (keys_at words first) keys
    (distinct_keys (λ (e : ℕ × ℕ). e.1 == first) (entries_in words) is.once) (distinct_left keys (concat later) d)
    (λ key i. first_has first keys later key (into key first (omega arith) (owned_at words first key is i)))
    (λ key i. at_owned words first key is (back key first (omega arith) (step_here first keys later key i))))
    (All-head AreInOrder keys later sorted) in
    let rest : later ≡ generations_from words (first + 1) (length later) =
    told words (first + 1) later is (All-tail AreInOrder keys later sorted) (distinct_right keys (concat later) d)
    (λ key owner le e.
    let whole : step_of first (keys ∷ later) key ≡ Some owner = into key owner (omega arith) e in
    sym (step_there first keys later key (λ i. let f : Some first ≡ Some owner = sym (step_here first keys later key i)
    ∙ whole in let same : first ≡ owner = cc in omega arith)) ∙ whole)
    (λ key owner le e.
    back key owner (omega arith)
    (step_there first keys later key (λ i. apart keys (concat later) d key i (some_has (first + 1) later key owner e))
    ∙ e)) in
    λ i. here i ∷ rest i

-- so the seen keys that a table holds are those that it tells
pub seen_told : (words : List ℕ) (seen : Seen) (step : ℕ) → IsMap words → HoldsSeen words seen step
    → seen ≡ seen_in words step (oldest_step step seen)
unfolding seen_in
seen_told words seen step is holds =
    let few : length seen ≤ step + 1 = holds.few in
    let long : length seen ≡ step + 1 - oldest_step step seen = omega arith in
    told words (oldest_step step seen) seen is holds.in_order (distinct (concat seen) holds.once)
    (λ key owner le e. sym (holds.owners key) ∙ e) (λ key owner le e. holds.owners key ∙ e)
    ∙ ap (generations_from words (oldest_step step seen)) long
