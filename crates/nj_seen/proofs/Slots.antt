-- The slots of a table, one after another: its entries so far, and the entries since a step.
use Rattle.std.proofs.Common.{◌≡◌, ◌≢◌, ℕ, zero, suc, ◌+◌, ◌-◌, ◌*◌, ◌/◌, ◌^◌, ◌<◌, ◌≤◌, length-drop, ⊎_elim, Bool, true, false, not, ◌&&◌, ◌==◌, nat_le, List, [], ◌∷◌, ◌++◌, min, length, take, drop, refl, sym, ap, ◌∙◌, subst, arith, add-one, eq-eqb, append_assoc, append-nil}
use Rattle.std.specs.Prelude.{filter, if◌then◌else◌}
use Rattle.std.specs.List.{All}
use Rattle.std.proofs.lemmas.Bool.{cases_lt, and_parts, leb-true}
use Rattle.std.proofs.lemmas.List.{length_push, take_more, take-append-drop, length-take-le, take_all}
use Rattle.std.proofs.lemmas.List.Elements.{filter-append, All-push, All-weaker}
use Rattle.std.proofs.Math.Nat.{two-pow-succ}
use Rattle.nj_claims.specs.Tables.{key_at, owner_at, slot_count, IsTable, entries_in}
use Rattle.nj_seen.specs.Held.{entries_since, is_since}

-- the entry of a slot
abbrev pub slot_entry : ℕ → ℕ → List (ℕ × ℕ)
slot_entry key owner = if key == 0 then [] else (key, owner) ∷ []

-- the entries of two parts, the first of whole slots
entries_append : (n : ℕ) (xs ys : List ℕ) → length xs ≡ 2 * n → entries_in (xs ++ ys) ≡ entries_in xs ++ entries_in ys
entries_append n [] ys wide = refl
entries_append n (k ∷ []) ys wide = absurd (omega arith)
entries_append zero (k ∷ o ∷ xs) ys wide = absurd (omega arith)
entries_append (suc n) (k ∷ o ∷ xs) ys wide =
    elim (k == 0) as (λ b. (if b then entries_in (xs ++ ys) else (k, o) ∷ entries_in (xs ++ ys))
    ≡ (if b then entries_in xs else (k, o) ∷ entries_in xs) ++ entries_in ys) [
      | true ↦ entries_append n xs ys (omega arith)
      | false ↦ ap (λ es. (k, o) ∷ es) (entries_append n xs ys (omega arith))
    ]

-- one slot more
two_more : (words : List ℕ) (i : ℕ) → 2 * i + 1 < length words
    → take (2 * (i + 1)) words ≡ take (2 * i) words ++ key_at words i ∷ owner_at words i ∷ []
two_more words i lt =
    let at : 2 * (i + 1) ≡ 2 * i + 1 + 1 = omega arith in
    ap (λ n. take n words) at
    ∙ (take_more words (2 * i + 1) 0 lt
    ∙ (ap (λ xs. xs ++ owner_at words i ∷ []) (take_more words (2 * i) 0 (omega arith))
    ∙ append_assoc (take (2 * i) words) (key_at words i ∷ []) (owner_at words i ∷ [])))

pub entries_more : (words : List ℕ) (i : ℕ) → 2 * i + 1 < length words → entries_in (take (2 * (i + 1)) words)
    ≡ entries_in (take (2 * i) words) ++ slot_entry (key_at words i) (owner_at words i)
entries_more words i lt =
    ap entries_in (two_more words i lt) ∙ entries_append i (take (2 * i) words) (key_at words i ∷ owner_at words i ∷ [])
    (length-take-le (2 * i) words (omega arith))

-- the entries of the slots so far, and of the others
pub entries_split : (words : List ℕ) (i : ℕ) → 2 * i ≤ length words
    → entries_in words ≡ entries_in (take (2 * i) words) ++ entries_in (drop (2 * i) words)
entries_split words i le =
    ap entries_in (sym (take-append-drop (2 * i) words))
    ∙ entries_append i (take (2 * i) words) (drop (2 * i) words) (length-take-le (2 * i) words le)

-- all slots
pub all_slots : (words : List ℕ) (i : ℕ) → length words / 2 ≤ i → entries_in (take (2 * i) words) ≡ entries_in words
all_slots words i le =
    ⊎_elim
    (λ (lt : 2 * i < length words).
    let one : length words ≡ 2 * i + 1 = omega arith in let half : 2 * i ≤ length words = omega arith in
    sym (entries_split words i half
    ∙ (ap (λ xs. entries_in (take (2 * i) words) ++ xs)
    (odd (drop (2 * i) words) (length-drop (2 * i) words ∙ (let r : length words - 2 * i ≡ 1 = omega arith in r)))
    ∙ append-nil (entries_in (take (2 * i) words)))))
    (λ (ge : length words ≤ 2 * i). ap entries_in (take_all (2 * i) words ge)) (cases_lt (2 * i) (length words)) where
      odd : (xs : List ℕ) → length xs ≡ 1 → entries_in xs ≡ []
      odd [] e = refl
      odd (x ∷ []) e = refl
      odd (x ∷ y ∷ xs) e = absurd (omega arith)

-- the entry of a slot, since a step
since_slot : (from key owner : ℕ) → filter (λ (e : ℕ × ℕ). nat_le from e.1) (slot_entry key owner)
    ≡ (if not (key == 0) && nat_le from owner then (key, owner) ∷ [] else [])
since_slot from key owner =
    elim (key == 0) as (λ b. filter (λ (e : ℕ × ℕ). nat_le from e.1) (if b then [] else (key, owner) ∷ [])
    ≡ (if not b && nat_le from owner then (key, owner) ∷ [] else [])) [
      | true ↦ refl
      | false ↦ refl
    ]

pub since_more : (words : List ℕ) (from i : ℕ) → 2 * i + 1 < length words
    → entries_since from (take (2 * (i + 1)) words) ≡ entries_since from (take (2 * i) words)
    ++ (if is_since from words i then (key_at words i, owner_at words i) ∷ [] else [])
since_more words from i lt =
    let p : ℕ × ℕ → Bool = λ e. nat_le from e.1 in
    ap (filter p) (entries_more words i lt)
    ∙ (filter-append p (entries_in (take (2 * i) words)) (slot_entry (key_at words i) (owner_at words i))
    ∙ ap (λ xs. entries_since from (take (2 * i) words) ++ xs) (since_slot from (key_at words i) (owner_at words i)))

pub since_taken : (words : List ℕ) (from i : ℕ) → 2 * i + 1 < length words → is_since from words i ≡ true
    → entries_since from (take (2 * (i + 1)) words) ≡ entries_since from (take (2 * i) words)
    ++ (key_at words i, owner_at words i) ∷ []
since_taken words from i lt t =
    since_more words from i lt ∙ ap (λ b. entries_since from (take (2 * i) words)
    ++ (if b then (key_at words i, owner_at words i) ∷ [] else [])) t

pub since_passed : (words : List ℕ) (from i : ℕ) → 2 * i + 1 < length words → is_since from words i ≡ false
    → entries_since from (take (2 * (i + 1)) words) ≡ entries_since from (take (2 * i) words)
since_passed words from i lt f =
    since_more words from i lt ∙ (ap (λ b. entries_since from (take (2 * i) words)
    ++ (if b then (key_at words i, owner_at words i) ∷ [] else [])) f
    ∙ append-nil (entries_since from (take (2 * i) words)))

pub all_since_slots : (words : List ℕ) (from i : ℕ) → length words / 2 ≤ i
    → entries_since from (take (2 * i) words) ≡ entries_since from words
all_since_slots words from i le = ap (filter (λ (e : ℕ × ℕ). nat_le from e.1)) (all_slots words i le)

-- what a slot since a step holds
pub holds_since : (words : List ℕ) (from i : ℕ) → is_since from words i ≡ true
    → (key_at words i ≢ 0) × (from ≤ owner_at words i)
holds_since words from i t =
    let parts = and_parts (not (key_at words i == 0)) (nat_le from (owner_at words i)) t in (
      λ e. absurd (let f : not true ≡ true = (λ j. not (sym (eq-eqb (key_at words i) 0 e) j)) ∙ parts.0 in cc),
      leb-true from (owner_at words i) parts.1,
    )

-- a table has two words for each slot
pub two_each : (words : List ℕ) → IsTable words → length words ≡ 2 * slot_count words
two_each words t = let k : ℕ = t.size.0 in let e : length words ≡ 2 ^ (k + 1) =
    t.size.1 in let p : 2 ^ suc k ≡ 2 ^ k + 2 ^ k = two-pow-succ k in
    let q : 2 ^ (k + 1) ≡ 2 ^ suc k = ap (λ (i : ℕ). 2 ^ i) (add-one k) in omega arith

-- how many entries there are since a step, with a slot more
pub count_taken : (words : List ℕ) (from i : ℕ) → 2 * i + 1 < length words → is_since from words i ≡ true
    → length (entries_since from (take (2 * (i + 1)) words)) ≡ length (entries_since from (take (2 * i) words)) + 1
count_taken words from i lt t = ap length (since_taken words from i lt t)
    ∙ length_push (entries_since from (take (2 * i) words)) (key_at words i, owner_at words i)

pub count_passed : (words : List ℕ) (from i : ℕ) → 2 * i + 1 < length words → is_since from words i ≡ false
    → length (entries_since from (take (2 * (i + 1)) words)) ≡ length (entries_since from (take (2 * i) words))
count_passed words from i lt f = ap length (since_passed words from i lt f)

-- the least owner since a step, with a slot more
pub least_taken : (words : List ℕ) (from i first next : ℕ) → 2 * i + 1 < length words → is_since from words i ≡ true
    → next ≡ min first (owner_at words i)
    → All (λ entry. first ≤ entry.1) (entries_since from (take (2 * i) words))
    → All (λ entry. next ≤ entry.1) (entries_since from (take (2 * (i + 1)) words))
least_taken words from i first next lt t is all =
    let P : ℕ × ℕ → Type 0 = λ entry. next ≤ entry.1 in
    subst (All P) (sym (since_taken words from i lt t))
    (All-push P (entries_since from (take (2 * i) words)) (key_at words i, owner_at words i)
    (All-weaker (λ (entry : ℕ × ℕ). first ≤ entry.1) P (λ entry le. omega arith)
    (entries_since from (take (2 * i) words)) all) (omega arith))

pub least_passed : (words : List ℕ) (from i first next : ℕ) → 2 * i + 1 < length words → is_since from words i ≡ false
    → next ≡ first
    → All (λ entry. first ≤ entry.1) (entries_since from (take (2 * i) words))
    → All (λ entry. next ≤ entry.1) (entries_since from (take (2 * (i + 1)) words))
least_passed words from i first next lt f is all =
    let P : ℕ × ℕ → Type 0 = λ entry. next ≤ entry.1 in
    subst (All P) (sym (since_passed words from i lt f))
    (All-weaker (λ (entry : ℕ × ℕ). first ≤ entry.1) P (λ entry le. omega arith)
    (entries_since from (take (2 * i) words)) all)
