-- The entries of a table: each key once, each with its slot's owner; and how many different numbers a list can hold.
use Rattle.std.proofs.Common.{◌≡◌, ◌≢◌, ℕ, zero, suc, ◌+◌, ◌*◌, ◌/◌, ◌<◌, ◌≤◌, ◌==◌, ◌⊎◌, inl, inr, ⊎_elim, List, [], ◌∷◌, length, map, get_or, set, refl, sym, ap, ◌∙◌, subst, arith, eq-eqb, ne_eqb, if◌then◌else◌}
use Rattle.std.specs.Prelude.{Some, ◌↔◌}
use Rattle.std.specs.List.{All, AllPairs, Contains}
use Rattle.std.specs.List.Sorted.{IsPermutation}
use Rattle.std.proofs.lemmas.List.Sorted.{IsPermutation-refl, IsPermutation-cons, IsPermutation-middle, IsPermutation-trans, length_permutation}
use Rattle.std.proofs.lemmas.List.Elements.{All-nil, All-cons, Contains-append_right, All-contains}
use mathlib.Core.Logic.{dite}
use native.Mathlib.Decide.{ℕ_discrete}
use Rattle.nj_claims.specs.Tables.{key_at, owner_at, slot_count, IsTable, entries_in, keys_in, owner_in}
use Rattle.nj_claims.proofs.Mapping.{StandsAt, key_at-rest, owner_at-rest, standing, stood, two_each}

abbrev Pairs : Type 0
Pairs = List (ℕ × ℕ)

-- the entries with a slot in front
skipped : (k o : ℕ) (ws : List ℕ) → k ≡ 0 → entries_in (k ∷ o ∷ ws) ≡ entries_in ws
skipped k o ws e = ap (λ b. if b then entries_in ws else (k, o) ∷ entries_in ws) (eq-eqb k 0 e)

counted : (k o : ℕ) (ws : List ℕ) → k ≢ 0 → entries_in (k ∷ o ∷ ws) ≡ (k, o) ∷ entries_in ws
counted k o ws ne = ap (λ b. if b then entries_in ws else (k, o) ∷ entries_in ws) (ne_eqb k 0 ne)

-- a slot of the rest is the next one of the whole
later_slot : (n k o : ℕ) (ws : List ℕ) (key owner : ℕ) → StandsAt n ws key owner
    → StandsAt (suc n) (k ∷ o ∷ ws) key owner
later_slot n k o ws key owner r = let l : r.slot < n = r.inside in
    record {
      some_key = r.some_key;
      slot = suc r.slot;
      inside = omega arith;
      held = key_at-rest k o ws r.slot ∙ r.held;
      owned = owner_at-rest k o ws r.slot ∙ r.owned;
    }

-- each entry stands in a slot
pub entry_slot : (n : ℕ) (ws : List ℕ) → length ws ≡ 2 * n → All (λ e. StandsAt n ws e.0 e.1) (entries_in ws)
entry_slot n [] wide = All-nil (λ e. StandsAt n [] e.0 e.1)
entry_slot n (k ∷ []) wide = All-nil (λ e. StandsAt n (k ∷ []) e.0 e.1)
entry_slot zero (k ∷ o ∷ ws) wide = absurd (omega arith)
entry_slot (suc n) (k ∷ o ∷ ws) wide = let P : ℕ × ℕ → Type 0 = λ e. StandsAt (suc n) (k ∷ o ∷ ws) e.0 e.1 in
    let rest : All P (entries_in ws) = λ i d l. later_slot n k o ws (get_or (entries_in ws) i d).0
    (get_or (entries_in ws) i d).1 (entry_slot n ws (omega arith) i d l) in dite (ℕ_discrete k 0)
    (λ z. subst (All P) (sym (skipped k o ws z)) rest)
    (λ ne. subst (All P) (sym (counted k o ws ne))
    (All-cons P (k, o) (entries_in ws) record {
      some_key = ne;
      slot = 0;
      inside = omega arith;
      held = refl;
      owned = refl;
    } rest))

-- each slot that is not empty has its entry
pub slot_entry : (n : ℕ) (ws : List ℕ) (slot : ℕ) → length ws ≡ 2 * n → slot < n → key_at ws slot ≢ 0
    → Contains (entries_in ws) (key_at ws slot, owner_at ws slot)
slot_entry n [] slot wide inside taken = absurd (omega arith)
slot_entry n (k ∷ []) slot wide inside taken = absurd (omega arith)
slot_entry zero (k ∷ o ∷ ws) slot wide inside taken = absurd (omega arith)
slot_entry (suc n) (k ∷ o ∷ ws) zero wide inside taken =
    subst (λ es. Contains es (k, o)) (sym (counted k o ws taken)) (0, omega arith, refl)
slot_entry (suc n) (k ∷ o ∷ ws) (suc slot) wide inside taken =
    let e = key_at-rest k o ws slot in let f = owner_at-rest k o ws slot in
    let rest = slot_entry n ws slot (omega arith) (omega arith) (λ z. taken (e ∙ z)) in
    subst (λ (x : ℕ × ℕ). Contains (entries_in (k ∷ o ∷ ws)) x) (λ i. (sym e i, sym f i)) (dite (ℕ_discrete k 0)
    (λ z. subst (λ es. Contains es (key_at ws slot, owner_at ws slot)) (sym (skipped k o ws z)) rest)
    (λ ne. subst (λ es. Contains es (key_at ws slot, owner_at ws slot)) (sym (counted k o ws ne))
    (Contains-append_right ((k, o) ∷ []) (entries_in ws) (key_at ws slot, owner_at ws slot) rest)))

-- no more entries than slots
pub at_most_slots : (n : ℕ) (ws : List ℕ) → length ws ≤ 2 * n + 1 → length (entries_in ws) ≤ n
at_most_slots n [] wide = omega arith
at_most_slots n (k ∷ []) wide = omega arith
at_most_slots zero (k ∷ o ∷ ws) wide = absurd (omega arith)
at_most_slots (suc n) (k ∷ o ∷ ws) wide =
    let l : length (entries_in ws) ≤ n = at_most_slots n ws (omega arith) in dite (ℕ_discrete k 0)
    (λ z. let e : length (entries_in (k ∷ o ∷ ws)) ≡ length (entries_in ws) = ap length (skipped k o ws z) in
    omega arith)
    (λ ne. let e : length (entries_in (k ∷ o ∷ ws)) ≡ suc (length (entries_in ws)) = ap length (counted k o ws ne) in
    omega arith)

-- the key of an entry by its place
key_of : (es : List (ℕ × ℕ)) (i : ℕ) (d e : ℕ) → i < length es
    → get_or (map (λ (x : ℕ × ℕ). x.0) es) i d ≡ (get_or es i (d, e)).0
key_of [] i d e l = absurd (omega arith)
key_of (x ∷ es) zero d e l = refl
key_of (x ∷ es) (suc i) d e l = key_of es i d e (omega arith)

length_keys : (es : List (ℕ × ℕ)) → length (map (λ (x : ℕ × ℕ). x.0) es) ≡ length es
length_keys [] = refl
length_keys (x ∷ es) = ap suc (length_keys es)

-- keys that stand in one slot each are different
pub keys_differ : (n : ℕ) (ws : List ℕ) → length ws ≡ 2 * n
    → ((i j : ℕ) → i < n → j < n → key_at ws i ≢ 0 → key_at ws i ≡ key_at ws j → i ≡ j)
    → AllPairs (λ a b. a ≢ b) (keys_in ws)
keys_differ n [] wide once = λ i j d l m. absurd (omega arith)
keys_differ n (k ∷ []) wide once = λ i j d l m. absurd (omega arith)
keys_differ zero (k ∷ o ∷ ws) wide once = absurd (omega arith)
keys_differ (suc n) (k ∷ o ∷ ws) wide once =
    let D : Pairs → Type 0 = λ es. AllPairs (λ a b. a ≢ b) (map (λ (x : ℕ × ℕ). x.0) es) in
    let rest : D (entries_in ws) = keys_differ n ws (omega arith) (λ i j li lj taken same. let e : suc i ≡ suc j =
    once (suc i) (suc j) (omega arith) (omega arith)
    (λ z. taken (sym (key_at-rest k o ws i) ∙ z)) (key_at-rest k o ws i ∙ (same ∙ sym (key_at-rest k o ws j))) in
    omega arith) in
    dite (ℕ_discrete k 0)
    (λ z. subst D (sym (skipped k o ws z)) rest)
    (λ ne. subst D (sym (counted k o ws ne)) (λ i j d l m. go ne rest i j d l m)) where
      go : k ≢ 0 → AllPairs (λ a b. a ≢ b) (keys_in ws) → (i j d : ℕ) → i < j → j < length (k ∷ keys_in ws)
          → get_or (k ∷ keys_in ws) i d ≢ get_or (k ∷ keys_in ws) j d
      go ne rest zero zero d l m = absurd (omega arith)
      go ne rest zero (suc j) d l m =
          λ same. let long : length (keys_in ws) ≡ length (entries_in ws) = length_keys (entries_in ws) in
          let inside : j < length (entries_in ws) = omega arith in
          let r = entry_slot n ws (omega arith) j (d, 0) inside in let q : r.slot < n = r.inside in
          let e : 0 ≡ suc r.slot = once 0 (suc r.slot) (omega arith) (omega arith) ne (same
          ∙ (key_of (entries_in ws) j d 0 inside ∙ (sym r.held ∙ sym (key_at-rest k o ws r.slot)))) in omega arith
      go ne rest (suc i) zero d l m = absurd (omega arith)
      go ne rest (suc i) (suc j) d l m = rest i j d (omega arith) (omega arith)

-- the laws of a table
pub once_each : (ws : List ℕ) → IsTable ws → AllPairs (λ a b. a ≢ b) (keys_in ws)
once_each ws t = keys_differ (slot_count ws) ws (two_each ws t) t.placed.once

pub entry_owner : (ws : List ℕ) (key owner : ℕ) → IsTable ws
    → Contains (entries_in ws) (key, owner) ↔ (owner_in ws key ≡ Some owner)
entry_owner ws key owner t = let n : ℕ = slot_count ws in let wide = two_each ws t in (
  (λ c. let r = All-contains (λ e. StandsAt n ws e.0 e.1) (entries_in ws) (key, owner) (entry_slot n ws wide) c in
      standing n ws key r.slot wide t.placed r.some_key r.inside r.held ∙ ap (λ x. Some x) r.owned),
  (λ e. let r = stood n ws key owner wide e in
      subst (λ (x : ℕ × ℕ). Contains (entries_in ws) x) (λ i. (r.held i, r.owned i))
      (slot_entry n ws r.slot wide r.inside (λ z. r.some_key (sym r.held ∙ z)))),
)

pub entries_named : (ws : List ℕ) → All (λ e. e.0 ≢ 0) (entries_in ws)
entries_named [] = All-nil (λ (e : ℕ × ℕ). e.0 ≢ 0)
entries_named (k ∷ []) = All-nil (λ (e : ℕ × ℕ). e.0 ≢ 0)
entries_named (k ∷ o ∷ ws) = let P : ℕ × ℕ → Type 0 = λ e. e.0 ≢ 0 in dite (ℕ_discrete k 0)
    (λ z. subst (All P) (sym (skipped k o ws z)) (entries_named ws))
    (λ ne. subst (All P) (sym (counted k o ws ne)) (All-cons P (k, o) (entries_in ws) ne (entries_named ws)))

pub entries_within : (ws : List ℕ) → length (entries_in ws) ≤ slot_count ws
entries_within ws = at_most_slots (length ws / 2) ws (omega arith)

-- a member, by recursion
abbrev IsIn : ℕ → List ℕ → Type 0
IsIn x [] = ⊥
IsIn x (y ∷ ys) = (y ≡ x) ⊎ IsIn x ys

is_in : (x : ℕ) (ys : List ℕ) → Contains ys x → IsIn x ys
is_in x ys c = go ys c.0 c.1 c.2 where
  go : (ys : List ℕ) (k : ℕ) → k < length ys → get_or ys k x ≡ x → IsIn x ys
  go [] k l e = absurd (omega arith)
  go (y ∷ ys) zero l e = inl e
  go (y ∷ ys) (suc k) l e = inr (go ys k (omega arith) e)

-- a list without the first x
without : ℕ → List ℕ → List ℕ
without x [] = []
without x (y ∷ ys) = if y == x then ys else y ∷ without x ys

without-here : (x y : ℕ) (ys : List ℕ) → y ≡ x → without x (y ∷ ys) ≡ ys
unfolding without
without-here x y ys e = ap (λ b. if b then ys else y ∷ without x ys) (eq-eqb y x e)

without-there : (x y : ℕ) (ys : List ℕ) → y ≢ x → without x (y ∷ ys) ≡ y ∷ without x ys
unfolding without
without-there x y ys ne = ap (λ b. if b then ys else y ∷ without x ys) (ne_eqb y x ne)

without_length : (x : ℕ) (ys : List ℕ) → IsIn x ys → suc (length (without x ys)) ≡ length ys
without_length x [] i = absurd i
without_length x (y ∷ ys) i = dite (ℕ_discrete y x)
    (λ e. ap (λ (l : List ℕ). suc (length l)) (without-here x y ys e))
    (λ ne. ap (λ (l : List ℕ). suc (length l)) (without-there x y ys ne)
    ∙ ap suc (without_length x ys (⊎_elim (λ (e : y ≡ x). absurd (ne e)) (λ (r : IsIn x ys). r) i)))

without_keeps : (x z : ℕ) (ys : List ℕ) → z ≢ x → IsIn z ys → IsIn z (without x ys)
without_keeps x z [] ne i = absurd i
without_keeps x z (y ∷ ys) ne i = dite (ℕ_discrete y x)
    (λ e. subst (IsIn z) (sym (without-here x y ys e))
    (⊎_elim (λ (f : y ≡ z). absurd (ne (sym f ∙ e))) (λ (r : IsIn z ys). r) i))
    (λ no. subst (IsIn z) (sym (without-there x y ys no))
    (⊎_elim (λ (f : y ≡ z). inl f) (λ (r : IsIn z ys). inr (without_keeps x z ys ne r)) i))

fits_in : (xs ys : List ℕ) → AllPairs (λ a b. a ≢ b) xs → ((k : ℕ) → k < length xs → IsIn (get_or xs k 0) ys)
    → length xs ≤ length ys
fits_in [] ys differ inside = omega arith
fits_in (x ∷ xs) ys differ inside = let first : IsIn x ys = inside 0 (omega arith) in
    let shorter : suc (length (without x ys)) ≡ length ys = without_length x ys first in
    let rest : length xs ≤ length (without x ys) =
    fits_in xs (without x ys) (λ i j d l m. differ (suc i) (suc j) d (omega arith) (omega arith))
    (λ k l. without_keeps x (get_or xs k 0) ys (λ e. differ 0 (suc k) 0 (omega arith) (omega arith) (sym e))
    (inside (suc k) (omega arith))) in omega arith

-- different numbers that all stand in a list are no more than it has
pub numbers_fit : (xs ys : List ℕ) → AllPairs (λ a b. a ≢ b) xs → All (Contains ys) xs → length xs ≤ length ys
numbers_fit xs ys differ inside = fits_in xs ys differ (λ k l. is_in (get_or xs k 0) ys (inside k 0 l))

-- an entry more, where a slot was empty
pub put_entries : (n : ℕ) (ws : List ℕ) (key owner p : ℕ) → length ws ≡ 2 * n → p < n → key ≢ 0 → key_at ws p ≡ 0
    → IsPermutation ((key, owner) ∷ entries_in ws) (entries_in (set (set ws (2 * p) key) (2 * p + 1) owner))
put_entries n [] key owner p wide inside real empty = absurd (omega arith)
put_entries n (k ∷ []) key owner p wide inside real empty = absurd (omega arith)
put_entries zero (k ∷ o ∷ ws) key owner p wide inside real empty = absurd (omega arith)
put_entries (suc n) (k ∷ o ∷ ws) key owner zero wide inside real empty =
    subst (λ (x : Pairs × Pairs). IsPermutation ((key, owner) ∷ x.0) x.1)
    (λ i. (sym (skipped k o ws empty) i, sym (counted key owner ws real) i))
    (IsPermutation-refl ((key, owner) ∷ entries_in ws))
put_entries (suc n) (k ∷ o ∷ ws) key owner (suc p) wide inside real empty =
    let a : 2 * suc p ≡ suc (suc (2 * p)) = omega arith in
    let b : 2 * suc p + 1 ≡ suc (suc (2 * p + 1)) = omega arith in
    let new : List ℕ = set (set ws (2 * p) key) (2 * p + 1) owner in
    let rest : IsPermutation ((key, owner) ∷ entries_in ws) (entries_in new) =
    put_entries n ws key owner p (omega arith) (omega arith) real (sym (key_at-rest k o ws p) ∙ empty) in
    let same : set (set (k ∷ o ∷ ws) (2 * suc p) key) (2 * suc p + 1) owner ≡ k ∷ o ∷ new =
    λ i. set (set (k ∷ o ∷ ws) (a i) key) (b i) owner in
    subst (λ (l : List ℕ). IsPermutation ((key, owner) ∷ entries_in (k ∷ o ∷ ws)) (entries_in l)) (sym same)
    (dite (ℕ_discrete k 0)
    (λ z. subst (λ (x : Pairs × Pairs). IsPermutation ((key, owner) ∷ x.0) x.1)
    (λ i. (sym (skipped k o ws z) i, sym (skipped k o new z) i)) rest)
    (λ ne. subst (λ (x : Pairs × Pairs). IsPermutation ((key, owner) ∷ x.0) x.1)
    (λ i. (sym (counted k o ws ne) i, sym (counted k o new ne) i))
    (IsPermutation-trans ((key, owner) ∷ (k, o) ∷ entries_in ws) ((k, o) ∷ (key, owner) ∷ entries_in ws)
    ((k, o) ∷ entries_in new)
    (IsPermutation-middle ((key, owner) ∷ []) (k, o) (entries_in ws))
    (IsPermutation-cons (k, o) ((key, owner) ∷ entries_in ws) (entries_in new) rest))))

pub one_more : (n : ℕ) (ws : List ℕ) (key owner p : ℕ) → length ws ≡ 2 * n → p < n → key ≢ 0 → key_at ws p ≡ 0
    → length (entries_in (set (set ws (2 * p) key) (2 * p + 1) owner)) ≡ length (entries_in ws) + 1
one_more n ws key owner p wide inside real empty = let new : List ℕ = set (set ws (2 * p) key) (2 * p + 1) owner in
    let e : length (entries_in new) ≡ suc (length (entries_in ws)) = length_permutation ((key, owner) ∷ entries_in ws)
    (entries_in new) (put_entries n ws key owner p wide inside real empty) in omega arith

-- where all slots are empty there is no entry
pub none_entered : (n : ℕ) (ws : List ℕ) → length ws ≡ 2 * n → ((i : ℕ) → i < n → key_at ws i ≡ 0) → entries_in ws ≡ []
none_entered n [] wide empty = refl
none_entered n (k ∷ []) wide empty = refl
none_entered zero (k ∷ o ∷ ws) wide empty = absurd (omega arith)
none_entered (suc n) (k ∷ o ∷ ws) wide empty = skipped k o ws (empty 0 (omega arith))
    ∙ none_entered n ws (omega arith) (λ i l. sym (key_at-rest k o ws i) ∙ empty (suc i) (omega arith))
