-- The words of a table as a map from keys to owners.
use Rattle.std.proofs.Common.{◌≡◌, ◌≢◌, ℕ, zero, suc, ◌+◌, ◌*◌, ◌<◌, ◌≤◌, min, ◌⊎◌, inl, inr, ⊎_elim, List, [], ◌∷◌, length, get_or, refl, sym, ap, ◌∙◌, subst, arith, eq-eqb, ne_eqb, if◌then◌else◌, ◌^◌, add-one}
use Rattle.std.specs.Prelude.{Option, Some, None, IfSome}
use Rattle.std.specs.List.{All, Contains}
use Rattle.std.specs.Option.{unwrap_or}
use Rattle.std.proofs.lemmas.List.Elements.{All-head, All-tail, Contains-append_cases}
use mathlib.Core.Logic.{dite}
use native.Mathlib.Decide.{ℕ_discrete}
use Rattle.std.proofs.Math.Nat.{two-pow-succ}
use Rattle.std.proofs.lemmas.Nat.{pow_pos}
use Rattle.nj_claims.specs.declared.view.Opening.{Opening}
use Rattle.nj_claims.specs.Boards.{HasFirst, first_owner}
use Rattle.nj_claims.specs.Tables.{no_owner, key_at, owner_at, slot_count, IsPlaced, IsTable, entries_in, owner_among, owner_in, lowered, owner_after}

-- the words of the slots behind the first
pub key_at-rest : (k o : ℕ) (ws : List ℕ) (i : ℕ) → key_at (k ∷ o ∷ ws) (suc i) ≡ key_at ws i
key_at-rest k o ws i = let e : 2 * suc i ≡ suc (suc (2 * i)) = omega arith in ap (λ j. get_or (k ∷ o ∷ ws) j 0) e

pub owner_at-rest : (k o : ℕ) (ws : List ℕ) (i : ℕ) → owner_at (k ∷ o ∷ ws) (suc i) ≡ owner_at ws i
owner_at-rest k o ws i =
    let e : 2 * suc i + 1 ≡ suc (suc (2 * i + 1)) = omega arith in ap (λ j. get_or (k ∷ o ∷ ws) j 0) e

-- the first slot's entry is read first
entry_first : (key k o : ℕ) (ws : List ℕ) → k ≢ 0 → k ≡ key → owner_among key (entries_in (k ∷ o ∷ ws)) ≡ Some o
entry_first key k o ws some e =
    subst (λ b. owner_among key (if b then entries_in ws else (k, o) ∷ entries_in ws) ≡ Some o) (sym (ne_eqb k 0 some))
    (ap (λ b. if b then Some o else owner_among key (entries_in ws)) (eq-eqb k key e))

entry_later : (key k o : ℕ) (ws : List ℕ) → k ≢ key
    → owner_among key (entries_in (k ∷ o ∷ ws)) ≡ owner_among key (entries_in ws)
entry_later key k o ws ne = dite (ℕ_discrete k 0)
    (λ z. ap (λ b. owner_among key (if b then entries_in ws else (k, o) ∷ entries_in ws)) (eq-eqb k 0 z))
    (λ some. ap (λ b. owner_among key (if b then entries_in ws else (k, o) ∷ entries_in ws)) (ne_eqb k 0 some)
    ∙ ap (λ b. if b then Some o else owner_among key (entries_in ws)) (ne_eqb k key ne))

-- a key that stands in a slot, and in none before it, has that slot's owner
standing_among : (n : ℕ) (ws : List ℕ) (key slot : ℕ) → length ws ≡ 2 * n → key ≢ 0 → slot < n → key_at ws slot ≡ key
    → ((i : ℕ) → i < slot → key_at ws i ≢ key)
    → owner_among key (entries_in ws) ≡ Some (owner_at ws slot)
standing_among n [] key slot wide some inside held before = absurd (omega arith)
standing_among n (k ∷ []) key slot wide some inside held before = absurd (omega arith)
standing_among zero (k ∷ o ∷ ws) key slot wide some inside held before = absurd (omega arith)
standing_among (suc n) (k ∷ o ∷ ws) key zero wide some inside held before =
    entry_first key k o ws (λ z. some (sym held ∙ z)) held
standing_among (suc n) (k ∷ o ∷ ws) key (suc slot) wide some inside held before =
    entry_later key k o ws (before 0 (omega arith))
    ∙ (standing_among n ws key slot (omega arith) some (omega arith) (sym (key_at-rest k o ws slot)
    ∙ held) (λ i l e. before (suc i) (omega arith) (key_at-rest k o ws i ∙ e))
    ∙ ap (λ x. Some x) (sym (owner_at-rest k o ws slot)))

-- a key that stands in no slot has no owner
absent_among : (n : ℕ) (ws : List ℕ) (key : ℕ) → length ws ≡ 2 * n → ((i : ℕ) → i < n → key_at ws i ≢ key)
    → owner_among key (entries_in ws) ≡ None
absent_among n [] key wide none = refl
absent_among n (k ∷ []) key wide none = refl
absent_among zero (k ∷ o ∷ ws) key wide none = absurd (omega arith)
absent_among (suc n) (k ∷ o ∷ ws) key wide none =
    entry_later key k o ws (none 0 (omega arith))
    ∙ absent_among n ws key (omega arith) (λ i l e. none (suc i) (omega arith) (key_at-rest k o ws i ∙ e))

-- a slot that a key stands in
pub record StandsAt (n : ℕ) (ws : List ℕ) (key owner : ℕ) : Type 0 where
  pub some_key : key ≢ 0
  pub slot : ℕ
  pub inside : slot < n
  pub held : key_at ws slot ≡ key
  pub owned : owner_at ws slot ≡ owner

-- an owner of a key is that of a slot
stood_among : (n : ℕ) (ws : List ℕ) (key owner : ℕ) → length ws ≡ 2 * n → owner_among key (entries_in ws) ≡ Some owner
    → StandsAt n ws key owner
stood_among n [] key owner wide e = absurd (cc)
stood_among n (k ∷ []) key owner wide e = absurd (cc)
stood_among zero (k ∷ o ∷ ws) key owner wide e = absurd (omega arith)
stood_among (suc n) (k ∷ o ∷ ws) key owner wide e = dite (ℕ_discrete k key)
    (λ is. dite (ℕ_discrete k 0)
    (λ z. let r = stood_among n ws key owner (omega arith)
    (sym (ap (λ b. owner_among key (if b then entries_in ws else (k, o) ∷ entries_in ws)) (eq-eqb k 0 z)) ∙ e) in
    later r)
    (λ some. let same : o ≡ owner = let f = sym (entry_first key k o ws some is) ∙ e in cc in
    record { some_key = λ z. some (is ∙ z); slot = 0; inside = omega arith; held = is; owned = same }))
    (λ ne. later (stood_among n ws key owner (omega arith) (sym (entry_later key k o ws ne) ∙ e))) where
      later : StandsAt n ws key owner → StandsAt (suc n) (k ∷ o ∷ ws) key owner
      later r = let l : r.slot < n = r.inside in
          record {
            some_key = r.some_key;
            slot = suc r.slot;
            inside = omega arith;
            held = key_at-rest k o ws r.slot
                ∙ r.held;
            owned = owner_at-rest k o ws r.slot ∙ r.owned;
          }

-- the same of the map
pub standing : (n : ℕ) (ws : List ℕ) (key slot : ℕ) → length ws ≡ 2 * n → IsPlaced n ws → key ≢ 0 → slot < n
    → key_at ws slot ≡ key → owner_in ws key ≡ Some (owner_at ws slot)
unfolding owner_in
standing n ws key slot wide placed some inside held = standing_among n ws key slot wide some inside held
    (λ i l e. let same : i ≡ slot = placed.once i slot (omega arith) inside (λ z. some (sym e ∙ z)) (e ∙ sym held) in
    omega arith)

pub absent_in : (n : ℕ) (ws : List ℕ) (key : ℕ) → length ws ≡ 2 * n → ((i : ℕ) → i < n → key_at ws i ≢ key)
    → owner_in ws key ≡ None
unfolding owner_in
absent_in n ws key wide none = absent_among n ws key wide none

pub stood : (n : ℕ) (ws : List ℕ) (key owner : ℕ) → length ws ≡ 2 * n → owner_in ws key ≡ Some owner
    → StandsAt n ws key owner
unfolding owner_in
stood n ws key owner wide e = stood_among n ws key owner wide e

-- the key 0 is in no map
pub zero_in : (n : ℕ) (ws : List ℕ) → length ws ≡ 2 * n → owner_in ws 0 ≡ None
zero_in n ws wide = go (owner_in ws 0) refl where
  go : (o : Option ℕ) → owner_in ws 0 ≡ o → owner_in ws 0 ≡ None
  go None e = e
  go (Some owner) e = absurd ((stood n ws 0 owner wide e).some_key refl)

-- where no slot is empty, there are as many entries as slots
pub all_taken : (n : ℕ) (ws : List ℕ) → length ws ≡ 2 * n → ((i : ℕ) → i < n → key_at ws i ≢ 0)
    → length (entries_in ws) ≡ n
all_taken n [] wide taken = omega arith
all_taken n (k ∷ []) wide taken = absurd (omega arith)
all_taken zero (k ∷ o ∷ ws) wide taken = absurd (omega arith)
all_taken (suc n) (k ∷ o ∷ ws) wide taken =
    ap (λ b. length (if b then entries_in ws else (k, o) ∷ entries_in ws)) (ne_eqb k 0 (taken 0 (omega arith)))
    ∙ (let r : length (entries_in ws) ≡ n =
    all_taken n ws (omega arith) (λ i l z. taken (suc i) (omega arith) (key_at-rest k o ws i ∙ z)) in ap suc r)

-- whether a key stands in some slot
pub seek : (n : ℕ) (ws : List ℕ) (key : ℕ) → ((slot : ℕ) × (slot < n) × (key_at ws slot ≡ key))
    ⊎ ((i : ℕ) → i < n → key_at ws i ≢ key)
seek zero ws key = inr (λ i l. absurd (omega arith))
seek (suc n) ws key = dite (ℕ_discrete (key_at ws n) key)
    (λ e. inl (n, omega arith, e))
    (λ ne. ⊎_elim (λ (p : (slot : ℕ) × (slot < n) × (key_at ws slot ≡ key)). let l : p.0 < n = p.1 in
    inl (p.0, omega arith, p.2))
    (λ (none : (i : ℕ) → i < n → key_at ws i ≢ key).
    inr (λ i l e. dite (ℕ_discrete i n) (λ is. ne (ap (key_at ws) (sym is) ∙ e)) (λ no. none i (omega arith) e)))
    (seek n ws key))

-- a key's owner after claims is the least of them: it is at most each, and one of them
pub least_is : (key : ℕ) (first : Option ℕ) (claims : List (ℕ × ℕ)) (m : ℕ) → IfSome first (λ x. m ≤ x)
    → All (λ c. c.0 ≡ key → m ≤ c.1) claims
    → (first ≡ Some m) ⊎ Contains claims (key, m) → owner_after key first claims ≡ Some m
least_is key first [] m bound all source =
    ⊎_elim (λ (e : first ≡ Some m). e) (λ (c : Contains [] (key, m)). absurd (let l : c.0 < 0 = c.1 in
    omega arith)) source
least_is key first (c ∷ cs) m bound all source =
    let P : ℕ × ℕ → Type 0 = λ c. c.0 ≡ key → m ≤ c.1 in dite (ℕ_discrete c.0 key)
    (λ e. ap (λ b. owner_after key (if b then lowered first c.1 else first) cs) (eq-eqb c.0 key e)
    ∙ least_is key (lowered first c.1) cs m (low first bound (All-head P c cs all e)) (All-tail P c cs all)
    (⊎_elim (λ (f : first ≡ Some m). inl (same first f (All-head P c cs all e)))
    (λ (i : Contains (c ∷ cs) (key, m)).
    ⊎_elim (λ (h : Contains (c ∷ []) (key, m)). inl (own first bound (only c (key, m) h)))
    (λ (t : Contains cs (key, m)). inr t) (Contains-append_cases (c ∷ []) cs (key, m) i)) source))
    (λ ne. ap (λ b. owner_after key (if b then lowered first c.1 else first) cs) (ne_eqb c.0 key ne)
    ∙ least_is key first cs m bound (All-tail P c cs all)
    (⊎_elim (λ (f : first ≡ Some m). inl f)
    (λ (i : Contains (c ∷ cs) (key, m)).
    ⊎_elim (λ (h : Contains (c ∷ []) (key, m)). absurd (ne (ap (λ (z : ℕ × ℕ). z.0) (only c (key, m) h))))
    (λ (t : Contains cs (key, m)). inr t) (Contains-append_cases (c ∷ []) cs (key, m) i)) source)) where
      only : (a x : ℕ × ℕ) → Contains (a ∷ []) x → a ≡ x
      only a x h =
          let l : h.0 < 1 = h.1 in subst (λ (k : ℕ). get_or (a ∷ []) k x ≡ x) (let z : h.0 ≡ 0 = omega arith in z) h.2

      low : (first : Option ℕ) → IfSome first (λ x. m ≤ x) → m ≤ c.1 → IfSome (lowered first c.1) (λ x. m ≤ x)
      low None b l = l
      low (Some x) b l = omega arith

      same : (first : Option ℕ) → first ≡ Some m → m ≤ c.1 → lowered first c.1 ≡ Some m
      same first f l =
          ap (λ (o : Option ℕ). lowered o c.1) f ∙ ap (λ (x : ℕ). Some x) (let e : min m c.1 ≡ m = omega arith in e)

      own : (first : Option ℕ) → IfSome first (λ x. m ≤ x) → c ≡ (key, m) → lowered first c.1 ≡ Some m
      own None b e = ap (λ (z : ℕ × ℕ). Some z.1) e
      own (Some x) b e = let at : c.1 ≡ m = ap (λ (z : ℕ × ℕ). z.1) e in
          ap (λ (x : ℕ). Some x) (let e : min x c.1 ≡ m = omega arith in e)

-- a key without an owner that nobody claimed has none after
pub none_is : (key : ℕ) (claims : List (ℕ × ℕ)) → All (λ c. c.0 ≢ key) claims → owner_after key None claims ≡ None
none_is key [] all = refl
none_is key (c ∷ cs) all = ap (λ b. owner_after key (if b then lowered None c.1 else None) cs)
    (ne_eqb c.0 key (All-head (λ (c : ℕ × ℕ). c.0 ≢ key) c cs all))
    ∙ none_is key cs (All-tail (λ (c : ℕ × ℕ). c.0 ≢ key) c cs all)

-- a table's words are two for each slot, and it has a slot
pub two_each : (ws : List ℕ) → IsTable ws → length ws ≡ 2 * slot_count ws
two_each ws t = let k : ℕ = t.size.0 in let e : length ws ≡ 2 ^ (k + 1) = t.size.1 in
    let p : 2 ^ suc k ≡ 2 ^ k + 2 ^ k = two-pow-succ k in
    let q : 2 ^ (k + 1) ≡ 2 ^ suc k = ap (λ (i : ℕ). 2 ^ i) (add-one k) in omega arith

pub some_slot : (ws : List ℕ) → IsTable ws → 0 < slot_count ws
some_slot ws t = let k : ℕ = t.size.0 in let e : length ws ≡ 2 ^ (k + 1) = t.size.1 in
    let p : 2 ^ suc k ≡ 2 ^ k + 2 ^ k = two-pow-succ k in
    let q : 2 ^ (k + 1) ≡ 2 ^ suc k = ap (λ (i : ℕ). 2 ^ i) (add-one k) in let r : 0 < 2 ^ k = pow_pos k in omega arith

-- the owner that the opening table gives
pub has_first : (o : Opening) (key : ℕ) → length o.words.items ≡ 2 * o.slots
    → HasFirst key (first_owner o.words.items key) o
has_first o key wide = go (owner_in o.words.items key) refl where
  go : (x : Option ℕ) → owner_in o.words.items key ≡ x
      → HasFirst key (unwrap_or (owner_in o.words.items key) no_owner) o
  go None e = inr (ap (λ (y : Option ℕ). unwrap_or y no_owner) e)
  go (Some owner) e = let a = stood o.slots o.words.items key owner wide e in
      inl (
        a.slot,
        record {
          some_key = a.some_key;
          inside = a.inside;
          held = a.held;
          owned = a.owned
              ∙ ap (λ (y : Option ℕ). unwrap_or y no_owner) (sym e);
        },
      )
