-- Slots round a table, and what a word's change does to the keys in their places.
use Rattle.std.proofs.Common.{◌≡◌, ◌≢◌, ℕ, ◌+◌, ◌-◌, ◌*◌, ◌%◌, ◌<◌, ◌≤◌, ◌⊎◌, inl, inr, ⊎_elim, List, length, set, sym, ap, ◌∙◌, subst, arith, get_or-set_other, get_or-set_same}
use Rattle.std.proofs.Math.Nat.{mod-lt, mod-eq_of_lt, add-mod_left}
use mathlib.Core.Logic.{dite}
use native.Mathlib.Decide.{ℕ_discrete}
use Rattle.std.proofs.lemmas.Bool.{cases_lt}
use Rattle.nj_claims.specs.Tables.{key_at, owner_at, slot_from, IsPlaced}
use Rattle.nj_claims.specs.Places.{ArePassed}

-- a slot round the table is one of its slots
pub slot-inside : (n key d : ℕ) → 0 < n → slot_from n key d < n
slot-inside n key d some_slot = mod-lt (key % n + d) some_slot

wrapped : (n h d : ℕ) → h < n → d < n → ((h + d < n) × ((h + d) % n ≡ h + d))
    ⊎ ((n ≤ h + d) × ((h + d) % n + n ≡ h + d))
wrapped n h d lh ld = ⊎_elim (λ (l : h + d < n). inl (l, mod-eq_of_lt l))
    (λ (l : n ≤ h + d). let k : ℕ = h + d - n in let e : h + d ≡ n + k = omega arith in
    let m : (h + d) % n ≡ k % n = ap (λ (x : ℕ). x % n) e ∙ add-mod_left n k in
    let s : k % n ≡ k = mod-eq_of_lt (omega arith) in
    inr (l, omega arith)) (cases_lt (h + d) n)

-- within one round each slot is come to once
pub one_distance : (n key d e : ℕ) → 0 < n → d < n → e < n → slot_from n key d ≡ slot_from n key e → d ≡ e
one_distance n key d e some_slot ld le same = let h : ℕ = key % n in let lh : h < n = mod-lt key some_slot in
    go h lh same (wrapped n h d lh ld) (wrapped n h e lh le) where
      go : (h : ℕ) → h < n → (h + d) % n ≡ (h + e) % n → ((h + d < n) × ((h + d) % n ≡ h + d))
          ⊎ ((n ≤ h + d) × ((h + d) % n + n ≡ h + d))
          → ((h + e < n) × ((h + e) % n ≡ h + e)) ⊎ ((n ≤ h + e) × ((h + e) % n + n ≡ h + e)) → d ≡ e
      go h lh same (inl a) (inl b) =
          let x : (h + d) % n ≡ h + d = a.1 in let y : (h + e) % n ≡ h + e = b.1 in omega arith
      go h lh same (inl a) (inr b) = let l : h + d < n = a.0 in let x : (h + d) % n ≡ h + d = a.1 in
          let y : (h + e) % n + n ≡ h + e = b.1 in absurd (omega arith)
      go h lh same (inr a) (inl b) = let l : h + e < n = b.0 in let x : (h + d) % n + n ≡ h + d = a.1 in
          let y : (h + e) % n ≡ h + e = b.1 in absurd (omega arith)
      go h lh same (inr a) (inr b) =
          let x : (h + d) % n + n ≡ h + d = a.1 in let y : (h + e) % n + n ≡ h + e = b.1 in omega arith

-- each slot is come to within one round
pub each_slot : (n key slot : ℕ) → slot < n → (d : ℕ) × (d < n) × (slot_from n key d ≡ slot)
each_slot n key slot inside = let h : ℕ = key % n in let lh : h < n = mod-lt key (omega arith) in ⊎_elim
    (λ (l : slot < h). let d : ℕ = n + slot - h in let ld : d < n = omega arith in
    let e : h + d ≡ n + slot = omega arith in
    (d, ld, ap (λ (x : ℕ). x % n) e ∙ (add-mod_left n slot ∙ mod-eq_of_lt inside)))
    (λ (l : h ≤ slot). let d : ℕ = slot - h in let ld : d < n = omega arith in
    let e : h + d ≡ slot = omega arith in
    (d, ld, ap (λ (x : ℕ). x % n) e ∙ mod-eq_of_lt inside)) (cases_lt slot h)

-- an owner word's change keeps the keys, and a key word's the owners
pub key_at-set_owner : (words : List ℕ) (slot x i : ℕ) → key_at (set words (2 * slot + 1) x) i ≡ key_at words i
key_at-set_owner words slot x i = get_or-set_other words (2 * slot + 1) (2 * i) x 0 (λ e. omega arith)

pub owner_at-set_key : (words : List ℕ) (slot x i : ℕ) → owner_at (set words (2 * slot) x) i ≡ owner_at words i
owner_at-set_key words slot x i = get_or-set_other words (2 * slot) (2 * i + 1) x 0 (λ e. omega arith)

-- a key word is the one that was written, and the others stay
pub key_at-set_same : (words : List ℕ) (n slot x : ℕ) → length words ≡ 2 * n → slot < n
    → key_at (set words (2 * slot) x) slot ≡ x
key_at-set_same words n slot x wide inside = get_or-set_same words (2 * slot) x 0 (omega arith)

pub key_at-set_other : (words : List ℕ) (slot x i : ℕ) → i ≢ slot → key_at (set words (2 * slot) x) i ≡ key_at words i
key_at-set_other words slot x i ne = get_or-set_other words (2 * slot) (2 * i) x 0 (λ e. ne (omega arith))

-- so for owner words
pub owner_at-set_same : (words : List ℕ) (n slot x : ℕ) → length words ≡ 2 * n → slot < n
    → owner_at (set words (2 * slot + 1) x) slot ≡ x
owner_at-set_same words n slot x wide inside = get_or-set_same words (2 * slot + 1) x 0 (omega arith)

pub owner_at-set_other : (words : List ℕ) (slot x i : ℕ) → i ≢ slot
    → owner_at (set words (2 * slot + 1) x) i ≡ owner_at words i
owner_at-set_other words slot x i ne = get_or-set_other words (2 * slot + 1) (2 * i + 1) x 0 (λ e. ne (omega arith))

-- where a key's walk comes to an empty slot, the key does not stand
pub absent : (n : ℕ) (words : List ℕ) (key depth : ℕ) → IsPlaced n words → key ≢ 0 → depth < n
    → ArePassed n words key depth
    → key_at words (slot_from n key depth) ≡ 0 → (i : ℕ) → i < n → key_at words i ≢ key
absent n words key depth placed some_key near passed empty i inside held = let at = each_slot n key i inside in
    let there : key_at words (slot_from n key at.0) ≡ key = ap (key_at words) at.2 ∙ held in
    let d : ℕ = at.0 in ⊎_elim
    (λ (l : d < depth). (passed d l).other there)
    (λ (l : depth ≤ d). dite (ℕ_discrete d depth)
    (λ e. some_key (sym there ∙ (ap (λ (x : ℕ). key_at words (slot_from n key x)) e ∙ empty)))
    (λ ne. placed.chained key d depth some_key at.1 (omega arith) there empty)) (cases_lt d depth)

-- a key that is put into the first empty slot of its walk is in its place
pub put_placed : (n : ℕ) (words : List ℕ) (key depth : ℕ) → length words ≡ 2 * n → IsPlaced n words → key ≢ 0
    → depth < n
    → ArePassed n words key depth → key_at words (slot_from n key depth) ≡ 0
    → IsPlaced n (set words (2 * slot_from n key depth) key)
put_placed n words key depth wide placed some_key near passed empty =
    let p : ℕ = slot_from n key depth in let W : List ℕ = set words (2 * p) key in
    let inside : p < n = slot-inside n key depth (omega arith) in
    let here : key_at W p ≡ key = key_at-set_same words n p key wide inside in
    let nowhere = absent n words key depth placed some_key near passed empty in
    let else_at : (i : ℕ) → i ≢ p → key_at W i ≡ key_at words i = λ i ne. key_at-set_other words p key i ne in record {
      once = λ i j li lj taken same. dite (ℕ_discrete i p)
          (λ ei. dite (ℕ_discrete j p) (λ ej. ei ∙ sym ej)
          (λ nj. absurd (nowhere j lj (sym (else_at j nj) ∙ (sym same ∙ (ap (key_at W) ei ∙ here))))))
          (λ ni. dite (ℕ_discrete j p)
          (λ ej. absurd (nowhere i li (sym (else_at i ni) ∙ (same ∙ (ap (key_at W) ej ∙ here)))))
          (λ nj. placed.once i j li lj (λ z. taken (else_at i ni ∙ z)) (sym (else_at i ni) ∙ (same ∙ else_at j nj))));
      chained = λ k far close some lf lc held vacant. dite (ℕ_discrete (slot_from n k close) p)
          (λ e. some_key (sym here ∙ (ap (key_at W) (sym e) ∙ vacant)))
          (λ nc. dite (ℕ_discrete (slot_from n k far) p)
          (λ e. let is : k ≡ key = sym held ∙ (ap (key_at W) e ∙ here) in
          let far_is : far ≡ depth =
          one_distance n key far depth (omega arith) lf near (subst (λ (x : ℕ). slot_from n x far ≡ p) is e) in
          (passed close (omega arith)).taken (subst (λ (x : ℕ). key_at words (slot_from n x close) ≡ 0) is
          (sym (else_at (slot_from n k close) nc) ∙ vacant)))
          (λ nf. placed.chained k far close some lf lc (sym (else_at (slot_from n k far) nf)
          ∙ held) (sym (else_at (slot_from n k close) nc) ∙ vacant)));
      bare = λ i li vacant. dite (ℕ_discrete i p)
          (λ e. absurd (some_key (sym here ∙ (ap (key_at W) (sym e) ∙ vacant))))
          (λ ne. owner_at-set_key words p key i ∙ placed.bare i li (sym (else_at i ne) ∙ vacant));
    }

-- an owner that is written beside a key changes no place
pub own_placed : (n : ℕ) (words : List ℕ) (slot owner : ℕ) → length words ≡ 2 * n → IsPlaced n words → slot < n
    → key_at words slot ≢ 0
    → IsPlaced n (set words (2 * slot + 1) owner)
own_placed n words slot owner wide placed inside taken = let W : List ℕ = set words (2 * slot + 1) owner in
    let same : (i : ℕ) → key_at W i ≡ key_at words i = λ i. key_at-set_owner words slot owner i in record {
      once = λ i j li lj some eq. placed.once i j li lj (λ z. some (same i ∙ z)) (sym (same i) ∙ (eq ∙ same j));
      chained = λ k far close some lf lc held vacant. placed.chained k far close some lf lc
          (sym (same (slot_from n k far)) ∙ held) (sym (same (slot_from n k close)) ∙ vacant);
      bare = λ i li vacant. dite (ℕ_discrete i slot)
          (λ e. absurd (taken (ap (key_at words) (sym e) ∙ (sym (same i) ∙ vacant))))
          (λ ne. owner_at-set_other words slot owner i ne ∙ placed.bare i li (sym (same i) ∙ vacant));
    }
