-- A step is published in one slot after another.
use Rattle.std.proofs.Common.{◌≡◌, ◌≢◌, ℕ, ◌+◌, ◌*◌, ◌/◌, ◌<◌, ◌≤◌, ⊎_elim, true, false, not, ◌&&◌, ◌==◌, nat_le, List, [], ◌∷◌, ◌++◌, length, map, take, drop, get_or, set, refl, sym, ap, ◌∙◌, subst, arith, length-set, get_or-set_same, get_or-set_other}
use Rattle.std.specs.Prelude.{Some, option_map, if◌then◌else◌}
use Rattle.std.proofs.lemmas.Bool.{cases_lt, both_ways, le-leb, lt-ltb, le-ltb}
use Rattle.std.proofs.lemmas.List.{take-set-le, drop-set-lt, drop-drop, get_or-drop, map-append}
use Rattle.nj_claims.specs.Tables.{key_at, owner_at, slot_from, slot_count, IsPlaced, IsTable, entries_in, owner_among, owner_in}
use Rattle.nj_seen.specs.Held.{is_since, first_claim, published, published_entry}
use Rattle.nj_seen.proofs.Slots.{slot_entry, entries_more, all_slots, holds_since}

-- ---- what a write of an owner leaves

key_same : (words : List ℕ) (i step j : ℕ) → key_at (set words (2 * i + 1) step) j ≡ key_at words j
key_same words i step j = get_or-set_other words (2 * i + 1) (2 * j) step 0 (λ e. omega arith)

owner_other : (words : List ℕ) (i step j : ℕ) → j ≢ i → owner_at (set words (2 * i + 1) step) j ≡ owner_at words j
owner_other words i step j ne = get_or-set_other words (2 * i + 1) (2 * j + 1) step 0 (λ e. ne (omega arith))

owned_placed : (n : ℕ) (words : List ℕ) (i step : ℕ) → IsPlaced n words → key_at words i ≢ 0
    → IsPlaced n (set words (2 * i + 1) step)
owned_placed n words i step placed some = record {
  once = λ a b la lb taken same. placed.once a b la lb (λ z. taken (key_same words i step a ∙ z))
      (sym (key_same words i step a) ∙ (same ∙ key_same words i step b));
  chained = λ key far near real lf ln held z.
      placed.chained key far near real lf ln (sym (key_same words i step (slot_from n key far)) ∙ held)
      (sym (key_same words i step (slot_from n key near)) ∙ z);
  bare = λ j lj none. let here : key_at words j ≡ 0 = sym (key_same words i step j) ∙ none in
      owner_other words i step j (λ e. some (ap (key_at words) (sym e) ∙ here)) ∙ placed.bare j lj here;
}

pub owned_table : (words : List ℕ) (i step : ℕ) → IsTable words → key_at words i ≢ 0
    → IsTable (set words (2 * i + 1) step)
owned_table words i step t some = let wide = length-set words (2 * i + 1) step in record {
  size = (t.size.0, wide ∙ t.size.1);
  placed = subst (λ n. IsPlaced n (set words (2 * i + 1) step)) (ap (λ n. n / 2) (sym wide))
      (owned_placed (slot_count words) words i step t.placed some);
}

-- ---- one slot more

-- so many slots are published, and the others are as they were
pub record IsPublished (old : List ℕ) (step i : ℕ) (words : List ℕ) : Type 0 where
  pub table : IsTable words
  pub done : entries_in (take (2 * i) words) ≡ map (published_entry step) (entries_in (take (2 * i) old))
  pub left : drop (2 * i) words ≡ drop (2 * i) old
  pub size : length words ≡ length old

pub published_low : (step owner : ℕ) → owner < first_claim → published step owner ≡ owner
published_low step owner lt = ap (λ b. if b then owner else step) (lt-ltb owner first_claim lt)

pub published_high : (step owner : ℕ) → first_claim ≤ owner → published step owner ≡ step
published_high step owner le = ap (λ b. if b then owner else step) (le-ltb owner first_claim le)

-- the entry of a slot, published
entry_published : (step key owner : ℕ)
    → map (published_entry step) (slot_entry key owner) ≡ slot_entry key (published step owner)
entry_published step key owner =
    elim (key == 0) as (λ b. map (published_entry step) (if b then [] else (key, owner) ∷ [])
    ≡ (if b then [] else (key, published step owner) ∷ [])) [
      | true ↦ refl
      | false ↦ refl
    ]

-- a slot that is not written
entry_left : (step key owner : ℕ) → (not (key == 0) && nat_le first_claim owner) ≡ false
    → slot_entry key owner ≡ slot_entry key (published step owner)
entry_left step key owner =
    elim (key == 0) as (λ b. let old : ℕ × ℕ = (key, owner) in let new : ℕ × ℕ = (key, published step owner) in
    (not b && nat_le first_claim owner) ≡ false → (if b then [] else old ∷ []) ≡ (if b then [] else new ∷ [])) [
      | true ↦ λ f. refl
      | false ↦ λ f. ap (λ (x : ℕ). let entry : ℕ × ℕ = (key, x) in entry ∷ [])
          (sym (published_low step owner (⊎_elim (λ (lt : owner < first_claim). lt)
          (λ (le : first_claim ≤ owner). absurd (both_ways (nat_le first_claim owner) f (le-leb first_claim owner le)))
          (cases_lt owner first_claim))))
    ]

key_left : (words old : List ℕ) (i : ℕ) → drop (2 * i) words ≡ drop (2 * i) old → key_at words i ≡ key_at old i
key_left words old i left =
    let at : 2 * i ≡ 2 * i + 0 = omega arith in
    ap (λ n. get_or words n 0) at ∙ (sym (get_or-drop (2 * i) words 0 0)
    ∙ (ap (λ xs. get_or xs 0 0) left ∙ (get_or-drop (2 * i) old 0 0 ∙ ap (λ n. get_or old n 0) (sym at))))

owner_left : (words old : List ℕ) (i : ℕ) → drop (2 * i) words ≡ drop (2 * i) old → owner_at words i ≡ owner_at old i
owner_left words old i left =
    sym (get_or-drop (2 * i) words 1 0) ∙ (ap (λ xs. get_or xs 1 0) left ∙ get_or-drop (2 * i) old 1 0)

later_left : (words old : List ℕ) (i : ℕ) → drop (2 * i) words ≡ drop (2 * i) old
    → drop (2 * (i + 1)) words ≡ drop (2 * (i + 1)) old
later_left words old i left =
    let at : 2 * (i + 1) ≡ 2 * i + 2 = omega arith in
    ap (λ n. drop n words) at ∙ (sym (drop-drop 2 (2 * i) words)
    ∙ (ap (drop 2) left ∙ (drop-drop 2 (2 * i) old ∙ ap (λ n. drop n old) (sym at))))

-- the entries of the slots so far, from the entry of this slot
more_done : (old words : List ℕ) (step i : ℕ) → 2 * i + 1 < length words → length words ≡ length old
    → entries_in (take (2 * i) words) ≡ map (published_entry step) (entries_in (take (2 * i) old))
    → slot_entry (key_at words i) (owner_at words i) ≡ slot_entry (key_at old i) (published step (owner_at old i))
    → entries_in (take (2 * (i + 1)) words) ≡ map (published_entry step) (entries_in (take (2 * (i + 1)) old))
more_done old words step i lt size done entry =
    entries_more words i lt
    ∙ ((λ j. done j ++ entry j)
    ∙ (ap (λ xs. map (published_entry step) (entries_in (take (2 * i) old)) ++ xs)
    (sym (entry_published step (key_at old i) (owner_at old i)))
    ∙ (sym (map-append (published_entry step) (entries_in (take (2 * i) old))
    (slot_entry (key_at old i) (owner_at old i)))
    ∙ ap (map (published_entry step)) (sym (entries_more old i (omega arith))))))

pub slot_left : (old words : List ℕ) (step i : ℕ) → 2 * i + 1 < length words → is_since first_claim words i ≡ false
    → IsPublished old step i words → IsPublished old step (i + 1) words
slot_left old words step i lt f is = record {
  table = is.table;
  done = more_done old words step i lt is.size is.done
      (entry_left step (key_at words i) (owner_at words i) f
      ∙ (λ j. slot_entry (key_left words old i is.left j) (published step (owner_left words old i is.left j))));
  left = later_left words old i is.left;
  size = is.size;
}

pub slot_published : (old words : List ℕ) (step i : ℕ) → 2 * i + 1 < length words → is_since first_claim words i ≡ true
    → IsPublished old step i words
    → IsPublished old step (i + 1) (set words (2 * i + 1) step)
slot_published old words step i lt t is =
    let new : List ℕ = set words (2 * i + 1) step in
    let wide : length new ≡ length words = length-set words (2 * i + 1) step in
    let holds = holds_since words first_claim i t in
    let owner : published step (owner_at old i) ≡ step =
    ap (published step) (sym (owner_left words old i is.left)) ∙ published_high step (owner_at words i) holds.1 in
    record {
      table = owned_table words i step is.table holds.0;
      done = more_done old new step i (omega arith) (wide ∙ is.size)
          (ap entries_in (take-set-le (2 * i) words (2 * i + 1) step (omega arith)) ∙ is.done)
          (λ j. slot_entry ((key_same words i step i ∙ key_left words old i is.left) j)
          ((get_or-set_same words (2 * i + 1) step 0 lt ∙ sym owner) j));
      left = drop-set-lt (2 * (i + 1)) words (2 * i + 1) step (omega arith) ∙ later_left words old i is.left;
      size = wide ∙ is.size;
    }

pub none_published : (old : List ℕ) (step : ℕ) → IsTable old → IsPublished old step 0 old
none_published old step t = record { table = t; done = refl; left = refl; size = refl }

-- ---- all slots

pub all_published : (old words : List ℕ) (step i : ℕ) → length old / 2 ≤ i → IsPublished old step i words
    → entries_in words ≡ map (published_entry step) (entries_in old)
all_published old words step i le is =
    let size : length words ≡ length old = is.size in
    sym (all_slots words i (omega arith)) ∙ (is.done ∙ ap (map (published_entry step)) (all_slots old i le))

owner_among_published : (step key : ℕ) (es : List (ℕ × ℕ))
    → owner_among key (map (published_entry step) es) ≡ option_map (published step) (owner_among key es)
owner_among_published step key [] = refl
owner_among_published step key (e ∷ es) =
    elim (e.0 == key) as (λ b. (if b then Some (published step e.1) else owner_among key
    (map (published_entry step) es))
    ≡ option_map (published step) (if b then Some e.1 else owner_among key es)) [
      | true ↦ refl
      | false ↦ owner_among_published step key es
    ]

pub owners_published : (old words : List ℕ) (step key : ℕ)
    → entries_in words ≡ map (published_entry step) (entries_in old)
    → owner_in words key ≡ option_map (published step) (owner_in old key)
unfolding owner_in
owners_published old words step key e = ap (owner_among key) e ∙ owner_among_published step key (entries_in old)
