-- A table of empty slots.
use Rattle.std.proofs.Common.{◌≡◌, ◌≢◌, ℕ, zero, suc, ◌+◌, ◌*◌, ◌/◌, ◌%◌, ◌<◌, ◌≤◌, true, false, ⊎_elim, List, [], ◌∷◌, length, get_or, set, replicate, refl, sym, ap, ◌∙◌, arith, ◌==◌, eq-eqb, length-set, get_or-set_same, get_or-set_other, if◌then◌else◌}
use Rattle.std.proofs.lemmas.Bool.Decides.{eqb_tells}
use Rattle.std.proofs.Math.Nat.{mod-lt}
use Rattle.std.proofs.lemmas.List.{length-replicate, get_or-replicate}
use Rattle.nj_claims.specs.Tables.{no_owner, key_at, owner_at, slot_from, slot_count, IsTable, entries_in}
use Rattle.nj_seen.proofs.Slots.{two_each}

-- so many slots are empty, and no slot has an owner
pub record AreEmpty (words : List ℕ) (done : ℕ) (rest : List ℕ) : Type 0 where
  pub size : length rest ≡ length words
  pub empty : (i : ℕ) → i < done → key_at rest i ≡ 0
  pub bare : (i : ℕ) → 2 * i + 1 < length words → owner_at rest i ≡ no_owner

pub none_yet : (words : List ℕ) → AreEmpty words 0 (replicate (length words) no_owner)
none_yet words = record {
  size = length-replicate (length words) no_owner;
  empty = λ i l. absurd (omega arith);
  bare = λ i l. get_or-replicate (length words) (2 * i + 1) no_owner 0 l;
}

pub one_emptied : (words rest : List ℕ) (i : ℕ) → 2 * i + 1 < length words → AreEmpty words i rest
    → AreEmpty words (i + 1) (set rest (2 * i) 0)
one_emptied words rest i l a =
    let size : length rest ≡ length words = a.size in record {
      size = length-set rest (2 * i) 0 ∙ a.size;
      empty = λ j m. ⊎_elim
          (λ (t : ((j == i) ≡ true) × (j ≡ i)). ap (key_at (set rest (2 * i) 0)) t.1
          ∙ get_or-set_same rest (2 * i) 0 0 (omega arith))
          (λ (t : ((j == i) ≡ false) × (j ≢ i)). let other : j ≢ i = t.1 in
          get_or-set_other rest (2 * i) (2 * j) 0 0 (λ e. other (omega arith)) ∙ a.empty j (omega arith))
          (eqb_tells j i);
      bare = λ j m. get_or-set_other rest (2 * i) (2 * j + 1) 0 0 (λ e. omega arith) ∙ a.bare j m;
    }

-- all of them are: a table
pub empty_is_table : (words rest : List ℕ) (i : ℕ) → length words / 2 ≤ i → IsTable words → AreEmpty words i rest
    → IsTable rest
empty_is_table words rest i le table a =
    let size : length rest ≡ length words = a.size in
    let wide : length words ≡ 2 * slot_count words = two_each words table in
    record {
      size = (table.size.0, a.size ∙ table.size.1);
      placed = record {
        once = λ j k lj lk taken same. absurd (taken (a.empty j (omega arith)));
        chained = λ key far near some lf ln held.
            absurd (some (sym held ∙ a.empty (slot_from (slot_count rest) key far) (inside key far (omega arith))));
        bare = λ j lj none. a.bare j (omega arith);
      };
    } where
      inside : (key far : ℕ) → 0 < slot_count rest → slot_from (slot_count rest) key far < i
      inside key far some =
          let size : length rest ≡ length words = a.size in
          let m : slot_from (slot_count rest) key far < slot_count rest = mod-lt (key % slot_count rest + far) some in
          omega arith

no_entry : (n : ℕ) (rest : List ℕ) → length rest ≤ 2 * n → ((i : ℕ) → i < n → key_at rest i ≡ 0) → entries_in rest ≡ []
no_entry n [] wide none = refl
no_entry n (k ∷ []) wide none = refl
no_entry zero (k ∷ o ∷ rest) wide none = absurd (omega arith)
no_entry (suc n) (k ∷ o ∷ rest) wide none =
    ap (λ b. if b then entries_in rest else (k, o) ∷ entries_in rest) (eq-eqb k 0 (none 0 (omega arith)))
    ∙ no_entry n rest (omega arith) (λ i l. let e : 2 * suc i ≡ suc (suc (2 * i)) = omega arith in
    ap (λ j. get_or (k ∷ o ∷ rest) j 0) (sym e) ∙ none (suc i) (omega arith))

-- and nothing stands there
pub empty_has_none : (words rest : List ℕ) (i : ℕ) → length words / 2 ≤ i → IsTable words → AreEmpty words i rest
    → entries_in rest ≡ []
empty_has_none words rest i le table a =
    let size : length rest ≡ length words = a.size in
    let wide : length words ≡ 2 * slot_count words = two_each words table in
    no_entry i rest (omega arith) a.empty
