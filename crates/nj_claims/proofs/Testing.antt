-- When words are a table, told by their length and by each slot; and a table of empty slots.
use Rattle.std.proofs.Common.{◌≡◌, ℕ, zero, suc, ◌+◌, ◌*◌, ◌/◌, ◌%◌, ◌^◌, ◌<◌, ◌≤◌, inl, true, false, List, length, set, replicate, refl, sym, ap, ◌∙◌, subst, arith, add-one, length-set}
use Rattle.std.specs.Prelude.{None, IsTrue}
use mathlib.Core.Logic.{dite}
use native.Mathlib.Decide.{ℕ_discrete}
use Rattle.std.specs.Int.{is_power_of_two, IsPowerOfTwo}
use Rattle.std.proofs.lemmas.List.{length-replicate, get_or-replicate}
use Rattle.std.proofs.Math.Nat.{two-pow-succ, mod-eq_of_lt, pow-le-pow_right}
use Rattle.std.proofs.lemmas.Nat.{pow_pos}
use Rattle.nj_claims.specs.Tables.{no_owner, key_at, owner_at, slot_count, IsPlaced, IsTable, owner_in}
use Rattle.nj_claims.specs.Places.{FitsSlot}
use Rattle.nj_claims.proofs.Slots.{key_at-set_same, key_at-set_other, owner_at-set_key}
use Rattle.nj_claims.proofs.Mapping.{absent_in, zero_in}
use Rattle.nj_claims.proofs.Walking.{placed_fits, fits_placed}
use Rattle.nj_claims.proofs.Powers.{from_bits, to_bits}

-- words of such a number whose slots fit are a table
pub is_table_if : (W : List ℕ) (n : ℕ) → n ≡ length W / 2 → 2 ≤ length W → is_power_of_two (length W) ≡ true
    → ((i : ℕ) → i < n → FitsSlot n W i) → IsTable W
is_table_if W n half two bits fits = record {
  size = size (from_bits (length W) bits);
  placed = subst (λ (m : ℕ). IsPlaced m W) half (fits_placed n W fits);
} where
  size : IsPowerOfTwo (length W) → (k : ℕ) × (length W ≡ 2 ^ (k + 1))
  size (k, e) = go k e where
    go : (k : ℕ) → length W ≡ 2 ^ k → (k : ℕ) × (length W ≡ 2 ^ (k + 1))
    go zero e = absurd (let one : 2 ^ 0 ≡ 1 = refl in omega arith)
    go (suc k) e = (k, e ∙ ap (λ (i : ℕ). 2 ^ i) (sym (add-one k)))

-- words of another number are none
pub is_long : (W : List ℕ) → IsTable W → 2 ≤ length W
is_long W t = let k : ℕ = t.size.0 in let e : length W ≡ 2 ^ (k + 1) = t.size.1 in
    let p : 2 ^ suc k ≡ 2 ^ k + 2 ^ k = two-pow-succ k in
    let q : 2 ^ (k + 1) ≡ 2 ^ suc k = ap (λ (i : ℕ). 2 ^ i) (add-one k) in let r : 0 < 2 ^ k = pow_pos k in omega arith

pub is_power : (W : List ℕ) → IsTable W → is_power_of_two (length W) ≡ true
is_power W t = to_bits (length W) (t.size.0 + 1, t.size.1)

-- each slot of a table fits
pub slot_fits : (W : List ℕ) (n i : ℕ) → n ≡ length W / 2 → i < n → IsTable W → FitsSlot n W i
slot_fits W n i half inside t = placed_fits n W (subst (λ (m : ℕ). IsPlaced m W) (sym half) t.placed) i inside

-- so many slots are empty, and no slot has an owner
pub record AreEmpty (n done : ℕ) (W : List ℕ) : Type 0 where
  pub wide : length W ≡ 2 * n
  pub empty : (i : ℕ) → i < done → key_at W i ≡ 0
  pub bare : (i : ℕ) → i < n → owner_at W i ≡ no_owner

pub no_owners : (n : ℕ) → AreEmpty n 0 (replicate (2 * n) no_owner)
no_owners n = record {
  wide = length-replicate (2 * n) no_owner;
  empty = λ i l. absurd (omega arith);
  bare = λ i l. get_or-replicate (2 * n) (2 * i + 1) no_owner 0 (omega arith);
}

pub one_emptied : (n i : ℕ) (W : List ℕ) → i < n → AreEmpty n i W → AreEmpty n (i + 1) (set W (2 * i) 0)
one_emptied n i W l a = record {
  wide = length-set W (2 * i) 0 ∙ a.wide;
  empty = λ j m. dite (ℕ_discrete j i)
      (λ e. ap (key_at (set W (2 * i) 0)) e ∙ key_at-set_same W n i 0 a.wide l)
      (λ ne. key_at-set_other W i 0 j ne ∙ a.empty j (omega arith));
  bare = λ j m. owner_at-set_key W i 0 j ∙ a.bare j m;
}

pub empty_is_table : (n exponent : ℕ) (W : List ℕ) → n ≡ 2 ^ exponent → AreEmpty n n W → IsTable W
empty_is_table n exponent W e a = let wide : length W ≡ 2 * n = a.wide in record {
  size = (
    exponent,
    let p : 2 ^ suc exponent ≡ 2 ^ exponent + 2 ^ exponent = two-pow-succ exponent in
        let q : 2 ^ (exponent + 1) ≡ 2 ^ suc exponent = ap (λ (i : ℕ). 2 ^ i) (add-one exponent) in omega arith,
  );
  placed = subst (λ (m : ℕ). IsPlaced m W) (let h : n ≡ length W / 2 = omega arith in
      h) (fits_placed n W (λ i l. inl (a.empty i l, a.bare i l)));
}

pub empty_count : (n : ℕ) (W : List ℕ) → AreEmpty n n W → slot_count W ≡ n
empty_count n W a = let wide : length W ≡ 2 * n = a.wide in let h : length W / 2 ≡ n = omega arith in h

pub empty_has_none : (n : ℕ) (W : List ℕ) (key : ℕ) → AreEmpty n n W → owner_in W key ≡ None
empty_has_none n W key a = dite (ℕ_discrete key 0)
    (λ z. ap (owner_in W) z ∙ zero_in n W a.wide)
    (λ ne. absent_in n W key a.wide (λ i l e. ne (sym e ∙ a.empty i l)))

-- a test that answers as it should
pub tells_no : (W : List ℕ) → (IsTable W → ⊥) → (IsTrue false → IsTable W) × (IsTable W → IsTrue false)
tells_no W n = (λ t. absurd (let e : false ≡ true = t in cc), λ t. absurd (n t))

-- 1 shifted by an exponent up to 25 loses no bit
pub shifted : (exponent : ℕ) → exponent ≤ 25 → (1 * 2 ^ exponent) % 18446744073709551616 ≡ 2 ^ exponent
shifted exponent le = let low : 2 ^ exponent ≤ 2 ^ 25 = pow-le-pow_right (let two : 0 < 2 = omega arith in two) le in
    let e : 1 * 2 ^ exponent ≡ 2 ^ exponent = omega arith in
    ap (λ (n : ℕ). n % 18446744073709551616) e ∙ mod-eq_of_lt (omega arith)
