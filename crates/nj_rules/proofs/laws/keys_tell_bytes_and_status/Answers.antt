use Rattle.std.proofs.Common.{◌≡◌, ◌≢◌, ℕ, ◌<◌, ◌*◌, ◌^◌, ◌==◌, Bool, true, false, refl, ap, List, [], ◌∷◌, ◌++◌, map, fold, bit_xor, arith, if◌then◌else◌}
use Rattle.std.specs.List.{flat_map}
use Rattle.std.proofs.lemmas.Bool.Decides.{nat_tests}
use Rattle.std.proofs.Math.Nat.{mod-lt}
use Rattle.nj_bytes.specs.Fnv.{fnv_step, fnv_from, fnv_of}
use Rattle.nj_rules.specs.declared.record.HashItem.{HashItem}
use Rattle.nj_rules.specs.Key.{item_bytes, status_bytes, key_bytes, key_for, key_in}
use Rattle.nj_rules.proofs.laws.keys_tell_bytes_and_status.Goals as goal

-- lists of equal pieces are equal as a whole
flat_map-same :
    (ram other : List ℕ) (items : List HashItem) → map (item_bytes ram) items ≡ map (item_bytes other) items →
    flat_map (item_bytes ram) items ≡ flat_map (item_bytes other) items
flat_map-same ram other [] h = refl
flat_map-same ram other (item ∷ items) h =
    let first : item_bytes ram item ≡ item_bytes other item = cc in
    let others : map (item_bytes ram) items ≡ map (item_bytes other) items = cc in
    rw (first, flat_map-same ram other items others) refl

not_zero : (n : ℕ) (b : Bool) → (n == 0) ≡ b → (if b then 1 else n) ≢ 0
not_zero n true e h = omega arith
not_zero n false e h = absurd (grind (arith, nat_tests))

fit_by : (n : ℕ) (b : Bool) → n < 2 ^ 64 → (if b then 1 else n) < 2 ^ 64
fit_by n true h = omega arith
fit_by n false h = h

-- each step of the hash, and so the hash, has 64 bits
fold-fit : (hash : ℕ) (bytes : List ℕ) → hash < 2 ^ 64 → fold fnv_step hash bytes < 2 ^ 64
unfolding fnv_step
fold-fit hash [] h = h
fold-fit hash (byte ∷ bytes) h =
    fold-fit (fnv_step hash byte) bytes (mod-lt (bit_xor hash byte * 1099511628211) (omega arith))

fnv_of-fit : (bytes : List ℕ) → fnv_of bytes < 2 ^ 64
unfolding fnv_of fnv_from
fnv_of-fit bytes = fold-fit 14695981039346656037 bytes (omega arith)

pub returns-clause-equal : goal.returns-clause-equal
unfolding key_in key_bytes
returns-clause-equal c =
    λ items rules status ram other h. ap (λ bytes. key_for (bytes ++ status_bytes rules status))
    (flat_map-same ram other items h)

pub returns-clause-never_zero : goal.returns-clause-never_zero
unfolding key_in key_for
returns-clause-never_zero c =
    λ items rules status ram. not_zero (fnv_of (key_bytes items rules ram status))
    (fnv_of (key_bytes items rules ram status) == 0) refl

pub returns-clause-fit : goal.returns-clause-fit
unfolding key_in key_for
returns-clause-fit c = λ items rules status ram.
    fit_by (fnv_of (key_bytes items rules ram status)) (fnv_of (key_bytes items rules ram status) == 0)
    (fnv_of-fit (key_bytes items rules ram status))
