-- The lists of accesses are as long as published.
use Rattle.std.proofs.Common.{◌≡◌, ℕ, ◌+◌, ◌<◌, Bool, true, false, map, get_or, refl, ap, sym, ◌∙◌, ◌==◌, ◌++◌, ◌&&◌, cond, arith}
use Rattle.std.specs.Prelude.{count_by}
use Rattle.std.specs.List.{range_with_len}
use Rattle.std.proofs.lemmas.List.FromFn.{get_or-map-range_with_len}
use Rattle.nj_isa.specs.Table.{row_of, is_official, in_manual}
use Rattle.nj_isa.specs.Accesses.{class_of}
use Rattle.nj_isa.specs.Timing.{cycles_of, penalty_of, count_made, accesses_of, is_among, jams, stopping_opcodes, unstable_opcodes}

-- functions that list the same 256 values agree below 256
pub agree : {A : Type 0} (f g : ℕ → A) → map f (range_with_len 0 256) ≡ map g (range_with_len 0 256) → (n : ℕ) → n < 256 → f n ≡ g n
agree f g e n h =
    sym (get_or-map-range_with_len f 0 256 n n (f n) h (omega arith))
    ∙ ap (λ xs. get_or xs n (f n)) e
    ∙ get_or-map-range_with_len g 0 256 n n (f n) h (omega arith)

-- the number of accesses, 0 where no cycles are published
abbrev pub counted : Bool → Bool → Bool → ℕ → ℕ
counted crossed taken away n = cond (cycles_of n == 0) 0 (1 + count_made crossed taken away (accesses_of (row_of n)))

abbrev pub published : Bool → Bool → Bool → ℕ → ℕ
published crossed taken away n = cond (cycles_of n == 0) 0 (cycles_of n + penalty_of n crossed taken away)

pub all_counted : (crossed taken away : Bool) → map (counted crossed taken away) (range_with_len 0 256) ≡ map (published crossed taken away) (range_with_len 0 256)
unfolding row_of accesses_of class_of
all_counted false false false = refl
all_counted false false true = refl
all_counted false true false = refl
all_counted false true true = refl
all_counted true false false = refl
all_counted true false true = refl
all_counted true true false = refl
all_counted true true true = refl

-- where a test is not met, both choices agree
open_test : (b : Bool) (x y : ℕ) → b ≡ false → cond b 0 x ≡ cond b 0 y → x ≡ y
open_test b x y h e = grind arith

pub cycles : (n : ℕ) (crossed taken away : Bool) → n < 256 → 0 < cycles_of n → 1 + count_made crossed taken away (accesses_of (row_of n)) ≡ cycles_of n + penalty_of n crossed taken away
cycles n crossed taken away h official = open_test (cycles_of n == 0) _ _ (positive (cycles_of n) official) (agree (counted crossed taken away) (published crossed taken away) (all_counted crossed taken away) n h)
  where
    positive : (k : ℕ) → 0 < k → (k == 0) ≡ false
    positive k p = grind arith

-- 20 opcodes jam
pub jam_count : count_by jams (range_with_len 0 256) ≡ 20
unfolding jams row_of
jam_count = refl

-- those that stop the processor, and the unstable ones
pub jam_named : (n : ℕ) → n < 256 → jams n ≡ is_among (stopping_opcodes ++ unstable_opcodes) n
unfolding jams row_of
jam_named n h = agree jams (is_among (stopping_opcodes ++ unstable_opcodes)) refl n h

-- those without published cycles
pub jam_which : (n : ℕ) → n < 256 → jams n ≡ (cycles_of n == 0)
unfolding jams row_of
jam_which n h = agree jams (λ k. cycles_of k == 0) refl n h

-- no official opcode jams
pub jam_unofficial : (n : ℕ) → n < 256 → is_official n ≡ true → jams n ≡ false
unfolding jams row_of is_official
jam_unofficial n h official = neither (is_official n) (jams n) (agree (λ k. is_official k && jams k) (λ _. false) refl n h) official
  where
    neither : (a b : Bool) → (a && b) ≡ false → a ≡ true → b ≡ false
    neither true b e t = e
    neither false b e t = cc

-- the official opcodes are counted
pub official_count : count_by is_official (range_with_len 0 256) ≡ 151
unfolding is_official
official_count = refl

-- an opcode is official where its operation is in the manual and it is the manual's own opcode of it
pub official_by_row : (n : ℕ) → n < 256 → is_official n ≡ in_manual (row_of n).op n
unfolding is_official row_of
official_by_row n h = agree is_official (λ k. in_manual (row_of k).op k) refl n h
