-- A file of which nothing is refused has its head, its generations reach no further than it, and they have few keys.
use Rattle.std.proofs.Common.{◌≡◌, ℕ, zero, suc, ◌+◌, ◌-◌, ◌*◌, ◌≤◌, not, true, false, List, length, refl, arith, nat_le, ltb-false, leb-true, eqb-true}
use Rattle.std.specs.Prelude.{None}
use Rattle.std.specs.Int.{is_in_range}
use Rattle.std.proofs.lemmas.Bool.{not-false, and_parts}
use Rattle.nj_saved.specs.Fields.{is_named, u32_at, u64_at, step_of, front_of, count_of, words_end, place_of, key_place, keys_at, generations_below, keys_end}
use Rattle.nj_saved.specs.Reading.{first_refusal, identity_tests, size_tests, count_tests, key_tests, tests_below, generation_tests, generations_tests, key_count, HasHead}
use Rattle.nj_saved.specs.Steps.{AreGenerationsTo}
use Rattle.nj_saved.proofs.Refusals.{Accepts}
use Rattle.nj_saved.proofs.Accepted.{first_of, others_of, this_passes, then_passes}
use Rattle.nj_saved.proofs.InRange.{passes_at, length_below}
use Rattle.nj_saved.proofs.Keys.{key_count_more}

-- a number that is in its range
between : (low high n : ℕ) → not (is_in_range low high n) ≡ false → (low ≤ n) × (n ≤ high)
between low high n is =
    let both : (nat_le low n ≡ true) × (nat_le n high ≡ true) =
    and_parts (nat_le low n) (nat_le n high) (not-false _ is) in
    (leb-true low n both.0, leb-true n high both.1)

pub has_head : (file : List ℕ) → first_refusal (size_tests file) ≡ None → HasHead file
unfolding size_tests
has_head file is =
    let all : Accepts (size_tests file) = record { none = is } in
    let a = then_passes all in
    let b = then_passes a in
    let d = then_passes b in
    let e = then_passes d in
    let f = then_passes e in
    let g = then_passes f in
    let h = then_passes g in
    let i = then_passes h in
    let j = then_passes i in
    let k = then_passes j in
    let step : (1 ≤ step_of file) × (step_of file ≤ 16777215) = between 1 16777215 (step_of file) (this_passes a) in
    let front :
    (is_in_range 1 1048576 (front_of file) ≡ true) × (nat_le (front_of file * step_of file) 67108864 ≡ true) =
    and_parts (is_in_range 1 1048576 (front_of file)) (nat_le (front_of file * step_of file) 67108864)
    (not-false _ (this_passes d)) in
    let words : (nat_le 1 (front_of file) ≡ true) × (nat_le (front_of file) 1048576 ≡ true) =
    and_parts (nat_le 1 (front_of file)) (nat_le (front_of file) 1048576) front.0 in
    let level : (0 ≤ u32_at file 32) × (u32_at file 32 ≤ 128) = between 0 128 (u32_at file 32) (this_passes f) in
    let until : (0 ≤ u32_at file 36) × (u32_at file 36 ≤ 33554432) =
    between 0 33554432 (u32_at file 36) (this_passes h) in
    let count : (1 ≤ count_of file) × (count_of file ≤ step_of file + 1) =
    between 1 (step_of file + 1) (count_of file) (this_passes j) in
    record {
      head = ltb-false (length file) 44 (this_passes i);
      whole = ltb-false (length file) (words_end file) (this_passes k);
      first_step = step.0;
      last_step = step.1;
      some_words = leb-true 1 (front_of file) words.0;
      most_words = leb-true (front_of file) 1048576 words.1;
      most_pads = leb-true (front_of file * step_of file) 67108864 front.1;
      level = level.1;
      until = until.1;
      some_generations = count.0;
      most_generations = count.1;
    }

-- a generation of which nothing is refused stands in the file, and the keys so far are few
record Reaches (file : List ℕ) (older : List (List ℕ)) (at : ℕ) : Type 0 where
  there : at + 4 + 8 * u32_at file at ≤ length file
  few : key_count older + u32_at file at ≤ 33554432

reaches :
    (file : List ℕ) (older : List (List ℕ)) (at : ℕ) → first_refusal (generation_tests file older at) ≡ None →
    Reaches file older at
unfolding generation_tests count_tests key_tests
reaches file older at is =
    let counted : Accepts (count_tests file older at) =
    record { none = first_of (count_tests file older at) (tests_below (key_tests file older at) (u32_at file at)) is }
    in
    let range : (nat_le 1 (u32_at file at) ≡ true) × (nat_le (key_count older + u32_at file at) 33554432 ≡ true) =
    and_parts (nat_le 1 (u32_at file at)) (nat_le (key_count older + u32_at file at) 33554432)
    (not-false _ (this_passes (then_passes counted))) in
    let some : 1 ≤ u32_at file at = leb-true 1 (u32_at file at) range.0 in
    let last : Accepts (key_tests file older at (u32_at file at - 1)) =
    record {
      none = passes_at (key_tests file older at) (u32_at file at) (u32_at file at - 1) (omega (arith, some))
          (others_of (count_tests file older at) (tests_below (key_tests file older at) (u32_at file at)) is);
    } in
    let far : key_place at (u32_at file at - 1) + 8 ≤ length file =
    ltb-false (length file) (key_place at (u32_at file at - 1) + 8) (this_passes last) in
    record { there = omega (arith, some, far); few = leb-true (key_count older + u32_at file at) 33554432 range.1 }

-- so do the first generations
record ReachBelow (file : List ℕ) (g : ℕ) : Type 0 where
  there : place_of file g ≤ length file
  few : key_count (generations_below file g) ≤ 33554432

reach_below : (file : List ℕ) → words_end file ≤ length file → (g : ℕ) →
    first_refusal (tests_below (λ h. generation_tests file (generations_below file h) (place_of file h)) g) ≡ None →
    ReachBelow file g
reach_below file whole zero is = record { there = whole; few = omega arith }
reach_below file whole (suc g) is =
    let here : Reaches file (generations_below file g) (place_of file g) =
    reaches file (generations_below file g) (place_of file g)
    (others_of (tests_below (λ h. generation_tests file (generations_below file h) (place_of file h)) g)
    (generation_tests file (generations_below file g) (place_of file g)) is) in
    let keys : length (keys_at file (place_of file g)) ≡ u32_at file (place_of file g) =
    length_below (λ k. u64_at file (key_place (place_of file g) k)) (u32_at file (place_of file g)) in
    let more : key_count (generations_below file (suc g))
    ≡ key_count (generations_below file g) + length (keys_at file (place_of file g)) =
    key_count_more (generations_below file g) (keys_at file (place_of file g)) in
    let few : key_count (generations_below file g) + u32_at file (place_of file g) ≤ 33554432 = here.few in
    record { there = here.there; few = omega (arith, keys, more, few) }

pub are_read :
    (file : List ℕ) → words_end file ≤ length file → first_refusal (generations_tests file) ≡ None →
    AreGenerationsTo file (generations_below file (count_of file)) (keys_end file)
unfolding generations_tests
are_read file whole is =
    let all : ReachBelow file (count_of file) = reach_below file whole (count_of file) is in
    record { accepted = is; read = refl; ends = refl; there = all.there; few = all.few }

-- what nothing is refused of in the name and the numbers of cartridge and script
pub record IsOfThese (file : List ℕ) (cart script : ℕ) : Type 0 where
  pub named : is_named file ≡ true
  pub cart_is : u64_at file 8 ≡ cart
  pub script_is : u64_at file 16 ≡ script

pub is_of_these :
    (file : List ℕ) (cart script : ℕ) → first_refusal (identity_tests file cart script) ≡ None →
    IsOfThese file cart script
unfolding identity_tests
is_of_these file cart script is =
    let all : Accepts (identity_tests file cart script) = record { none = is } in
    let a = then_passes all in
    let b = then_passes a in
    let d = then_passes b in
    let e = then_passes d in
    let f = then_passes e in
    let g = then_passes f in
    record {
      named = not-false _ (this_passes all);
      cart_is = eqb-true (u64_at file 8) cart (not-false _ (this_passes e));
      script_is = eqb-true (u64_at file 16) script (not-false _ (this_passes g));
    }
