-- Fields that stand at their places are read as what they are.
use Rattle.std.proofs.Common.{◌≡◌, ℕ, zero, suc, ◌+◌, ◌-◌, ◌*◌, ◌^◌, ◌<◌, ◌≤◌, List, [], ◌∷◌, ◌++◌, length, take, drop, slice_index_or, flat_map, refl, sym, ap, ◌∙◌, arith, length-append, drop_at, drop-drop, length-drop, append_assoc, take_all, add-one}
use Rattle.std.specs.Int.{w32, w64, from_le_bytes, to_le_bytes}
use Rattle.std.proofs.lemmas.List.{take_more, drop_more}
use Rattle.std.proofs.lemmas.Nat.{from_le_bytes-to_le_bytes_4, from_le_bytes-to_le_bytes_8}
use Rattle.nj_saved.specs.Fields.{u32_at, u64_at, list_below, place_of, key_place, keys_at, generations_below}
use Rattle.nj_saved.specs.Bytes.{generation_bytes}

-- the values of a function that are the elements of a list
pub list_below_is :
    {A : Type 0} (f : ℕ → A) (xs : List A) (d : A) (n : ℕ) → n ≤ length xs →
    ((k : ℕ) → k < n → f k ≡ slice_index_or xs k d) → list_below f n ≡ take n xs
list_below_is f xs d zero fits are = refl
list_below_is f xs d (suc n) fits are =
    ap (λ ys. ys ++ f n ∷ []) (list_below_is f xs d n (omega (arith, fits)) (λ k below. are k (omega (arith, below))))
    ∙ (ap (λ y. take n xs ++ y ∷ []) (are n (omega arith))
    ∙ (sym (take_more xs n d (omega (arith, fits))) ∙ ap (λ m. take m xs) (add-one n)))

-- a number whose bytes stand at the place
pub number4 :
    (file rest : List ℕ) (at n : ℕ) → drop at file ≡ to_le_bytes w32 n ++ rest → n < 2 ^ 32 → u32_at file at ≡ n
unfolding u32_at
number4 file rest at n is small =
    let four : at + 4 - at ≡ 4 = omega arith in
    ap (λ k. from_le_bytes w32 (take k (drop at file))) four
    ∙ (ap (λ xs. from_le_bytes w32 (take 4 xs)) is ∙ from_le_bytes-to_le_bytes_4 n small)

pub number8 :
    (file rest : List ℕ) (at n : ℕ) → drop at file ≡ to_le_bytes w64 n ++ rest → n < 2 ^ 64 → u64_at file at ≡ n
unfolding u64_at
number8 file rest at n is small =
    let eight : at + 8 - at ≡ 8 = omega arith in
    ap (λ k. from_le_bytes w64 (take k (drop at file))) eight
    ∙ (ap (λ xs. from_le_bytes w64 (take 8 xs)) is ∙ from_le_bytes-to_le_bytes_8 n small)

-- what stands behind bytes of a known length
pub behind :
    (file bytes rest : List ℕ) (at size : ℕ) → drop at file ≡ bytes ++ rest → length bytes ≡ size →
    drop (at + size) file ≡ rest
behind file bytes rest at size is sized =
    sym (drop-drop size at file) ∙ (ap (drop size) is ∙ drop_at bytes rest size sized)

-- and they are all there
pub reaches :
    (file bytes rest : List ℕ) (at : ℕ) → drop at file ≡ bytes ++ rest → 0 < length bytes →
    at + length bytes ≤ length file
reaches file bytes rest at is some =
    let long : length file - at ≡ length bytes + length rest =
    sym (length-drop at file) ∙ (ap length is ∙ length-append bytes rest) in
    omega (arith, long, some)

pub length_keys : (keys : List ℕ) → length (flat_map (to_le_bytes w64) keys) ≡ 8 * length keys
length_keys [] = refl
length_keys (key ∷ keys) =
    ap (λ n. suc (suc (suc (suc (suc (suc (suc (suc n)))))))) (length_keys keys) ∙ omega arith

-- keys that stand behind one another
pub record IsKeyAt (file keys : List ℕ) (at k : ℕ) : Type 0 where
  pub is : u64_at file (at + 8 * k) ≡ slice_index_or keys k 0
  pub there : at + 8 * k + 8 ≤ length file

pub keys_there :
    (file keys rest : List ℕ) (at : ℕ) → drop at file ≡ flat_map (to_le_bytes w64) keys ++ rest →
    ((k : ℕ) → slice_index_or keys k 0 < 2 ^ 64) →
    (k : ℕ) → k < length keys → IsKeyAt file keys at k
keys_there file [] rest at is fit k inside = absurd (omega (arith, inside))
keys_there file (key ∷ keys) rest at is fit zero inside =
    let first : at + 8 * zero ≡ at = omega arith in
    let some : 0 < 8 = omega arith in
    let far : at + 8 ≤ length file =
    reaches file (to_le_bytes w64 key) (flat_map (to_le_bytes w64) keys ++ rest) at is some in
    record {
      is = ap (u64_at file) first ∙ number8 file (flat_map (to_le_bytes w64) keys ++ rest) at key is (fit 0);
      there = omega (arith, first, far);
    }
keys_there file (key ∷ keys) rest at is fit (suc k) inside =
    let inner : IsKeyAt file keys (at + 8) k =
    keys_there file keys rest (at + 8)
    (behind file (to_le_bytes w64 key) (flat_map (to_le_bytes w64) keys ++ rest) at 8 is refl) (λ j. fit (suc j)) k
    (omega (arith, inside)) in
    let place : at + 8 * suc k ≡ at + 8 + 8 * k = omega arith in
    let far : at + 8 + 8 * k + 8 ≤ length file = inner.there in
    record { is = ap (u64_at file) place ∙ inner.is; there = omega (arith, place, far) }

-- a generation that stands at a place
pub record IsGenerationAt (file keys rest : List ℕ) (at : ℕ) : Type 0 where
  pub count : u32_at file at ≡ length keys
  pub there : at + 4 ≤ length file
  pub each : (k : ℕ) → k < length keys → IsKeyAt file keys (at + 4) k
  pub behind_it : drop (at + 4 + 8 * length keys) file ≡ rest

pub generation_there :
    (file keys rest : List ℕ) (at : ℕ) → drop at file ≡ generation_bytes keys ++ rest → length keys < 2 ^ 32 →
    ((k : ℕ) → slice_index_or keys k 0 < 2 ^ 64) →
    IsGenerationAt file keys rest at
unfolding generation_bytes
generation_there file keys rest at is few fit =
    let keys_at_it : drop (at + 4) file ≡ flat_map (to_le_bytes w64) keys ++ rest =
    behind file (to_le_bytes w32 (length keys)) (flat_map (to_le_bytes w64) keys ++ rest) at 4 is refl in
    let some : 0 < 4 = omega arith in
    record {
      count = number4 file (flat_map (to_le_bytes w64) keys ++ rest) at (length keys) is few;
      there = reaches file (to_le_bytes w32 (length keys)) (flat_map (to_le_bytes w64) keys ++ rest) at is some;
      each = keys_there file keys rest (at + 4) keys_at_it fit;
      behind_it =
          behind file (flat_map (to_le_bytes w64) keys) rest (at + 4) (8 * length keys) keys_at_it (length_keys keys);
    }

pub keys_are : (file keys rest : List ℕ) (at : ℕ) → IsGenerationAt file keys rest at → keys_at file at ≡ keys
keys_are file keys rest at is =
    ap (list_below (λ k. u64_at file (key_place at k))) is.count
    ∙ (list_below_is (λ k. u64_at file (key_place at k)) keys 0 (length keys) (omega arith)
    (λ k inside. (is.each k inside).is) ∙ take_all (length keys) keys (omega arith))

-- generations that stand behind one another
module _ (file tail : List ℕ) (generations : List (List ℕ))
    (start : drop (place_of file 0) file ≡ flat_map generation_bytes generations ++ tail)
    (few : (g : ℕ) → length (slice_index_or generations g []) < 2 ^ 32)
    (fit : (g k : ℕ) → slice_index_or (slice_index_or generations g []) k 0 < 2 ^ 64) where
  abbrev keys_of : ℕ → List ℕ
  keys_of g = slice_index_or generations g []

  -- what stands at the place of each of them
  one_there :
      (g : ℕ) → g < length generations →
      drop (place_of file g) file ≡ flat_map generation_bytes (drop g generations) ++ tail →
      IsGenerationAt file (keys_of g) (flat_map generation_bytes (drop (g + 1) generations) ++ tail) (place_of file g)
  one_there g inside is =
      generation_there file (keys_of g) (flat_map generation_bytes (drop (g + 1) generations) ++ tail) (place_of file g)
      (is ∙ (ap (λ gs. flat_map generation_bytes gs ++ tail) (drop_more generations g [] inside)
      ∙ append_assoc (generation_bytes (keys_of g)) (flat_map generation_bytes (drop (g + 1) generations))
      tail)) (few g) (fit g)

  pub places :
      (g : ℕ) → g ≤ length generations →
      drop (place_of file g) file ≡ flat_map generation_bytes (drop g generations) ++ tail
  places zero inside = start
  places (suc g) inside =
      let here : IsGenerationAt file (keys_of g) (flat_map generation_bytes (drop (g + 1) generations) ++ tail)
      (place_of file g) =
      one_there g (omega (arith, inside)) (places g (omega (arith, inside))) in
      ap (λ n. drop (place_of file g + 4 + 8 * n) file) here.count
      ∙ (here.behind_it ∙ ap (λ m. flat_map generation_bytes (drop m generations) ++ tail) (add-one g))

  pub each_there : (g : ℕ) → g < length generations →
      IsGenerationAt file (keys_of g) (flat_map generation_bytes (drop (g + 1) generations) ++ tail) (place_of file g)
  each_there g inside = one_there g inside (places g (omega (arith, inside)))

  pub generations_are : (n : ℕ) → n ≤ length generations → generations_below file n ≡ take n generations
  generations_are n fits =
      list_below_is (λ g. keys_at file (place_of file g)) generations [] n fits
      (λ g inside. keys_are file (keys_of g) _ (place_of file g) (each_there g (omega (arith, fits, inside))))
