-- Two files of which nothing is refused, the first of version 2, do not differ in one byte alone.
use Rattle.std.proofs.Common.{◌≡◌, inl, inr, ℕ, zero, suc, ◌+◌, ◌-◌, ◌*◌, ◌<◌, ◌≤◌, List, ◌∷◌, ◌++◌, length, take, drop, All, slice_index_or, refl, sym, ap, ◌∙◌, arith, length-append, take_at, drop_at, drop-drop, take-append-drop, take_all, length-drop, take-add, subst, ap₂, le_of_suc-le-suc}
use Rattle.std.specs.Prelude.{None}
use Rattle.std.specs.Int.{w32, w64, from_le_bytes, to_le_bytes}
use Rattle.std.proofs.lemmas.Bool.{cases_lt}
use Rattle.std.proofs.lemmas.List.{take-append-le, drop-take, get_or_past}
use Rattle.std.proofs.lemmas.List.Elements.{All-append, All-take, All-drop}
use Rattle.std.proofs.lemmas.Nat.{le_bytes_8}
use Rattle.nj_bytes.specs.Fnv.{fnv_of}
use Rattle.nj_saved.specs.Fields.{u32_at, u64_at, version_of, words_end, place_of, keys_end, count_of, front_of, step_of}
use Rattle.nj_saved.specs.Reading.{first_refusal, tests_of}
use Rattle.nj_saved.proofs.Hash.{same_text}
use Rattle.nj_saved.proofs.Accepted.{IsSealed, versions, head_passes, tail_passes, sealed, ended}

-- what stands behind the changed byte
behind_it : (before behind : List ℕ) (b m : ℕ) → drop (length before + suc m) (before ++ b ∷ behind) ≡ drop m behind
behind_it before behind b m =
    sym (drop-drop (suc m) (length before) (before ++ b ∷ behind))
    ∙ ap (drop (suc m)) (drop_at before (b ∷ behind) (length before) refl)

-- what stands up to a place behind it
up_to :
    (before behind : List ℕ) (b m : ℕ) →
    take (length before + suc m) (before ++ b ∷ behind) ≡ before ++ b ∷ take m behind
up_to before behind b m =
    take-add (length before) (suc m) (before ++ b ∷ behind)
    ∙ (ap (λ xs. xs ++ take (suc m) (drop (length before) (before ++ b ∷ behind)))
    (take_at before (b ∷ behind) (length before) refl)
    ∙ ap (λ xs. before ++ take (suc m) xs) (drop_at before (b ∷ behind) (length before) refl))

module _ (before behind : List ℕ) (b c : ℕ) where
  abbrev old : List ℕ
  old = before ++ b ∷ behind

  abbrev new : List ℕ
  new = before ++ c ∷ behind

  -- nothing is changed before the byte, and nothing behind it
  same_take : (n : ℕ) → n ≤ length before → take n old ≡ take n new
  same_take n low = take-append-le n before (b ∷ behind) low ∙ sym (take-append-le n before (c ∷ behind) low)

  same_drop : (n : ℕ) → length before < n → drop n old ≡ drop n new
  same_drop n high =
      let is : length before + suc (n - suc (length before)) ≡ n = omega (arith, high) in
      ap (λ k. drop k old) (sym is)
      ∙ (behind_it before behind b (n - suc (length before))
      ∙ (sym (behind_it before behind c (n - suc (length before))) ∙ ap (λ k. drop k new) is))

  same_length : length old ≡ length new
  same_length = length-append before (b ∷ behind) ∙ sym (length-append before (c ∷ behind))

  -- so the numbers there are the same
  same_u32 : (at : ℕ) → length before < at → u32_at old at ≡ u32_at new at
  unfolding u32_at
  same_u32 at high = ap (λ xs. from_le_bytes w32 (take (at + 4 - at) xs)) (same_drop at high)

  same_u64 : (at : ℕ) → length before < at → u64_at old at ≡ u64_at new at
  unfolding u64_at
  same_u64 at high = ap (λ xs. from_le_bytes w64 (take (at + 8 - at) xs)) (same_drop at high)

  -- a version before the byte stays
  same_version : 8 ≤ length before → version_of old ≡ version_of new
  unfolding u32_at
  same_version low =
      ap (from_le_bytes w32) (sym (drop-take 4 4 old) ∙ (ap (drop 4) (same_take 8 low) ∙ drop-take 4 4 new))

  -- where the byte stands in the first eight, the fields end at the same place
  same_words_end : length before < 8 → words_end old ≡ words_end new
  unfolding words_end
  same_words_end low =
      ap (λ n. 44 + n * step_of old) (same_u32 28 (omega (arith, low)))
      ∙ ap (λ n. 44 + front_of new * n) (same_u32 24 (omega (arith, low)))

  same_place : length before < 8 → (g : ℕ) → (8 ≤ place_of old g) × (place_of old g ≡ place_of new g)
  unfolding words_end
  same_place low zero = (omega arith, same_words_end low)
  same_place low (suc g) =
      let inner : (8 ≤ place_of old g) × (place_of old g ≡ place_of new g) = same_place low g in
      let far : 8 ≤ place_of old g = inner.0 in (
        omega (arith, far),
        ap (λ n. place_of old g + 4 + 8 * n) (same_u32 (place_of old g) (omega (arith, far, low)))
            ∙ ap (λ at. at + 4 + 8 * u32_at new at) inner.1,
      )

  same_end : length before < 8 → keys_end old ≡ keys_end new
  same_end low = (same_place low (count_of old)).1 ∙ ap (λ n. place_of new n) (same_u32 40 (omega (arith, low)))

-- bytes that are all small are small at each place, 0 behind the last
pub small_at : (bytes : List ℕ) → All (λ x. x < 256) bytes → (i : ℕ) → slice_index_or bytes i 0 < 256
small_at bytes are i =
    elim (cases_lt i (length bytes))
    [ inl inside ↦ are i 0 inside | inr past ↦ subst (λ n. n < 256) (sym (get_or_past bytes i 0 past)) (omega arith) ]

one_more : (b : ℕ) (behind : List ℕ) → b < 256 → All (λ x. x < 256) behind → All (λ x. x < 256) (b ∷ behind)
one_more b behind small are zero d inside = small
one_more b behind small are (suc k) d inside = are k d (le_of_suc-le-suc inside)

-- the last eight bytes are those of the number that they are
pub last_bytes :
    (file : List ℕ) (n : ℕ) → All (λ x. x < 256) file → n + 8 ≡ length file →
    to_le_bytes w64 (u64_at file n) ≡ drop n file
unfolding u64_at
last_bytes file n are ends =
    let eight : n + 8 - n ≡ 8 = omega arith in
    let left : length (drop n file) ≡ 8 = length-drop n file ∙ omega (arith, ends) in
    let whole : take (n + 8 - n) (drop n file) ≡ drop n file =
    take_all (n + 8 - n) (drop n file) (omega (arith, left, eight)) in
    le_bytes_8 (take (n + 8 - n) (drop n file)) (u64_at file n) (ap length whole ∙ left)
    (λ i. subst (λ xs. slice_index_or xs i 0 < 256) (sym whole)
    (small_at (drop n file) (All-drop (λ x. x < 256) n file are) i)) refl
    ∙ whole

module _ (before behind : List ℕ) (b c : ℕ) (are : All (λ x. x < 256) before) (are' : All (λ x. x < 256) behind)
    (small : b < 256) (small' : c < 256) where
  -- a byte before the hash would change the hash
  not_before :
      (n : ℕ) → length before < n → fnv_of (take n (old before behind b c)) ≡ fnv_of (take n (new before behind b c)) →
      b ≡ c
  not_before n low same =
      let m : ℕ = n - suc (length before) in
      let is : length before + suc m ≡ n = omega (arith, low) in
      let there : (d : ℕ) → take n (before ++ d ∷ behind) ≡ before ++ d ∷ take m behind =
      λ d. ap (λ k. take k (before ++ d ∷ behind)) (sym is) ∙ up_to before behind d m in
      same_text before (take m behind) b c (All-take (λ x. x < 256) m behind are') small small'
      (ap fnv_of (sym (there b)) ∙ (same ∙ ap fnv_of (there c)))

  -- and a byte of the hash stands beside the same bytes before it
  not_in_it :
      (n : ℕ) → n ≤ length before → n + 8 ≡ length (old before behind b c) →
      u64_at (old before behind b c) n ≡ u64_at (new before behind b c) n → b ≡ c
  not_in_it n high ends same =
      let whole : (d : ℕ) → d < 256 → All (λ x. x < 256) (before ++ d ∷ behind) =
      λ d fits. All-append (λ x. x < 256) before (d ∷ behind) are (one_more d behind fits are') in
      let ends' : n + 8 ≡ length (new before behind b c) = ends ∙ same_length before behind b c in
      let tail : drop n (old before behind b c) ≡ drop n (new before behind b c) =
      sym (last_bytes (old before behind b c) n (whole b small) ends)
      ∙ (ap (to_le_bytes w64) same ∙ last_bytes (new before behind b c) n (whole c small') ends') in
      let all : old before behind b c ≡ new before behind b c =
      sym (take-append-drop n (old before behind b c))
      ∙ (ap₂ (λ xs ys. xs ++ ys) (same_take before behind b c n high) tail ∙ take-append-drop n (new before behind b c))
      in
      let at_it : (d : ℕ) → slice_index_or (drop (length before) (before ++ d ∷ behind)) 0 0 ≡ d =
      λ d. ap (λ xs. slice_index_or xs 0 0) (drop_at before (d ∷ behind) (length before) refl) in
      sym (at_it b) ∙ (ap (λ xs. slice_index_or (drop (length before) xs) 0 0) all ∙ at_it c)

  -- so it is no byte of a file that ends in its hash
  both_sealed : IsSealed (old before behind b c) → IsSealed (new before behind b c) → b ≡ c
  both_sealed is is' =
      let n : ℕ = keys_end (old before behind b c) in
      let same : keys_end (new before behind b c) ≡ n =
      omega (arith, is.ends, is'.ends, same_length before behind b c) in
      let hash : u64_at (new before behind b c) n ≡ fnv_of (take n (new before behind b c)) =
      subst (λ k. u64_at (new before behind b c) k ≡ fnv_of (take k (new before behind b c))) same is'.hash in
      elim (cases_lt (length before) n) [
        | inl low ↦ not_before n low (sym is.hash ∙ (same_u64 before behind b c n low ∙ hash))
        | inr high ↦ not_in_it n high is.ends (is.hash ∙ (ap fnv_of (same_take before behind b c n high) ∙ sym hash))
      ]

  -- nor does a changed version make it one of version 1, whose last key would stand too early
  not_shorter :
      version_of (old before behind b c) ≡ 2 → version_of (new before behind b c) ≡ 1 →
      IsSealed (old before behind b c) →
      length (new before behind b c) ≤ keys_end (new before behind b c) → b ≡ c
  not_shorter two one is early =
      elim (cases_lt (length before) 8) [
        | inl low ↦
            absurd (omega (arith, is.ends, early, same_length before behind b c, same_end before behind b c low))
        | inr high ↦ absurd (omega (arith, two, one, same_version before behind b c high))
      ]

  pub unchanged :
      (cart script : ℕ) → version_of (old before behind b c) ≡ 2 →
      first_refusal (tests_of (old before behind b c) cart script) ≡ None →
      first_refusal (tests_of (new before behind b c) cart script) ≡ None → b ≡ c
  unchanged cart script two is is' =
      let first : IsSealed (old before behind b c) =
      sealed (old before behind b c) two (tail_passes (old before behind b c) cart script is) in
      elim (versions (new before behind b c) cart script (head_passes (new before behind b c) cart script is')) [
        | inl one ↦
            not_shorter two one first
            (ended (new before behind b c) one (tail_passes (new before behind b c) cart script is'))
        | inr same ↦
            both_sealed first
            (sealed (new before behind b c) same (tail_passes (new before behind b c) cart script is'))
      ]
