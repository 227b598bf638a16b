-- A file of which nothing is refused is the bytes of what its fields are, piece by piece.
use Rattle.std.proofs.Common.{◌≡◌, ℕ, zero, suc, ◌+◌, ◌-◌, ◌*◌, ◌<◌, ◌≤◌, List, [], ◌∷◌, ◌++◌, length, drop, slice_index_or, slice_range, flat_map, All, refl, sym, ap, ◌∙◌, arith, append_assoc, append-nil, length-drop, length-take}
use Rattle.std.specs.Int.{w32, w64, to_le_bytes}
use Rattle.std.proofs.lemmas.List.Concat.{flat_map-append}
use Rattle.std.proofs.lemmas.List.Elements.{All-take, All-drop}
use Rattle.std.proofs.lemmas.List.Folds.{drop_split}
use Rattle.std.proofs.lemmas.Nat.{le_bytes_4, le_bytes_8}
use Rattle.nj_saved.specs.Fields.{u32_at, u64_at, list_below, place_of, key_place, keys_at, generations_below}
use Rattle.nj_saved.specs.Bytes.{generation_bytes}
use Rattle.nj_saved.proofs.Changed.{small_at}
use Rattle.nj_saved.proofs.InRange.{length_below}

-- a piece of a file is as long as its places are apart
piece_size : (file : List ℕ) (at size : ℕ) → at + size ≤ length file → length (slice_range file at (at + size)) ≡ size
piece_size file at size there =
    let left : length (drop at file) ≡ length file - at = length-drop at file in
    length-take (at + size - at) (drop at file) ∙ omega (arith, there, left)

module _ (file : List ℕ) (are : All (λ b. b < 256) file) where
  -- its bytes are small
  piece_small : (at end i : ℕ) → slice_index_or (slice_range file at end) i 0 < 256
  piece_small at end i =
      small_at (slice_range file at end)
      (All-take (λ b. b < 256) (end - at) (drop at file) (All-drop (λ b. b < 256) at file are)) i

  -- the bytes from a place on are those of the number there, and then the others
  pub piece4 : (at : ℕ) → at + 4 ≤ length file → drop at file ≡ to_le_bytes w32 (u32_at file at) ++ drop (at + 4) file
  unfolding u32_at
  piece4 at there =
      drop_split file at (at + 4) (omega arith)
      ∙ ap (λ bytes. bytes ++ drop (at + 4) file)
      (sym
      (le_bytes_4 (slice_range file at (at + 4)) (u32_at file at) (piece_size file at 4 there)
      (piece_small at (at + 4)) refl))

  pub piece8 : (at : ℕ) → at + 8 ≤ length file → drop at file ≡ to_le_bytes w64 (u64_at file at) ++ drop (at + 8) file
  unfolding u64_at
  piece8 at there =
      drop_split file at (at + 8) (omega arith)
      ∙ ap (λ bytes. bytes ++ drop (at + 8) file)
      (sym
      (le_bytes_8 (slice_range file at (at + 8)) (u64_at file at) (piece_size file at 8 there)
      (piece_small at (at + 8)) refl))

  -- the first k keys of the generation at a place
  keys_piece : (at k : ℕ) → key_place at k ≤ length file →
      drop (at + 4) file
      ≡ flat_map (to_le_bytes w64) (list_below (λ j. u64_at file (key_place at j)) k) ++ drop (key_place at k) file
  keys_piece at zero there = let first : at + 4 ≡ key_place at zero = omega arith in ap (λ n. drop n file) first
  keys_piece at (suc k) there =
      let before : key_place at k + 8 ≤ length file = omega (arith, there) in
      let next : key_place at k + 8 ≡ key_place at (suc k) = omega arith in
      let keys : List ℕ = list_below (λ j. u64_at file (key_place at j)) k in
      let key : ℕ = u64_at file (key_place at k) in
      keys_piece at k (omega (arith, before))
      ∙ (ap (λ bytes. flat_map (to_le_bytes w64) keys ++ bytes)
      (piece8 (key_place at k) before ∙ ap (λ n. to_le_bytes w64 key ++ drop n file) next)
      ∙ (sym (append_assoc (flat_map (to_le_bytes w64) keys) (to_le_bytes w64 key) (drop (key_place at (suc k)) file))
      ∙ ap (λ bytes. bytes ++ drop (key_place at (suc k)) file)
      (sym (flat_map-append (to_le_bytes w64) keys (key ∷ [])))))

  -- the generation at a place
  generation_piece : (at : ℕ) → at + 4 + 8 * u32_at file at ≤ length file →
      drop at file ≡ generation_bytes (keys_at file at) ++ drop (at + 4 + 8 * u32_at file at) file
  unfolding generation_bytes
  generation_piece at there =
      let count : length (keys_at file at) ≡ u32_at file at =
      length_below (λ k. u64_at file (key_place at k)) (u32_at file at) in
      piece4 at (omega (arith, there))
      ∙ (ap (λ n. to_le_bytes w32 n ++ drop (at + 4) file) (sym count)
      ∙ ap (λ bytes. to_le_bytes w32 (length (keys_at file at)) ++ bytes) (keys_piece at (u32_at file at) there))

  -- the first g generations
  pub generations_piece : (g : ℕ) → place_of file g ≤ length file →
      drop (place_of file 0) file ≡ flat_map generation_bytes (generations_below file g) ++ drop (place_of file g) file
  generations_piece zero there = refl
  generations_piece (suc g) there =
      let at : ℕ = place_of file g in
      let keys : List ℕ = keys_at file at in
      generations_piece g (omega (arith, there))
      ∙ (ap (λ bytes. flat_map generation_bytes (generations_below file g) ++ bytes) (generation_piece at there)
      ∙ (sym
      (append_assoc (flat_map generation_bytes (generations_below file g)) (generation_bytes keys)
      (drop (place_of file (suc g)) file))
      ∙ ap (λ bytes. bytes ++ drop (place_of file (suc g)) file)
      (ap (λ bytes. flat_map generation_bytes (generations_below file g) ++ bytes)
      (sym (append-nil (generation_bytes keys)))
      ∙ sym (flat_map-append generation_bytes (generations_below file g) (keys ∷ [])))))
