-- What is read of a file is what it says.
use Rattle.std.proofs.Common.{◌≡◌, ◌⊎◌, inl, inr, ℕ, ◌+◌, ◌-◌, ◌*◌, ◌/◌, ◌^◌, ◌<◌, ◌≤◌, true, List, [], ◌++◌, length, take, drop, slice_index, slice_index_or, slice_range, flat_map, All, refl, sym, ap, ap₂, ◌∙◌, subst, arith, append_assoc, append-nil, length-append, length-drop, length-take, take_at, take-append-drop, mul-div_cancel}
use Rattle.std.specs.Prelude.{Option, None, Some, Ok}
use Rattle.std.specs.Int.{w32, w64, to_le_bytes}
use Rattle.std.proofs.lemmas.Bool.{cases_lt}
use Rattle.std.proofs.lemmas.Bool.Decides.{Decides-eqb}
use Rattle.std.proofs.lemmas.List.{drop_all, get_or_past}
use Rattle.std.proofs.lemmas.List.Folds.{drop_split}
use Rattle.std.proofs.lemmas.List.Elements.{All-take, All-drop}
use Rattle.std.proofs.lemmas.Slice.Eq.{starts_is}
use Rattle.nj_bytes.specs.Fnv.{fnv_of}
use Rattle.nj_saved.specs.declared.saved.Saved.{Saved}
use Rattle.nj_saved.specs.declared.refusal.SavedRefused.{SavedRefused}
use Rattle.nj_saved.specs.Fields.{file_name, is_named, u32_at, u64_at, version_of, step_of, front_of, count_of, words_end, place_of, key_place, keys_at, generations_below, keys_end, contents_of}
use Rattle.nj_saved.specs.Reading.{first_refusal, accepted_unless, tests_of, identity_tests, size_tests, generations_tests, tail_tests, saved_of, HasHead}
use Rattle.nj_saved.specs.Ranges.{words_of, IsInRange, Fits}
use Rattle.nj_saved.specs.Bytes.{generation_bytes, head_bytes, field_bytes, file_bytes}
use Rattle.nj_saved.specs.Steps.{AreGenerationsTo}
use Rattle.nj_saved.specs.Says.{IsFileOf}
use Rattle.nj_saved.proofs.Accepted.{IsSealed, accepted, first_of, others_of, versions, head_passes, tail_passes, sealed, ended}
use Rattle.nj_saved.proofs.Changed.{small_at, last_bytes}
use Rattle.nj_saved.proofs.Heads.{IsOfThese, has_head, are_read, is_of_these}
use Rattle.nj_saved.proofs.InRange.{length_below, at_below, contents_in_range}
use Rattle.nj_saved.proofs.Pieces.{piece4, piece8, generations_piece}

-- eight bytes fit 64 bits
eight : (a b d e f g h i : ℕ) → a < 256 → b < 256 → d < 256 → e < 256 → f < 256 → g < 256 → h < 256 → i < 256 →
    a + b * 256 + d * 65536 + e * 16777216 + f * 4294967296 + g * 1099511627776 + h * 281474976710656
    + i * 72057594037927936
    < 18446744073709551616
eight a b d e f g h i la lb ld le lf lg lh li = omega (arith, la, lb, ld, le, lf, lg, lh, li)

far_end : (file : List ℕ) → 44 ≤ words_end file
unfolding words_end
far_end file = omega arith

-- what a reading accepts is what the fields are
contents_read :
    (file : List ℕ) (cart script : ℕ) (saved : Saved) → saved_of file cart script ≡ Ok saved → contents_of file ≡ saved
unfolding saved_of
contents_read file cart script saved is = by_case (first_refusal (tests_of file cart script)) is where
  by_case :
      (refusal : Option SavedRefused) → accepted_unless refusal (contents_of file) ≡ Ok saved → contents_of file ≡ saved
  by_case None same = cc
  by_case (Some refused) same = absurd (cc)

module _ (file : List ℕ) (are : All (λ b. b < 256) file) where
  number_fits : (at : ℕ) → u64_at file at < 2 ^ 64
  unfolding u64_at
  number_fits at =
      let bytes : List ℕ = slice_range file at (at + 8) in
      let small : (i : ℕ) → slice_index bytes i < 256 =
      small_at bytes (All-take (λ b. b < 256) (at + 8 - at) (drop at file) (All-drop (λ b. b < 256) at file are)) in
      eight (slice_index bytes 0) (slice_index bytes 1) (slice_index bytes 2) (slice_index bytes 3)
      (slice_index bytes 4) (slice_index bytes 5) (slice_index bytes 6) (slice_index bytes 7)
      (small 0) (small 1) (small 2) (small 3) (small 4) (small 5) (small 6) (small 7)

  -- each key that is read fits 64 bits, and there are zeros past the last
  key_fits : (at k : ℕ) → slice_index (keys_at file at) k < 2 ^ 64
  key_fits at k =
      let all : length (keys_at file at) ≡ u32_at file at =
      length_below (λ j. u64_at file (key_place at j)) (u32_at file at) in
      elim (cases_lt k (u32_at file at)) [
        | inl inside ↦
            subst (λ n. n < 2 ^ 64) (sym (at_below (λ j. u64_at file (key_place at j)) 0 (u32_at file at) k inside))
            (number_fits (key_place at k))
        | inr past ↦
            subst (λ n. n < 2 ^ 64) (sym (get_or_past (keys_at file at) k 0 (omega (arith, past, all)))) (omega arith)
      ]

  keys_fit : (n g k : ℕ) → slice_index (slice_index_or (generations_below file n) g []) k < 2 ^ 64
  keys_fit n g k =
      let all : length (generations_below file n) ≡ n = length_below (λ h. keys_at file (place_of file h)) n in
      elim (cases_lt g n) [
        | inl inside ↦
            subst (λ keys. slice_index keys k < 2 ^ 64)
            (sym (at_below (λ h. keys_at file (place_of file h)) [] n g inside)) (key_fits (place_of file g) k)
        | inr past ↦
            subst (λ keys. slice_index keys k < 2 ^ 64)
            (sym (get_or_past (generations_below file n) g [] (omega (arith, past, all)))) (omega arith)
      ]

  pub contents_fit : Fits (contents_of file)
  unfolding contents_of
  contents_fit = record { cart = number_fits 8; script = number_fits 16; keys = keys_fit (count_of file) }

  -- the name stands at its head
  name_is : 4 ≤ length file → is_named file ≡ true → take 4 file ≡ file_name
  unfolding is_named file_name
  name_is long is =
      let four : length (take 4 file) ≡ 4 = length-take 4 file ∙ omega (arith, long) in
      sym ((starts_is Decides-eqb file_name (take 4 file) (is_named file) refl).0 is
      ∙ (ap (λ n. take 4 file ++ drop n file_name) four ∙ append-nil (take 4 file)))

  -- the numbers before the words, one behind the other
  head_is :
      44 ≤ length file → is_named file ≡ true → (front count : ℕ) → front_of file ≡ front → count_of file ≡ count →
      file
      ≡ (file_name
      ++ (to_le_bytes w32 (version_of file) ++ (to_le_bytes w64 (u64_at file 8) ++ (to_le_bytes w64 (u64_at file 16)
      ++ (to_le_bytes w32 (step_of file) ++ (to_le_bytes w32 front ++ (to_le_bytes w32 (u32_at file 32)
      ++ (to_le_bytes w32 (u32_at file 36) ++ to_le_bytes w32 count)))))))) ++ drop 44 file
  unfolding file_name
  head_is long named front count front_is count_is =
      let a : 4 + 4 ≤ length file = omega (arith, long) in
      let b : 8 + 8 ≤ length file = omega (arith, long) in
      let d : 16 + 8 ≤ length file = omega (arith, long) in
      let e : 24 + 4 ≤ length file = omega (arith, long) in
      let f : 28 + 4 ≤ length file = omega (arith, long) in
      let g : 32 + 4 ≤ length file = omega (arith, long) in
      let h : 36 + 4 ≤ length file = omega (arith, long) in
      sym (take-append-drop 4 file)
      ∙ (ap (λ x. x ++ drop 4 file) (name_is (omega (arith, long)) named)
      ∙ ap (λ x. file_name ++ x) (piece4 file are 4 a
      ∙ ap (λ x. to_le_bytes w32 (version_of file) ++ x) (piece8 file are 8 b
      ∙ ap (λ x. to_le_bytes w64 (u64_at file 8) ++ x) (piece8 file are 16 d
      ∙ ap (λ x. to_le_bytes w64 (u64_at file 16) ++ x) (piece4 file are 24 e
      ∙ ap (λ x. to_le_bytes w32 (step_of file) ++ x) (piece4 file are 28 f
      ∙ ap₂ (λ n x. to_le_bytes w32 n ++ x) front_is (piece4 file are 32 g
      ∙ ap (λ x. to_le_bytes w32 (u32_at file 32) ++ x) (piece4 file are 36 h
      ∙ ap (λ x. to_le_bytes w32 (u32_at file 36) ++ x) (piece4 file are 40 long
      ∙ ap (λ n. to_le_bytes w32 n ++ drop 44 file) count_is)))))))))

  module _ (cart script : ℕ) (is : first_refusal (tests_of file cart script) ≡ None) where
    sizes : first_refusal (size_tests file) ≡ None
    unfolding tests_of
    sizes =
        first_of (size_tests file) (generations_tests file ++ tail_tests file (keys_end file))
        (others_of (identity_tests file cart script) _ is)

    generations : first_refusal (generations_tests file) ≡ None
    unfolding tests_of
    generations =
        first_of (generations_tests file) (tail_tests file (keys_end file))
        (others_of (size_tests file) _ (others_of (identity_tests file cart script) _ is))

    head : HasHead file
    head = has_head file sizes

    read : AreGenerationsTo file (generations_below file (count_of file)) (keys_end file)
    read = let h : HasHead file = head in are_read file h.whole generations

    ranges : IsInRange (contents_of file)
    ranges = contents_in_range file (generations_below file (count_of file)) (keys_end file) head read

    these : IsOfThese file cart script
    these = is_of_these file cart script (head_passes file cart script is)

    front_same : front_of file ≡ words_of (contents_of file)
    unfolding contents_of words_end
    front_same =
        let h : HasHead file = head in
        let whole : 44 + front_of file * step_of file ≤ length file = h.whole in
        let left : length (drop 44 file) ≡ length file - 44 = length-drop 44 file in
        let size : length (slice_range file 44 (44 + front_of file * step_of file)) ≡ front_of file * step_of file =
        length-take (44 + front_of file * step_of file - 44) (drop 44 file) ∙ omega (arith, whole, left) in
        sym (ap (λ n. n / step_of file) size ∙ mul-div_cancel (front_of file) h.first_step)

    count_same : count_of file ≡ length (generations_below file (count_of file))
    count_same = sym (length_below (λ h. keys_at file (place_of file h)) (count_of file))

    -- the fields, and what stands behind them
    fields_are : file ≡ field_bytes (version_of file) (contents_of file) ++ drop (keys_end file) file
    unfolding field_bytes head_bytes contents_of
    fields_are =
        let h : HasHead file = head in
        let t : IsOfThese file cart script = these in
        let r : AreGenerationsTo file (generations_below file (count_of file)) (keys_end file) = read in
        let words : List ℕ = slice_range file 44 (words_end file) in
        let keys : List ℕ = flat_map generation_bytes (generations_below file (count_of file)) in
        let rest : List ℕ = drop (keys_end file) file in
        let numbers : List ℕ = head_bytes (version_of file) (contents_of file) in
        head_is h.head t.named (words_of (contents_of file)) (length (generations_below file (count_of file)))
        front_same count_same
        ∙ (ap (λ x. numbers ++ x) (drop_split file 44 (words_end file) (far_end file)
        ∙ (ap (λ x. words ++ x) (generations_piece file are (count_of file) r.there)
        ∙ sym (append_assoc words keys rest)))
        ∙ sym (append_assoc numbers (words ++ keys) rest))

    first_bytes : version_of file ≡ 1 → file ≡ file_bytes 1 (contents_of file)
    unfolding file_bytes
    first_bytes one =
        let early : length file ≤ keys_end file = ended file one (tail_passes file cart script is) in
        fields_are
        ∙ (ap₂ (λ v rest. field_bytes v (contents_of file) ++ rest) one (drop_all (keys_end file) file early)
        ∙ append-nil (field_bytes 1 (contents_of file)))

    second_bytes : version_of file ≡ 2 → file ≡ file_bytes 2 (contents_of file)
    unfolding file_bytes
    second_bytes two =
        let seal : IsSealed file = sealed file two (tail_passes file cart script is) in
        let fields : List ℕ = field_bytes 2 (contents_of file) in
        let whole : file ≡ fields ++ drop (keys_end file) file =
        fields_are ∙ ap (λ v. field_bytes v (contents_of file) ++ drop (keys_end file) file) two in
        let end : keys_end file + 8 ≡ length file = seal.ends in
        let left : length (drop (keys_end file) file) ≡ length file - keys_end file =
        length-drop (keys_end file) file in
        let size : length file ≡ length fields + length (drop (keys_end file) file) =
        ap length whole ∙ length-append fields (drop (keys_end file) file) in
        let same : keys_end file ≡ length fields = omega (arith, end, left, size) in
        let before : take (keys_end file) file ≡ fields =
        ap (λ n. take n file) same
        ∙ (ap (take (length fields)) whole ∙ take_at fields (drop (keys_end file) file) (length fields) refl) in
        let hash : u64_at file (keys_end file) ≡ fnv_of fields = seal.hash ∙ ap fnv_of before in
        whole ∙ ap (λ x. fields ++ x) (sym (last_bytes file (keys_end file) are end) ∙ ap (to_le_bytes w64) hash)

    which_bytes : (file ≡ file_bytes 1 (contents_of file)) ⊎ (file ≡ file_bytes 2 (contents_of file))
    which_bytes =
        elim (versions file cart script (head_passes file cart script is)) [
          | inl one ↦ inl (first_bytes one)
          | inr two ↦ inr (second_bytes two)
        ]

    fields_say : IsFileOf file cart script (contents_of file)
    unfolding contents_of
    fields_say = let t : IsOfThese file cart script = these in
        record {
          cart_is = t.cart_is;
          script_is = t.script_is;
          ranges = ranges;
          fits = contents_fit;
          bytes = which_bytes;
        }

-- a file that is read says what is read
pub said :
    (file : List ℕ) (cart script : ℕ) (saved : Saved) → All (λ b. b < 256) file → saved_of file cart script ≡ Ok saved →
    IsFileOf file cart script saved
said file cart script saved are is =
    subst (IsFileOf file cart script) (contents_read file cart script saved is)
    (fields_say file are cart script (accepted file cart script saved is))
