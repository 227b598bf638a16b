-- What was written is read again.
use Rattle.std.proofs.Common.{◌≡◌, ℕ, ◌+◌, ◌-◌, ◌*◌, ◌^◌, ◌<◌, ◌≤◌, ◌==◌, ◌||◌, not, true, false, List, [], ◌∷◌, ◌++◌, length, take, drop, slice_index_or, slice_range, flat_map, inl, inr, refl, sym, ap, ◌∙◌, subst, arith, le-ltb, le-leb, nat_le, eq-eqb, append_assoc, append-nil, length-append, length-drop, take_at, drop_at, take_all}
use Rattle.std.specs.Prelude.{None, Ok}
use Rattle.std.specs.Int.{w64, to_le_bytes, is_in_range}
use Rattle.std.proofs.lemmas.Nat.{from_le_bytes-to_le_bytes_4, from_le_bytes-to_le_bytes_8}
use Rattle.std.proofs.lemmas.List.Sums.{get_or-le-sum_by}
use Rattle.std.proofs.lemmas.List.{get_or_past, drop_all}
use Rattle.std.proofs.lemmas.Bool.{cases_lt, cond-true, cond-false, and_from}
use Rattle.nj_bytes.specs.Fnv.{fnv_of}
use Rattle.nj_saved.specs.declared.saved.Saved.{Saved}
use Rattle.nj_saved.specs.Fields.{file_name, is_named, u32_at, u64_at, version_of, step_of, front_of, count_of, words_end, place_of, keys_end, generations_below, contents_of}
use Rattle.nj_saved.specs.Reading.{first_refusal, accepted_unless, trailing, is_front, identity_tests, size_tests, generations_tests, hash_tests, tail_tests, generation_tests, tests_below, tests_of, saved_of, key_count}
use Rattle.nj_saved.specs.Ranges.{words_of, IsInRange, Fits}
use Rattle.nj_saved.specs.Bytes.{generation_bytes, head_bytes, field_bytes, file_bytes}
use Rattle.nj_saved.proofs.Hash.{hash_fits}
use Rattle.nj_saved.proofs.Passing.{passes, no_more, both_pass, generations_pass}
use Rattle.nj_saved.proofs.Refusals.{Accepts}
use Rattle.nj_saved.proofs.Placed.{number8, behind, places, each_there, generations_are}

-- the numbers of the head, whatever stands behind it
module _ (version : ℕ) (saved : Saved) (more : List ℕ) where
  abbrev headed : List ℕ
  headed = head_bytes version saved ++ more

  version_is : version < 2 ^ 32 → u32_at headed 4 ≡ version
  unfolding u32_at head_bytes file_name
  version_is fits = from_le_bytes-to_le_bytes_4 version fits

  cart_is : saved.cart < 2 ^ 64 → u64_at headed 8 ≡ saved.cart
  unfolding u64_at head_bytes file_name
  cart_is fits = from_le_bytes-to_le_bytes_8 saved.cart fits

  script_is : saved.script < 2 ^ 64 → u64_at headed 16 ≡ saved.script
  unfolding u64_at head_bytes file_name
  script_is fits = from_le_bytes-to_le_bytes_8 saved.script fits

  step_is : saved.step < 2 ^ 32 → u32_at headed 24 ≡ saved.step
  unfolding u32_at head_bytes file_name
  step_is fits = from_le_bytes-to_le_bytes_4 saved.step fits

  front_is : words_of saved < 2 ^ 32 → u32_at headed 28 ≡ words_of saved
  unfolding u32_at head_bytes file_name
  front_is fits = from_le_bytes-to_le_bytes_4 (words_of saved) fits

  level_is : saved.level < 2 ^ 32 → u32_at headed 32 ≡ saved.level
  unfolding u32_at head_bytes file_name
  level_is fits = from_le_bytes-to_le_bytes_4 saved.level fits

  until_is : saved.until < 2 ^ 32 → u32_at headed 36 ≡ saved.until
  unfolding u32_at head_bytes file_name
  until_is fits = from_le_bytes-to_le_bytes_4 saved.until fits

  count_is : length saved.generations < 2 ^ 32 → u32_at headed 40 ≡ length saved.generations
  unfolding u32_at head_bytes file_name
  count_is fits = from_le_bytes-to_le_bytes_4 (length saved.generations) fits

  named : is_named headed ≡ true
  unfolding is_named head_bytes file_name
  named = refl

  size : length (head_bytes version saved) ≡ 44
  unfolding head_bytes file_name
  size = refl

  long : 44 ≤ length headed
  long =
      let n : length headed ≡ length (head_bytes version saved) + length more =
      length-append (head_bytes version saved) more in
      let m : length (head_bytes version saved) ≡ 44 = size in omega (arith, n, m)

  behind_head : drop 44 headed ≡ more
  behind_head = drop_at (head_bytes version saved) more 44 size

-- a number that is in its range
within :
    (file : List ℕ) (at low high n : ℕ) → u32_at file at ≡ n → low ≤ n → n ≤ high →
    not (is_in_range low high (u32_at file at)) ≡ false
within file at low high n is least most =
    ap (λ m. not (is_in_range low high m)) is
    ∙ ap not (and_from (nat_le low n) (nat_le n high) (le-leb low n least) (le-leb n high most))

-- a saved search in its ranges, with anything behind its last key
module _ (version : ℕ) (saved : Saved) (tail : List ℕ) (ranges : IsInRange saved) (fits : Fits saved) where
  abbrev body : List ℕ
  body = saved.words ++ (flat_map generation_bytes saved.generations ++ tail)

  abbrev written : List ℕ
  written = head_bytes version saved ++ (saved.words ++ (flat_map generation_bytes saved.generations ++ tail))

  step_there : step_of written ≡ saved.step
  step_there = step_is version saved body (omega (arith, ranges.last_step))

  front_there : front_of written ≡ words_of saved
  front_there = front_is version saved body (omega (arith, ranges.most_words))

  count_there : count_of written ≡ length saved.generations
  count_there = count_is version saved body (omega (arith, ranges.most_generations, ranges.last_step))

  words_there : words_end written ≡ 44 + length saved.words
  unfolding words_end
  words_there =
      ap (λ n. 44 + n * step_of written) front_there
      ∙ (ap (λ n. 44 + words_of saved * n) step_there ∙ ap (λ n. 44 + n) ranges.whole)

  start : drop (place_of written 0) written ≡ flat_map generation_bytes saved.generations ++ tail
  start =
      ap (λ n. drop n written) words_there
      ∙ behind written saved.words (flat_map generation_bytes saved.generations ++ tail) 44 (length saved.words)
      (behind_head version saved body) refl

  few : (g : ℕ) → length (slice_index_or saved.generations g []) < 2 ^ 32
  few g =
      elim (cases_lt g (length saved.generations)) [
        | inl inside ↦
            let one : length (slice_index_or saved.generations g []) ≤ key_count saved.generations =
            get_or-le-sum_by length saved.generations g [] inside in
            omega (arith, one, ranges.most_keys)
        | inr past ↦ subst (λ keys. length keys < 2 ^ 32) (sym (get_or_past saved.generations g [] past)) (omega arith)
      ]

  all_generations : generations_below written (length saved.generations) ≡ saved.generations
  all_generations =
      generations_are written tail saved.generations start few fits.keys (length saved.generations) (omega arith)
      ∙ take_all (length saved.generations) saved.generations (omega arith)

  generations_are_read : first_refusal (generations_tests written) ≡ None
  unfolding generations_tests
  generations_are_read =
      ap
      (λ n. first_refusal
      (tests_below (λ g. generation_tests written (generations_below written g) (place_of written g)) n)) count_there
      ∙ generations_pass written saved.generations
      (λ g. flat_map generation_bytes (drop (g + 1) saved.generations) ++ tail)
      (each_there written tail saved.generations start few fits.keys)
      (generations_are written tail saved.generations start few fits.keys)
      ranges.generations ranges.most_keys

  pub behind_keys : drop (keys_end written) written ≡ tail
  behind_keys =
      ap (λ n. drop (place_of written n) written) count_there
      ∙ (places written tail saved.generations start few fits.keys (length saved.generations) (omega arith)
      ∙ ap (λ gs. flat_map generation_bytes gs ++ tail)
      (drop_all (length saved.generations) saved.generations (omega arith)))

  identity_read :
      version < 2 ^ 32 → (version == 1 || version == 2) ≡ true →
      first_refusal (identity_tests written saved.cart saved.script) ≡ None
  unfolding identity_tests
  identity_read small known =
      let length_is : 44 ≤ length written = long version saved body in
      let all : Accepts (identity_tests written saved.cart saved.script) =
      passes (ap not (named version saved body))
      (passes (le-ltb (length written) 8 (omega (arith, length_is)))
      (passes (ap (λ v. not (v == 1 || v == 2)) (version_is version saved body small) ∙ ap not known)
      (passes (le-ltb (length written) 16 (omega (arith, length_is)))
      (passes (ap not (eq-eqb (u64_at written 8) saved.cart (cart_is version saved body fits.cart)))
      (passes (le-ltb (length written) 24 (omega (arith, length_is)))
      (passes (ap not (eq-eqb (u64_at written 16) saved.script (script_is version saved body fits.script)))
      no_more)))))) in
      all.none

  reaches_words : words_end written ≤ length written
  reaches_words =
      let e : words_end written ≡ 44 + length saved.words = words_there in
      let n : length written ≡ length (head_bytes version saved) + length body =
      length-append (head_bytes version saved) body in
      let m : length (head_bytes version saved) ≡ 44 = size version saved body in
      let k : length body ≡ length saved.words + length (flat_map generation_bytes saved.generations ++ tail) =
      length-append saved.words (flat_map generation_bytes saved.generations ++ tail) in
      omega (arith, e, n, m, k)

  front_in_range : is_front (step_of written) (front_of written) ≡ true
  front_in_range =
      ap (λ n. is_front n (front_of written)) step_there ∙ (ap (is_front saved.step) front_there
      ∙ and_from (is_in_range 1 1048576 (words_of saved)) (nat_le (words_of saved * saved.step) 67108864)
      (and_from (nat_le 1 (words_of saved)) (nat_le (words_of saved) 1048576)
      (le-leb 1 (words_of saved) ranges.some_words) (le-leb (words_of saved) 1048576 ranges.most_words))
      (ap (λ n. nat_le n 67108864) ranges.whole ∙ le-leb (length saved.words) 67108864 ranges.most_pads))

  sizes_read : first_refusal (size_tests written) ≡ None
  unfolding size_tests
  sizes_read =
      let length_is : 44 ≤ length written = long version saved body in
      let level : u32_at written 32 ≡ saved.level = level_is version saved body (omega (arith, ranges.level)) in
      let until : u32_at written 36 ≡ saved.until = until_is version saved body (omega (arith, ranges.until)) in
      let step : step_of written ≡ saved.step = step_there in
      let last : length saved.generations ≤ step_of written + 1 = omega (arith, step, ranges.most_generations) in
      let all : Accepts (size_tests written) =
      passes (le-ltb (length written) 28 (omega (arith, length_is)))
      (passes (within written 24 1 16777215 saved.step step_there ranges.first_step ranges.last_step)
      (passes (le-ltb (length written) 32 (omega (arith, length_is)))
      (passes (ap not front_in_range)
      (passes (le-ltb (length written) 36 (omega (arith, length_is)))
      (passes (within written 32 0 128 saved.level level (omega arith) ranges.level)
      (passes (le-ltb (length written) 40 (omega (arith, length_is)))
      (passes (within written 36 0 33554432 saved.until until (omega arith) ranges.until)
      (passes (le-ltb (length written) 44 length_is)
      (passes
      (within written 40 1 (step_of written + 1) (length saved.generations) count_there ranges.some_generations last)
      (passes (le-ltb (length written) (words_end written) reaches_words) no_more)))))))))) in
      all.none

  -- the fields are those of the saved search
  words_read : slice_range written 44 (words_end written) ≡ saved.words
  words_read =
      let count : words_end written - 44 ≡ length saved.words =
      (let e : words_end written ≡ 44 + length saved.words = words_there in omega (arith, e)) in
      ap (λ n. take n (drop 44 written)) count
      ∙ (ap (take (length saved.words)) (behind_head version saved body)
      ∙ take_at saved.words (flat_map generation_bytes saved.generations ++ tail) (length saved.words) refl)

  contents_are : contents_of written ≡ saved
  unfolding contents_of
  contents_are = λ i. record {
    cart = cart_is version saved body fits.cart i;
    script = script_is version saved body fits.script i;
    step = step_there i;
    level = level_is version saved body (omega (arith, ranges.level)) i;
    until = until_is version saved body (omega (arith, ranges.until)) i;
    words = words_read i;
    generations = (ap (generations_below written) count_there ∙ all_generations) i;
  }

  -- so it is read as it was, where nothing is refused of what stands behind its last key
  pub read_with :
      version < 2 ^ 32 → (version == 1 || version == 2) ≡ true →
      first_refusal (tail_tests written (keys_end written)) ≡ None →
      saved_of written saved.cart saved.script ≡ Ok saved
  unfolding saved_of tests_of
  read_with small known tail_passes =
      ap (λ refusal. accepted_unless refusal (contents_of written))
      (both_pass (identity_tests written saved.cart saved.script) _ (identity_read small known)
      (both_pass (size_tests written) _ sizes_read
      (both_pass (generations_tests written) _ generations_are_read tail_passes)))
      ∙ ap Ok contents_are

-- a file of version 1
pub read_first :
    (saved : Saved) → IsInRange saved → Fits saved → saved_of (file_bytes 1 saved) saved.cart saved.script ≡ Ok saved
unfolding file_bytes field_bytes tail_tests
read_first saved ranges fits =
    let file : List ℕ = written 1 saved [] ranges fits in
    let left : length file - keys_end file ≡ 0 =
    sym (length-drop (keys_end file) file) ∙ ap length (behind_keys 1 saved [] ranges fits) in
    let version : version_of file ≡ 1 = version_is 1 saved (body 1 saved [] ranges fits) (omega arith) in
    let last : Accepts (trailing file (keys_end file) ∷ []) =
    passes (le-ltb (keys_end file) (length file) (omega (arith, left))) no_more in
    let ends : first_refusal (tail_tests file (keys_end file)) ≡ None =
    ap first_refusal (cond-false (version_of file == 2) _ _ (ap (λ v. v == 2) version)) ∙ last.none in
    ap (λ bytes. saved_of (head_bytes 1 saved ++ (saved.words ++ bytes)) saved.cart saved.script)
    (sym (append-nil (flat_map generation_bytes saved.generations)))
    ∙ read_with 1 saved [] ranges fits (omega arith) refl ends

-- the hash stands behind all fields
split :
    (saved : Saved) (hash : List ℕ) →
    field_bytes 2 saved ++ hash
    ≡ head_bytes 2 saved ++ (saved.words ++ (flat_map generation_bytes saved.generations ++ hash))
unfolding field_bytes
split saved hash =
    append_assoc (head_bytes 2 saved) (saved.words ++ flat_map generation_bytes saved.generations) hash
    ∙ ap (λ bytes. head_bytes 2 saved ++ bytes)
    (append_assoc saved.words (flat_map generation_bytes saved.generations) hash)

-- a file of version 2
pub read_second :
    (saved : Saved) → IsInRange saved → Fits saved → saved_of (file_bytes 2 saved) saved.cart saved.script ≡ Ok saved
unfolding file_bytes tail_tests hash_tests
read_second saved ranges fits =
    let fields : List ℕ = field_bytes 2 saved in
    let hash : List ℕ = to_le_bytes w64 (fnv_of fields) in
    let file : List ℕ = written 2 saved hash ranges fits in
    let whole : fields ++ hash ≡ file = split saved hash in
    let at_end : drop (keys_end file) file ≡ hash = behind_keys 2 saved hash ranges fits in
    let left : length file - keys_end file ≡ 8 = sym (length-drop (keys_end file) file) ∙ ap length at_end in
    let size_is : length file ≡ length fields + 8 = ap length (sym whole) ∙ length-append fields hash in
    let end_is : keys_end file ≡ length fields = omega (arith, left, size_is) in
    let before : take (keys_end file) file ≡ fields =
    ap (λ n. take n file) end_is ∙ (ap (take (length fields)) (sym whole) ∙ take_at fields hash (length fields) refl) in
    let kept : u64_at file (keys_end file) ≡ fnv_of fields =
    number8 file [] (keys_end file) (fnv_of fields) (at_end ∙ sym (append-nil hash)) (hash_fits fields) in
    let version : version_of file ≡ 2 = version_is 2 saved (body 2 saved hash ranges fits) (omega arith) in
    let last : Accepts (hash_tests file (keys_end file)) =
    passes (le-ltb (length file) (keys_end file + 8) (omega (arith, left)))
    (passes
    (ap not
    (eq-eqb (u64_at file (keys_end file)) (fnv_of (take (keys_end file) file)) (kept ∙ ap fnv_of (sym before))))
    (passes (le-ltb (keys_end file + 8) (length file) (omega (arith, left))) no_more)) in
    let ends : first_refusal (tail_tests file (keys_end file)) ≡ None =
    ap first_refusal (cond-true (version_of file == 2) _ _ (ap (λ v. v == 2) version)) ∙ last.none in
    ap (λ bytes. saved_of bytes saved.cart saved.script) whole
    ∙ read_with 2 saved hash ranges fits (omega arith) refl ends
