-- The bytes of a number, one after another.
use Rattle.std.proofs.Common.{◌≡◌, ℕ, suc, ◌+◌, ◌<◌, List, [], ◌∷◌, ◌++◌, map, take, length, refl, replicate, slice_index, slice_index_or, ◌≤◌, length-take, append-nil, append_assoc, arith, ap, ◌∙◌, sym}
use Rattle.std.specs.List.{range_with_len}
use Rattle.std.proofs.lemmas.List.FromFn.{length-map-range_with_len, map-range_with_len_more, get_or-map-range_with_len}
use Rattle.nj_workload.specs.Generator.{next_state, state_after, byte_of, byte_at, bytes_from}
use Rattle.std.proofs.lemmas.List.{replicate_more}
use Rattle.nj_workload.specs.Game.{zeros, tables_of, file_with, game_file}
use Rattle.nj_workload.specs.Script.{script_with, script_text}

-- no draw leaves the number as it is
pub state_first : (number : ℕ) → state_after number 0 ≡ number
unfolding state_after
state_first number = refl

-- one draw more
pub state_more : (number n : ℕ) → state_after number (n + 1) ≡ next_state (state_after number n)
unfolding state_after
state_more number n = let one : n + 1 ≡ suc n = omega arith in ap (state_after number) one

-- no bytes
pub bytes_none : (number place : ℕ) → bytes_from number place 0 ≡ []
unfolding bytes_from
bytes_none number place = refl

-- one byte more
pub bytes_more : (number n : ℕ) →
    bytes_from number 0 (n + 1) ≡ bytes_from number 0 n ++ byte_of (next_state (state_after number n)) ∷ []
unfolding bytes_from byte_at
bytes_more number n =
    map-range_with_len_more (λ place. byte_of (state_after number (place + 1))) 0 n n (omega arith)
    ∙ ap (λ state. map (λ place. byte_of (state_after number (place + 1))) (range_with_len 0 n) ++ byte_of state ∷ [])
    (state_more number n)

-- how many they are
pub bytes_length : (number place count : ℕ) → length (bytes_from number place count) ≡ count
unfolding bytes_from
bytes_length number place count = length-map-range_with_len (byte_at number) place count

-- the byte at a place
pub byte_drawn : (number count i d : ℕ) → i < count → slice_index_or (bytes_from number 0 count) i d ≡ byte_at number i
unfolding bytes_from
byte_drawn number count i d below = get_or-map-range_with_len (byte_at number) 0 count i i d below (omega arith)

-- the first 512 of 514 are two runs of 256
two_runs : (f : ℕ → ℕ) →
    take 512 (map f (range_with_len 0 514)) ≡ map f (range_with_len 0 256) ++ map f (range_with_len 256 256)
two_runs f = refl

-- the tables are the first 512 bytes
pub tables_first : (number : ℕ) → take 512 (bytes_from number 0 514) ≡ tables_of number
unfolding bytes_from tables_of
tables_first number = two_runs (byte_at number)

-- the script of the two bytes behind the tables
pub script_drawn : (number : ℕ) (bytes : List ℕ) → bytes ≡ bytes_from number 0 514 →
    script_with (slice_index bytes 512) (slice_index bytes 513) ≡ script_text number
unfolding script_text
script_drawn number bytes same =
    let at_512 : slice_index bytes 512 ≡ byte_at number 512
    = ap (λ b. slice_index b 512) same ∙ byte_drawn number 514 512 0 (omega arith) in
    let at_513 : slice_index bytes 513 ≡ byte_at number 513
    = ap (λ b. slice_index b 513) same ∙ byte_drawn number 514 513 0 (omega arith) in
    ap (λ v. script_with v (slice_index bytes 513)) at_512 ∙ ap (script_with (byte_at number 512)) at_513

-- the cartridge's file of the first 512 bytes
pub file_drawn : (number : ℕ) (bytes : List ℕ) → bytes ≡ bytes_from number 0 514 →
    file_with (take 512 bytes) ≡ game_file number
file_drawn number bytes same = ap (λ b. file_with (take 512 b)) same ∙ ap file_with (tables_first number)

-- how many bytes are drawn
pub drawn_length : (number : ℕ) (bytes : List ℕ) → bytes ≡ bytes_from number 0 514 → length bytes ≡ 514
drawn_length number bytes same = ap length same ∙ bytes_length number 0 514

-- so many are taken, where there are enough
pub taken_length : (k n : ℕ) (xs : List ℕ) → length xs ≡ n → k ≤ n → k ≡ length (take k xs)
taken_length k n xs whole enough = grind (arith, length-take {A = ℕ})

-- zeros put behind a list
pub behind_none : (xs : List ℕ) → xs ≡ xs ++ zeros 0
unfolding zeros
behind_none xs = sym (append-nil xs)

-- one zero more
pub behind_more : (old new before : List ℕ) (n : ℕ) →
    old ≡ before ++ zeros n → new ≡ old ++ 0 ∷ [] → new ≡ before ++ zeros (n + 1)
unfolding zeros
behind_more old new before n was now =
    now ∙ (ap (λ xs. xs ++ 0 ∷ []) was
    ∙ (append_assoc before (replicate n 0) (0 ∷ []) ∙ ap (λ xs. before ++ xs) (replicate_more n 0)))
