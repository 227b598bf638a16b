-- Lemmas on listings.
use Rattle.std.proofs.Common.{ℕ, zero, suc, ◌≡◌, ◌≤◌, ◌<◌, ◌+◌, ◌-◌, ◌%◌, Bool, true, false, not, ◌&&◌, ◌==◌, cond, ltb, List, [], ◌∷◌, ◌++◌, length, take, drop, get_or, refl, sym, ap, ◌∙◌, arith, append_assoc}
use Rattle.std.proofs.lemmas.Bool.Decides.{nat_tests}
use Rattle.std.proofs.lemmas.List.{append-nil, drop_all, take_all}
use Rattle.nj_isa.specs.Table.{row_of}
use Rattle.nj_isa.specs.Timing.{is_jam}
use Rattle.nj_asm.specs.Listing.{is_whole, listed, listing_of, next_to, span_of, instruction_text}

-- the bytes that a line shows are passed over
listed-shown : (k at : ℕ) (bytes : List ℕ) → at < 65536 → listed at k bytes ≡ listed ((at + k) % 65536) 0 (drop k bytes)
listed-shown zero at bytes small = let same : (at + 0) % 65536 ≡ at = omega arith in rw same
listed-shown (suc k) at [] small = refl
listed-shown (suc k) at (byte ∷ bytes) small =
    let same : ((at + 1) % 65536 + k) % 65536 ≡ (at + suc k) % 65536 = omega arith in
    listed-shown k (next_to at) bytes (omega arith) ∙ ap (λ (n : ℕ). listed n 0 (drop k bytes)) same

is_not_short : (m n : ℕ) → n ≤ m → ltb m n ≡ false
is_not_short m n h = grind (arith, nat_tests)

third : (jam short : Bool) (a b c : List ℕ) → jam ≡ false → short ≡ false → cond jam a (cond short b c) ≡ c
third jam short a b c p q = rw (p, q)

passed : (span at : ℕ) (byte : ℕ) (bytes : List ℕ) → at < 65536 → 0 < span
    → listed (next_to at) (span - 1) bytes ≡ listed ((at + span) % 65536) 0 (drop span (byte ∷ bytes))
passed zero at byte bytes small some = absurd (omega arith)
passed (suc k) at byte bytes small some =
    let less : suc k - 1 ≡ k = omega arith in
    let same : ((at + 1) % 65536 + k) % 65536 ≡ (at + suc k) % 65536 = omega arith in
    ap (λ (n : ℕ). listed (next_to at) n bytes) less ∙ listed-shown k (next_to at) bytes (omega arith)
    ∙ ap (λ (n : ℕ). listed n 0 (drop k bytes)) same

pub listed-instruction : (at span : ℕ) (bytes : List ℕ) → at < 65536 → 0 < length bytes →
    span ≡ span_of (get_or bytes 0 0) → 0 < span → span ≤ length bytes →
    is_jam (row_of (get_or bytes 0 0)).op ≡ false →
    listed at 0 bytes ≡ instruction_text at (take span bytes) ++ listed ((at + span) % 65536) 0 (drop span bytes)
listed-instruction at span [] small some is positive whole runs = absurd (omega arith)
listed-instruction at span (byte ∷ bytes) small some is positive whole runs =
    third (is_jam (row_of byte).op) (ltb (length bytes + 1) (span_of byte)) _ _ _ runs
    (is_not_short (length bytes + 1) (span_of byte) (omega arith))
    ∙ rw (← is) (ap (λ (rest : List ℕ). instruction_text at (take span (byte ∷ bytes)) ++ rest)
    (passed span at byte bytes small positive))

-- the line of an instruction, and those behind it
pub instruction_step : (at span : ℕ) (bytes text goal : List ℕ) → at < 65536 → 0 < length bytes →
    span ≡ span_of (get_or bytes 0 0) → 0 < span → span ≤ length bytes →
    is_jam (row_of (get_or bytes 0 0)).op ≡ false → goal ≡ text ++ listed at 0 bytes →
    goal ≡ (text ++ instruction_text at (take span bytes)) ++ listed ((at + span) % 65536) 0 (drop span bytes)
instruction_step at span bytes text goal small some is positive whole runs before =
    before
    ∙ ap (λ (rest : List ℕ). text ++ rest) (listed-instruction at span bytes small some is positive whole runs)
    ∙ sym (append_assoc text (instruction_text at (take span bytes)) (listed ((at + span) % 65536) 0 (drop span bytes)))

whole_parts : (jam same : Bool) → (not jam && same) ≡ true → (jam ≡ false) × (same ≡ true)
whole_parts true same e = cc
whole_parts false same e = (refl, e)

-- one whole instruction is listed as its line
pub listed_one : (at : ℕ) (bytes : List ℕ) → at < 65536 → is_whole bytes ≡ true
    → listing_of at bytes ≡ instruction_text at bytes
unfolding listing_of
listed_one at [] small e = cc
listed_one at (opcode ∷ operand) small e =
    let parts = whole_parts (is_jam (row_of opcode).op) (length operand + 1 == span_of opcode) e in
    let same : (length operand + 1 == span_of opcode) ≡ true = parts.1 in
    let size : length operand + 1 ≡ span_of opcode = grind (arith, nat_tests) in
    listed-instruction at (span_of opcode) (opcode ∷ operand) small (omega arith) refl (omega (arith, size))
    (omega (arith, size)) parts.0
    ∙ ap (λ (shown : List ℕ).
    instruction_text at shown ++ listed ((at + span_of opcode) % 65536) 0 (drop (span_of opcode) (opcode ∷ operand)))
    (take_all (span_of opcode) (opcode ∷ operand) (omega (arith, size)))
    ∙ ap (λ (rest : List ℕ). instruction_text at (opcode ∷ operand) ++ listed ((at + span_of opcode) % 65536) 0 rest)
    (drop_all (span_of opcode) (opcode ∷ operand) (omega (arith, size)))
    ∙ append-nil (instruction_text at (opcode ∷ operand))
