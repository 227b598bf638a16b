-- Lemmas on lines.
use Rattle.std.proofs.Common.{ℕ, suc, ◌≡◌, ◌≤◌, ◌<◌, ◌+◌, ◌==◌, Bool, true, false, cond, not, List, [], ◌∷◌, ◌++◌, length, take, drop, refl, arith, min, ltb, Some, None, append-nil}
use Rattle.std.specs.List.{concat}
use Rattle.std.proofs.lemmas.Bool.{ltb-true, ltb-false}
use Rattle.nj_lines.specs.Lines.{joined, lines, text_len, IsEnded, IsLast, AreLines}

-- the place of the first line feed, where one was found
pub place_found : (place length at : ℕ) (found : Bool) → ltb place length ≡ found
    → cond found (Some place) None ≡ Some at →
    at + 1 ≡ min (place + 1) length
place_found place length at true found read =
    let same : place ≡ at = cc in
    omega (arith, ltb-true place length found)
place_found place length at false found read = absurd cc

-- no line feed was found
pub no_place : (place length : ℕ) (found : Bool) → ltb place length ≡ found → cond found (Some place) None ≡ None →
    length ≡ min (place + 1) length
no_place place length true found read = absurd cc
no_place place length false found read = omega (arith, ltb-false place length found)

-- where the first line ends
abbrev pub line_end : List ℕ → ℕ
line_end bytes = min (text_len bytes + 1) (length bytes)

-- a byte at the head of a text, where the rest begins with its own first line
one_more : (byte : ℕ) (bytes : List ℕ) (n : ℕ) (ends : Bool) →
    n ≡ min (cond (not ends) (1 + text_len bytes) 0 + 1) (suc (length bytes)) →
    (0 < length bytes → lines bytes ≡ take (line_end bytes) bytes ∷ lines (drop (line_end bytes) bytes)) →
    cond ends ((byte ∷ []) ∷ lines bytes) (joined byte (lines bytes))
    ≡ take n (byte ∷ bytes) ∷ lines (drop n (byte ∷ bytes))
one_more byte bytes n true cut rest = let one : n ≡ 1 = omega arith in rw one
one_more byte [] n false cut rest = let one : n ≡ 1 = omega arith in rw one
one_more byte (next ∷ more) n false cut rest =
    let further : n ≡ suc (line_end (next ∷ more)) = omega arith in
    rw (further, rest (omega arith))

-- a line at the head of a text, which ends at the first line feed or with the text
pub lines-first : (bytes : List ℕ) → 0 < length bytes →
    lines bytes ≡ take (line_end bytes) bytes ∷ lines (drop (line_end bytes) bytes)
lines-first [] some = absurd (omega arith)
lines-first (byte ∷ bytes) some =
    one_more byte bytes (line_end (byte ∷ bytes)) (byte == 10) refl (lines-first bytes)

-- the lines, one behind another, are the bytes
concat-joined : (byte : ℕ) (parts : List (List ℕ)) → concat (joined byte parts) ≡ byte ∷ concat parts
concat-joined byte [] = refl
concat-joined byte (line ∷ rest) = refl

concat-by_end : (byte : ℕ) (bytes : List ℕ) (ends : Bool) → concat (lines bytes) ≡ bytes →
    concat (cond ends ((byte ∷ []) ∷ lines bytes) (joined byte (lines bytes))) ≡ byte ∷ bytes
concat-by_end byte bytes true whole = rw whole
concat-by_end byte bytes false whole = rw (concat-joined byte (lines bytes), whole)

pub concat-lines : (bytes : List ℕ) → concat (lines bytes) ≡ bytes
concat-lines [] = refl
concat-lines (byte ∷ bytes) = concat-by_end byte bytes (byte == 10) (concat-lines bytes)

-- a byte that is no line feed put before a line
IsEnded-joined : (byte : ℕ) (line : List ℕ) → (byte == 10) ≡ false → IsEnded line → IsEnded (byte ∷ line)
IsEnded-joined byte line other ended = rw other (omega arith)

IsLast-joined : (byte : ℕ) (line : List ℕ) → (byte == 10) ≡ false → IsLast line → IsLast (byte ∷ line)
IsLast-joined byte line other last = (omega arith, rw other (omega arith))

AreLines-joined : (byte : ℕ) (parts : List (List ℕ)) → (byte == 10) ≡ false → AreLines parts
    → AreLines (joined byte parts)
AreLines-joined byte [] other are = (omega arith, omega arith)
AreLines-joined byte (line ∷ []) other are = IsLast-joined byte line other are
AreLines-joined byte (line ∷ next ∷ rest) other are = (IsEnded-joined byte line other are.0, are.1)

-- a line feed alone put before lines
AreLines-ended : (byte : ℕ) (parts : List (List ℕ)) → (byte == 10) ≡ true → AreLines parts
    → AreLines ((byte ∷ []) ∷ parts)
AreLines-ended byte [] ends are = (omega arith, omega arith)
AreLines-ended byte (line ∷ rest) ends are = (rw ends (omega arith), are)

AreLines-by_end : (byte : ℕ) (bytes : List ℕ) (ends : Bool) → (byte == 10) ≡ ends → AreLines (lines bytes) →
    AreLines (cond ends ((byte ∷ []) ∷ lines bytes) (joined byte (lines bytes)))
AreLines-by_end byte bytes true ends are = AreLines-ended byte (lines bytes) ends are
AreLines-by_end byte bytes false ends are = AreLines-joined byte (lines bytes) ends are

-- each line is ended but the last
pub AreLines-lines : (bytes : List ℕ) → AreLines (lines bytes)
AreLines-lines [] = tt
AreLines-lines (byte ∷ bytes) = AreLines-by_end byte bytes (byte == 10) refl (AreLines-lines bytes)

-- a line before a text is its first line
line_before : (byte : ℕ) (line rest : List ℕ) (ends : Bool) →
    cond (not ends) (1 + text_len line) 0 + 1 ≡ suc (length line) →
    (IsEnded line → lines (line ++ rest) ≡ line ∷ lines rest) →
    cond ends ((byte ∷ []) ∷ lines (line ++ rest)) (joined byte (lines (line ++ rest))) ≡ (byte ∷ line) ∷ lines rest
line_before byte [] rest true ended before = refl
line_before byte (next ∷ more) rest true ended before = absurd (omega arith)
line_before byte line rest false ended before = rw (before (omega arith))

pub lines-ended : (line rest : List ℕ) → IsEnded line → lines (line ++ rest) ≡ line ∷ lines rest
lines-ended [] rest ended = absurd (omega arith)
lines-ended (byte ∷ line) rest ended = line_before byte line rest (byte == 10) ended (lines-ended line rest)

-- a line at the end of a text is one line
last_line : (byte : ℕ) (line : List ℕ) (ends : Bool) →
    suc (length line) ≤ cond (not ends) (1 + text_len line) 0 + 1 →
    (IsLast line → lines line ≡ line ∷ []) →
    cond ends ((byte ∷ []) ∷ lines line) (joined byte (lines line)) ≡ (byte ∷ line) ∷ []
last_line byte [] true long alone = refl
last_line byte [] false long alone = refl
last_line byte (next ∷ more) true long alone = absurd (omega arith)
last_line byte (next ∷ more) false long alone = rw (alone (omega arith, omega arith))

lines-last : (line : List ℕ) → IsLast line → lines line ≡ line ∷ []
lines-last [] last = absurd (omega arith)
lines-last (byte ∷ line) last = last_line byte line (byte == 10) last.1 (lines-last line)

-- lines put one behind another are the lines of what they make
pub lines-concat : (parts : List (List ℕ)) → AreLines parts → lines (concat parts) ≡ parts
lines-concat [] are = refl
lines-concat (line ∷ []) are = rw (append-nil line) (lines-last line are)
lines-concat (line ∷ next ∷ rest) are =
    rw (lines-ended line (concat (next ∷ rest)) are.0, lines-concat (next ∷ rest) are.1)
