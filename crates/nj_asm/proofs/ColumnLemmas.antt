-- Lemmas on the lines of a listing of instructions.
use Rattle.std.proofs.Common.{ℕ, ◌≡◌, ◌≤◌, ◌<◌, ◌+◌, ◌%◌, ◌==◌, Bool, true, false, cond, List, [], ◌∷◌, ◌++◌, length, drop, refl, sym, ap, ◌∙◌, arith, length-append, append-nil}
use Rattle.std.specs.Prelude.{codes, slice_index}
use Rattle.std.specs.List.{All, list_all, flat_map, concat}
use Rattle.std.proofs.lemmas.List.{take_at, drop_at}
use Rattle.std.proofs.lemmas.List.Elements.{All-head, All-tail}
use Rattle.nj_lines.specs.Lines.{lines, IsPlain, IsEnded, AreLines}
use Rattle.nj_isa.specs.declared.modes.Mode.{Mode}
use Rattle.nj_isa.specs.declared.modes.Mode.TheVariants.{Implied, Accumulator, Immediate, Zp, ZpX, ZpY, Abs, AbsX, AbsY, IndX, IndY, Indirect, Relative}
use Rattle.nj_isa.specs.Names.{name_of, length_of}
use Rattle.nj_isa.specs.Table.{row_of}
use Rattle.nj_asm.specs.Listing.{hex2, hex4, operand_text, spaced, filling, place_text, instruction_text, listed, listing_of}
use Rattle.nj_asm.specs.Instructions.{Instruction, IsInstruction, encoding, encodings, statements_of}
use Rattle.nj_asm.proofs.DigitLemmas.{is_plain, hex2_plain, hex4_plain}
use Rattle.nj_asm.proofs.ReadingLemmas.{plain-append, plain_is}
use Rattle.nj_asm.proofs.OpcodeLemmas.{runs}
use Rattle.nj_asm.proofs.InstructionLemmas.{name_plain, operand_plain}
use Rattle.nj_asm.proofs.ListingLemmas.{listed-instruction}

-- a plain text and a line feed are a line, and lines are told from their text
abbrev pub EndsLines : Type 0
EndsLines = (text : List ℕ) → IsPlain text → IsEnded (text ++ 10 ∷ [])

abbrev pub PartsLines : Type 0
PartsLines = (parts : List (List ℕ)) → AreLines parts → lines (concat parts) ≡ parts

abbrev pub AreEnded : List (List ℕ) → Type 0
AreEnded [] = Unit {0}
AreEnded (line ∷ rest) = IsEnded line × AreEnded rest

pub are_lines : (parts : List (List ℕ)) → AreEnded parts → AreLines parts
are_lines [] ended = tt
are_lines (line ∷ []) ended = (omega (arith, ended.0), omega (arith, ended.0))
are_lines (line ∷ next ∷ rest) ended = (ended.0, are_lines (next ∷ rest) ended.1)

-- the operand's bytes, 0 where there is none
abbrev pub low_of : Instruction → ℕ
low_of i = slice_index i.operand 0

abbrev pub high_of : Instruction → ℕ
high_of i = slice_index i.operand 1

-- the lines of a listing, and what stands behind their columns
abbrev pub statement_line : ℕ → Instruction → List ℕ
statement_line at i =
    (name_of (row_of i.opcode).op ++ operand_text (row_of i.opcode).mode at (low_of i) (high_of i)) ++ 10 ∷ []

abbrev pub lines_at : ℕ → List Instruction → List (List ℕ)
lines_at at [] = []
lines_at at (i ∷ is) = instruction_text at (encoding i) ∷ lines_at (at + length (encoding i)) is

abbrev pub said_at : ℕ → List Instruction → List (List ℕ)
said_at at [] = []
said_at at (i ∷ is) = statement_line at i ∷ said_at (at + length (encoding i)) is

-- instructions have at most three bytes
pub length_small : (mode : Mode) → length_of mode ≤ 3
length_small Implied = omega arith
length_small Accumulator = omega arith
length_small Immediate = omega arith
length_small Zp = omega arith
length_small ZpX = omega arith
length_small ZpY = omega arith
length_small Abs = omega arith
length_small AbsX = omega arith
length_small AbsY = omega arith
length_small IndX = omega arith
length_small IndY = omega arith
length_small Indirect = omega arith
length_small Relative = omega arith

-- a line without its columns
cut_line : (at k : ℕ) (operand : List ℕ) → length operand ≤ 2
    → drop 14 (instruction_text at (k ∷ operand)) ≡ statement_line at (record { opcode = k; operand = operand })
unfolding instruction_text place_text hex4 hex2
cut_line at k [] short = refl
cut_line at k (x ∷ []) short = refl
cut_line at k (x ∷ y ∷ []) short = refl
cut_line at k (x ∷ y ∷ z ∷ rest) short = absurd (omega arith)

pub cut : (at : ℕ) (i : Instruction) → IsInstruction i
    → drop 14 (instruction_text at (encoding i)) ≡ statement_line at i
cut at i is = cut_line at i.opcode i.operand (omega (arith, is.whole, length_small (row_of i.opcode).mode))

pub cut_all : (at : ℕ) (all : List Instruction) → All IsInstruction all
    → flat_map (λ line. drop 14 line) (lines_at at all) ≡ concat (said_at at all)
cut_all at [] are = refl
cut_all at (i ∷ is) are =
    λ j. cut at i (All-head IsInstruction i is are) j
    ++ cut_all (at + length (encoding i)) is (All-tail IsInstruction i is are) j

-- the columns are plain text
spaced_plain : (bytes : List ℕ) → list_all is_plain (flat_map spaced bytes) ≡ true
spaced_plain [] = refl
spaced_plain (byte ∷ bytes) =
    plain-append (32 ∷ hex2 byte) (flat_map spaced bytes) (hex2_plain byte) (spaced_plain bytes)

choice_plain : (one two : Bool) → list_all is_plain (cond one (codes "      ") (cond two (codes "   ") [])) ≡ true
choice_plain true two = refl
choice_plain false true = refl
choice_plain false false = refl

place_plain : (at : ℕ) (bytes : List ℕ) → list_all is_plain (place_text at bytes) ≡ true
unfolding place_text
place_plain at bytes =
    plain-append (hex4 at ++ flat_map spaced bytes ++ filling (length bytes)) (codes " ")
    (plain-append (hex4 at ++ flat_map spaced bytes) (filling (length bytes))
    (plain-append (hex4 at) (flat_map spaced bytes) (hex4_plain at) (spaced_plain bytes))
    (choice_plain (length bytes == 1) (length bytes == 2)))
    refl

-- each line is ended, with its columns and without
said_plain : (at : ℕ) (i : Instruction) → IsInstruction i → list_all is_plain
    (name_of (row_of i.opcode).op ++ operand_text (row_of i.opcode).mode at (low_of i) (high_of i)) ≡ true
said_plain at i is = plain-append (name_of (row_of i.opcode).op) (operand_text (row_of i.opcode).mode at (low_of i)
    (high_of i)) (name_plain i.opcode is.byte) (operand_plain (row_of i.opcode).mode at (low_of i) (high_of i))

pub said_ended : EndsLines → (at : ℕ) (i : Instruction) → IsInstruction i → IsEnded (statement_line at i)
said_ended ends at i is = ends (name_of (row_of i.opcode).op
    ++ operand_text (row_of i.opcode).mode at (low_of i) (high_of i)) (plain_is _ (said_plain at i is))

line_ended : EndsLines → (at : ℕ) (i : Instruction) → IsInstruction i → IsEnded (instruction_text at (encoding i))
unfolding instruction_text
line_ended ends at i is =
    ends (place_text at (encoding i) ++ name_of (row_of i.opcode).op
    ++ operand_text (row_of i.opcode).mode at (low_of i) (high_of i))
    (plain_is (place_text at (encoding i) ++ name_of (row_of i.opcode).op
    ++ operand_text (row_of i.opcode).mode at (low_of i) (high_of i))
    (plain-append (place_text at (encoding i) ++ name_of (row_of i.opcode).op)
    (operand_text (row_of i.opcode).mode at (low_of i) (high_of i))
    (plain-append (place_text at (encoding i)) (name_of (row_of i.opcode).op) (place_plain at (encoding i))
    (name_plain i.opcode is.byte))
    (operand_plain (row_of i.opcode).mode at (low_of i) (high_of i))))

lines_ended : EndsLines → (at : ℕ) (all : List Instruction) → All IsInstruction all → AreEnded (lines_at at all)
lines_ended ends at [] are = tt
lines_ended ends at (i ∷ is) are = (
  line_ended ends at i (All-head IsInstruction i is are),
  lines_ended ends (at + length (encoding i)) is (All-tail IsInstruction i is are),
)

pub all_ended : EndsLines → (at : ℕ) (all : List Instruction) → All IsInstruction all → AreEnded (said_at at all)
all_ended ends at [] are = tt
all_ended ends at (i ∷ is) are = (
  said_ended ends at i (All-head IsInstruction i is are),
  all_ended ends (at + length (encoding i)) is (All-tail IsInstruction i is are),
)

-- the listing is its lines, one behind another
listed_first : (at : ℕ) (i : Instruction) (rest : List ℕ) → IsInstruction i → at < 65536 →
    listed at 0 (encoding i ++ rest)
    ≡ instruction_text at (encoding i) ++ listed ((at + length (encoding i)) % 65536) 0 rest
listed_first at i rest is within =
    listed-instruction at (length (encoding i)) (encoding i ++ rest) within (omega arith) is.whole (omega arith)
    (omega (arith, length-append (encoding i) rest)) (runs i.opcode is.byte is.official)
    ∙ (λ j. instruction_text at (take_at (encoding i) rest (length (encoding i)) refl j)
    ++ listed ((at + length (encoding i)) % 65536) 0 (drop_at (encoding i) rest (length (encoding i)) refl j))

listed_all : (here at : ℕ) (all : List Instruction) → at + length (encodings all) ≤ 65536 →
    (0 < length (encodings all) → here ≡ at) → All IsInstruction all →
    listed here 0 (encodings all) ≡ concat (lines_at at all)
listed_all here at [] within same are = refl
listed_all here at (i ∷ is) within same are =
    let sum : length (encodings (i ∷ is)) ≡ length (encoding i) + length (encodings is) =
    length-append (encoding i) (encodings is) in
    let now : here ≡ at = same (omega (arith, sum)) in
    ap (λ n. listed n 0 (encodings (i ∷ is))) now
    ∙ listed_first at i (encodings is) (All-head IsInstruction i is are) (omega (arith, sum))
    ∙ ap (λ (text : List ℕ). instruction_text at (encoding i) ++ text)
    (listed_all ((at + length (encoding i)) % 65536) (at + length (encoding i)) is (omega (arith, sum))
    (λ some. omega (arith, sum, some)) (All-tail IsInstruction i is are))

-- the statements of a listing
pub statements_are : EndsLines → PartsLines → (origin : ℕ) (all : List Instruction) →
    origin + length (encodings all) ≤ 65536 → All IsInstruction all →
    statements_of (listing_of origin (encodings all)) ≡ concat (said_at origin all)
unfolding listing_of
statements_are ends parts origin all within are =
    ap (λ (text : List ℕ). statements_of text) (listed_all origin origin all within (λ some. refl) are)
    ∙ ap (λ (ls : List (List ℕ)). flat_map (λ line. drop 14 line) ls)
    (parts (lines_at origin all) (are_lines (lines_at origin all) (lines_ended ends origin all are)))
    ∙ cut_all origin all are

-- a listing of one line
pub one_listed : (at : ℕ) (i : Instruction) → IsInstruction i → at + length (encoding i) ≤ 65536
    → drop 14 (listing_of at (encoding i)) ≡ statement_line at i
unfolding listing_of
one_listed at i is within =
    ap (λ (bytes : List ℕ). drop 14 (listed at 0 bytes)) (sym (append-nil (encoding i)))
    ∙ ap (λ (text : List ℕ). drop 14 text)
    (listed_first at i [] is (omega arith) ∙ append-nil (instruction_text at (encoding i)))
    ∙ cut at i is
