-- Lemmas on the bytes of listed instructions, assembled again.
use Rattle.std.proofs.Common.{ℕ, zero, suc, ◌≡◌, ◌≤◌, ◌<◌, ◌+◌, ◌-◌, ◌*◌, ◌/◌, ◌%◌, Bool, true, false, cond, ◌&&◌, ◌||◌, ltb, List, [], ◌∷◌, ◌++◌, length, take, drop, map, get_or, refl, sym, ap, ◌∙◌, arith, Option, Some, None, Ok, length-append, append-nil}
use Rattle.std.specs.Prelude.{codes, slice_index, sum_by}
use Rattle.std.specs.List.{All, list_all, flat_map}
use Rattle.std.proofs.lemmas.Bool.{le-ltb}
use Rattle.std.proofs.lemmas.Bool.Decides.{nat_tests}
use Rattle.std.proofs.lemmas.List.Elements.{All-head, All-tail, All-nil, All-cons, All-take}
use Rattle.nj_lines.specs.Lines.{lines}
use Rattle.nj_isa.specs.declared.modes.Mode.{Mode}
use Rattle.nj_isa.specs.declared.modes.Mode.TheVariants.{Implied, Accumulator, Immediate, Zp, ZpX, ZpY, Abs, AbsX, AbsY, IndX, IndY, Indirect, Relative}
use Rattle.nj_isa.specs.Names.{length_of}
use Rattle.nj_isa.specs.Table.{row_of, is_official}
use Rattle.nj_asm_lines.specs.declared.syntax.Value.TheVariants.{Literal}
use Rattle.nj_asm_lines.specs.declared.syntax.Cell.{Cell}
use Rattle.nj_asm_lines.specs.declared.syntax.Cell.TheVariants.{Opcode, Byte, Word, Branch}
use Rattle.nj_asm_lines.specs.declared.syntax.Fault.{Fault}
use Rattle.nj_asm_lines.specs.declared.syntax.Statement.{Statement}
use Rattle.nj_asm_lines.specs.declared.syntax.Statement.TheVariants.{Origin, Cells}
use Rattle.nj_asm_lines.specs.declared.syntax.Line.{Line}
use Rattle.nj_asm_lines.specs.Grammar.{origin_in, directive_of, said_by, statement_of, cells_in, line_of, read_lines}
use Rattle.nj_asm.specs.Assembly.{Homes, cell_size, homes_of, origin_of, offset_to, is_far, cells_fault, fault_of, refused_or, first_refused, cell_bytes, bytes_from, answer_of, assembly_in, assembly_of}
use Rattle.nj_asm.specs.Listing.{hex2, hex4, branch_target, listing_of}
use Rattle.nj_asm.specs.Instructions.{Instruction, IsInstruction, encoding, encodings, source_of, short_mode}
use Rattle.nj_asm.proofs.DigitLemmas.{is_plain, hex4_plain, hex4_shown, hex4_length, hex4_read}
use Rattle.nj_asm.proofs.ReadingLemmas.{plain-append, plain_is, line_is}
use Rattle.nj_asm.proofs.OperandLemmas.{operand_in, value_is}
use Rattle.nj_asm.proofs.InstructionLemmas.{IsListed, line_read, shown-append}
use Rattle.nj_asm.proofs.ColumnLemmas.{EndsLines, PartsLines, are_lines, low_of, high_of, statement_line, said_at, length_small, said_ended, all_ended, statements_are, one_listed}

-- a line without a label
abbrev bare : Statement → Line
bare statement = record { label = None; statement = statement }

-- the cells of a listed instruction
abbrev listed_cells : Mode → ℕ → ℕ → ℕ → ℕ → List Cell
listed_cells mode k at low high = Opcode k ∷ cells_in mode (operand_in mode at low high)

-- values that fit their cells
byte_fits : (homes : Homes) (at k low : ℕ) → low < 256
    → cells_fault homes at (Opcode k ∷ Byte (Literal low) ∷ []) ≡ None
unfolding cells_fault
byte_fits homes at k low l = rw (le-ltb 255 low (omega arith))

word_fits : (homes : Homes) (at k word : ℕ) → word < 65536
    → cells_fault homes at (Opcode k ∷ Word (Literal word) ∷ []) ≡ None
unfolding cells_fault
word_fits homes at k word l = rw (le-ltb 65535 word (omega arith))

-- the offset of a listed target is the branch's byte, signed
abbrev sign : ℕ → ℕ
sign low = cond (ltb low 128) 0 65280

sign_cases : (low : ℕ) → low < 256 → (P : ℕ → Type 0) → (low < 128 → P 0) → (128 ≤ low → P 65280) → P (sign low)
sign_cases low l P near far = go (ltb low 128) refl
  where
    go : (b : Bool) → ltb low 128 ≡ b → P (cond b 0 65280)
    go true e = near (grind (arith, nat_tests))
    go false e = far (grind (arith, nat_tests))

offset_by : (at low s : ℕ) → at < 65536 → low + s < 65536 → offset_to at ((at + 2 + low + s) % 65536) ≡ low + s
offset_by at low s h l = omega arith

offset_is : (at low : ℕ) → at < 65536 → low < 256 → offset_to at (branch_target at low) ≡ low + sign low
offset_is at low h l = sign_cases low l (λ s. offset_to at ((at + 2 + low + s) % 65536) ≡ low + s)
    (λ near. offset_by at low 0 h (omega arith)) (λ far. offset_by at low 65280 h (omega arith))

near_is : (at low : ℕ) → at < 65536 → low < 256 → is_far at (branch_target at low) ≡ false
near_is at low h l =
    ap (λ n. ltb 127 n && ltb n 65408) (offset_is at low h l)
    ∙ sign_cases low l (λ s. (ltb 127 (low + s) && ltb (low + s) 65408) ≡ false) (λ near. grind (arith, nat_tests))
    (λ far. grind (arith, nat_tests))

branch_fits : (homes : Homes) (at k low : ℕ) → at < 65536 → low < 256
    → cells_fault homes at (Opcode k ∷ Branch (Literal (branch_target at low)) ∷ []) ≡ None
unfolding cells_fault
branch_fits homes at k low h l = rw (le-ltb 65535 (branch_target at low) (omega arith), near_is at low h l)

-- no cell of a listed instruction is refused
cells_fit : (mode : Mode) (homes : Homes) (k at low high : ℕ) → at < 65536 → low < 256 → high < 256
    → cells_fault homes at (listed_cells mode k at low high) ≡ None
unfolding cells_fault
cells_fit Implied homes k at low high h l r = refl
cells_fit Accumulator homes k at low high h l r = refl
cells_fit Immediate homes k at low high h l r = byte_fits homes at k low l
cells_fit Zp homes k at low high h l r = byte_fits homes at k low l
cells_fit ZpX homes k at low high h l r = byte_fits homes at k low l
cells_fit ZpY homes k at low high h l r = byte_fits homes at k low l
cells_fit Abs homes k at low high h l r = word_fits homes at k (low + 256 * high) (omega arith)
cells_fit AbsX homes k at low high h l r = word_fits homes at k (low + 256 * high) (omega arith)
cells_fit AbsY homes k at low high h l r = word_fits homes at k (low + 256 * high) (omega arith)
cells_fit IndX homes k at low high h l r = byte_fits homes at k low l
cells_fit IndY homes k at low high h l r = byte_fits homes at k low l
cells_fit Indirect homes k at low high h l r = word_fits homes at k (low + 256 * high) (omega arith)
cells_fit Relative homes k at low high h l r = branch_fits homes at k low h l

-- the bytes behind an opcode
abbrev behind : ℕ → ℕ → ℕ → List ℕ
behind length low high = take (length - 1) (low ∷ high ∷ [])

-- a listed instruction takes as many bytes as its mode
size_is : (mode : Mode) (k at low high : ℕ) → sum_by cell_size (listed_cells mode k at low high) ≡ length_of mode
size_is Implied k at low high = refl
size_is Accumulator k at low high = refl
size_is Immediate k at low high = refl
size_is Zp k at low high = refl
size_is ZpX k at low high = refl
size_is ZpY k at low high = refl
size_is Abs k at low high = refl
size_is AbsX k at low high = refl
size_is AbsY k at low high = refl
size_is IndX k at low high = refl
size_is IndY k at low high = refl
size_is Indirect k at low high = refl
size_is Relative k at low high = refl

-- its bytes are those that were listed
byte_is : (k low : ℕ) → low < 256 → k ∷ low % 256 ∷ [] ≡ k ∷ low ∷ []
byte_is k low l = let same : low % 256 ≡ low = omega arith in rw same

word_is : (k low high : ℕ) → low < 256 → high < 256
    → k ∷ (low + 256 * high) % 256 ∷ (low + 256 * high) / 256 % 256 ∷ [] ≡ k ∷ low ∷ high ∷ []
word_is k low high l r =
    let first : (low + 256 * high) % 256 ≡ low = omega arith in
    let second : (low + 256 * high) / 256 % 256 ≡ high = omega arith in
    λ i. k ∷ first i ∷ second i ∷ []

branch_is : (k at low : ℕ) → at < 65536 → low < 256 → k ∷ offset_to at (branch_target at low) % 256 ∷ [] ≡ k ∷ low ∷ []
branch_is k at low h l =
    let same : (low + sign low) % 256 ≡ low =
    sign_cases low l (λ s. (low + s) % 256 ≡ low) (λ near. omega arith) (λ far. omega arith) in
    ap (λ n. k ∷ n % 256 ∷ []) (offset_is at low h l) ∙ ap (λ n. k ∷ n ∷ []) same

bytes_are : (mode : Mode) (homes : Homes) (k at low high : ℕ) → at < 65536 → low < 256 → high < 256 →
    flat_map (cell_bytes homes at) (listed_cells mode k at low high) ≡ k ∷ behind (length_of mode) low high
bytes_are Implied homes k at low high h l r = refl
bytes_are Accumulator homes k at low high h l r = refl
bytes_are Immediate homes k at low high h l r = byte_is k low l
bytes_are Zp homes k at low high h l r = byte_is k low l
bytes_are ZpX homes k at low high h l r = byte_is k low l
bytes_are ZpY homes k at low high h l r = byte_is k low l
bytes_are Abs homes k at low high h l r = word_is k low high l r
bytes_are AbsX homes k at low high h l r = word_is k low high l r
bytes_are AbsY homes k at low high h l r = word_is k low high l r
bytes_are IndX homes k at low high h l r = byte_is k low l
bytes_are IndY homes k at low high h l r = byte_is k low l
bytes_are Indirect homes k at low high h l r = word_is k low high l r
bytes_are Relative homes k at low high h l r = branch_is k at low h l

operand_is : (operand : List ℕ) → length operand ≤ 2
    → take (length operand) (slice_index operand 0 ∷ slice_index operand 1 ∷ []) ≡ operand
operand_is [] short = refl
operand_is (x ∷ []) short = refl
operand_is (x ∷ y ∷ []) short = refl
operand_is (x ∷ y ∷ z ∷ rest) short = absurd (omega arith)

behind_is : (i : Instruction) → IsInstruction i
    → behind (length_of (row_of i.opcode).mode) (low_of i) (high_of i) ≡ i.operand
behind_is i is =
    let size : length_of (row_of i.opcode).mode - 1 ≡ length i.operand = omega (arith, is.whole) in
    ap (λ n. take n (low_of i ∷ high_of i ∷ [])) size
    ∙ operand_is i.operand (omega (arith, is.whole, length_small (row_of i.opcode).mode))

-- the bytes of an instruction are bytes
byte_at : (operand : List ℕ) (n : ℕ) → All (λ b. b < 256) operand → get_or operand n 0 < 256
byte_at [] n are = omega arith
byte_at (b ∷ bytes) zero are = All-head (λ b. b < 256) b bytes are
byte_at (b ∷ bytes) (suc n) are = byte_at bytes n (All-tail (λ b. b < 256) b bytes are)

listed_of : (i : Instruction) → IsInstruction i → IsListed i.opcode (row_of i.opcode).mode (low_of i) (high_of i)
listed_of i is = record {
  byte = is.byte;
  official = is.official;
  moded = refl;
  low_byte = byte_at i.operand 0 is.bytes;
  high_byte = byte_at i.operand 1 is.bytes;
  short = is.short;
}

-- the cells of an instruction's line
abbrev cells_at : ℕ → Instruction → List Cell
cells_at at i = listed_cells (row_of i.opcode).mode i.opcode at (low_of i) (high_of i)

read_at : (at : ℕ) (i : Instruction) → IsInstruction i → line_of (statement_line at i) ≡ bare (Cells (cells_at at i))
read_at at i is = line_read i.opcode (row_of i.opcode).mode at (low_of i) (high_of i) (listed_of i is)

size_at : (at : ℕ) (i : Instruction) → IsInstruction i → sum_by cell_size (cells_at at i) ≡ length (encoding i)
size_at at i is = size_is (row_of i.opcode).mode i.opcode at (low_of i) (high_of i) ∙ sym is.whole

bytes_at : (homes : Homes) (at : ℕ) (i : Instruction) → IsInstruction i → at < 65536
    → flat_map (cell_bytes homes at) (cells_at at i) ≡ encoding i
bytes_at homes at i is h =
    bytes_are (row_of i.opcode).mode homes i.opcode at (low_of i) (high_of i) h (byte_at i.operand 0 is.bytes)
    (byte_at i.operand 1 is.bytes)
    ∙ ap (λ (bytes : List ℕ). i.opcode ∷ bytes) (behind_is i is)

-- a line whose cells fit is not refused
line_fits : (homes : Homes) (begun : Bool) (at index : ℕ) (cells : List Cell) → cells_fault homes at cells ≡ None →
    at + sum_by cell_size cells ≤ 65536 →
    fault_of homes begun at index (bare (Cells cells)) ≡ None
unfolding fault_of
line_fits homes begun at index cells none within = rw (none, le-ltb 65536 (at + sum_by cell_size cells) within)

-- no line of a listing is refused
refused_step : (homes : Homes) (begun : Bool) (at index size : ℕ) (cells : List Cell) (line : Line) (rest : List Line) →
    line ≡ bare (Cells cells) → sum_by cell_size cells ≡ size →
    fault_of homes begun at index (bare (Cells cells)) ≡ None →
    first_refused homes (begun || true) (at + size) (index + 1) rest ≡ None →
    first_refused homes begun at index (line ∷ rest) ≡ None
refused_step homes begun at index size cells line rest is sized fits after =
    ap (λ (l : Line). first_refused homes begun at index (l ∷ rest)) is
    ∙ ap (λ (o : Option Fault). refused_or o (index + 1)
    (first_refused homes (begun || true) (at + sum_by cell_size cells) (index + 1) rest)) fits
    ∙ ap (λ n. first_refused homes (begun || true) (at + n) (index + 1) rest) sized
    ∙ after

none_refused : (homes : Homes) (begun : Bool) (at index : ℕ) (all : List Instruction) →
    at + length (encodings all) ≤ 65536 → All IsInstruction all →
    first_refused homes begun at index (map line_of (said_at at all)) ≡ None
none_refused homes begun at index [] within are = refl
none_refused homes begun at index (i ∷ is) within are =
    let here = All-head IsInstruction i is are in
    let sum : length (encodings (i ∷ is)) ≡ length (encoding i) + length (encodings is) =
    length-append (encoding i) (encodings is) in
    let size = size_at at i here in
    refused_step homes begun at index (length (encoding i)) (cells_at at i) (line_of (statement_line at i))
    (map line_of (said_at (at + length (encoding i)) is))
    (read_at at i here) size
    (line_fits homes begun at index (cells_at at i)
    (cells_fit (row_of i.opcode).mode homes i.opcode at (low_of i) (high_of i) (omega (arith, sum))
    (byte_at i.operand 0 here.bytes) (byte_at i.operand 1 here.bytes))
    (omega (arith, sum, size)))
    (none_refused homes (begun || true) (at + length (encoding i)) (index + 1) is (omega (arith, sum))
    (All-tail IsInstruction i is are))

-- its bytes are those that were listed
bytes_step : (homes : Homes) (at size : ℕ) (cells : List Cell) (line : Line) (rest : List Line) (bytes after : List ℕ) →
    line ≡ bare (Cells cells) → sum_by cell_size cells ≡ size →
    flat_map (cell_bytes homes at) cells ≡ bytes → bytes_from homes (at + size) rest ≡ after
    → bytes_from homes at (line ∷ rest) ≡ bytes ++ after
bytes_step homes at size cells line rest bytes after is sized here there =
    ap (λ (l : Line). bytes_from homes at (l ∷ rest)) is
    ∙ (λ i. here i ++ bytes_from homes (at + sized i) rest)
    ∙ ap (λ (b : List ℕ). bytes ++ b) there

all_bytes : (homes : Homes) (at : ℕ) (all : List Instruction) → at + length (encodings all) ≤ 65536 →
    All IsInstruction all →
    bytes_from homes at (map line_of (said_at at all)) ≡ encodings all
all_bytes homes at [] within are = refl
all_bytes homes at (i ∷ is) within are =
    let here = All-head IsInstruction i is are in
    let sum : length (encodings (i ∷ is)) ≡ length (encoding i) + length (encodings is) =
    length-append (encoding i) (encodings is) in
    bytes_step homes at (length (encoding i)) (cells_at at i) (line_of (statement_line at i))
    (map line_of (said_at (at + length (encoding i)) is)) (encoding i) (encodings is)
    (read_at at i here) (size_at at i here) (bytes_at homes at i here (omega (arith, sum)))
    (all_bytes homes (at + length (encoding i)) is (omega (arith, sum)) (All-tail IsInstruction i is are))

-- what lines mean where none is refused
assembled_by : (all : List Line) (origin : ℕ) (bytes : List ℕ) → origin_of all ≡ origin →
    first_refused (homes_of all) false origin 0 all ≡ None → bytes_from (homes_of all) origin all ≡ bytes →
    assembly_in all ≡ Ok (record { origin = origin; bytes = bytes })
unfolding assembly_in
assembled_by all origin bytes first none are =
    ap (λ o. answer_of (first_refused (homes_of all) false o 0 all) o (bytes_from (homes_of all) o all)) first
    ∙ (λ i. answer_of (none i) origin (are i))

-- the line of an `.org`
abbrev org_line : ℕ → List ℕ
org_line origin = (codes ".org $" ++ hex4 origin) ++ 10 ∷ []

org_statement : (n : ℕ) → n < 65536 → statement_of (codes ".org $" ++ hex4 n) ≡ Origin n
unfolding statement_of said_by directive_of hex4 hex2
org_statement n h = ap origin_in (value_is (hex4 n) n (hex4_read n h))

org_plain : (n : ℕ) → list_all is_plain (codes ".org $" ++ hex4 n) ≡ true
org_plain n = plain-append (codes ".org $") (hex4 n) refl (hex4_plain n)

org_read : (n : ℕ) → n < 65536 → line_of (org_line n) ≡ bare (Origin n)
org_read n h =
    line_is 46 (codes "org $" ++ hex4 n) (Origin n) (org_plain n) refl
    (shown-append (codes ".org $") (hex4 n) (omega (arith, hex4_length n)) (hex4_shown n)) (org_statement n h)

-- an `.org` before lines
org_none : (homes : Homes) (n : ℕ) (rest : List Line) → n < 65536 → first_refused homes true n 1 rest ≡ None
    → first_refused homes false n 0 (bare (Origin n) ∷ rest) ≡ None
unfolding fault_of
org_none homes n rest h after =
    let fits : ltb 65535 n ≡ false = le-ltb 65535 n (omega arith) in
    let same : n + 0 ≡ n = omega arith in
    let within : ltb 65536 n ≡ false = le-ltb 65536 n (omega arith) in
    rw (fits, same, within) after

org_first : (n : ℕ) (rest : List Line) → n < 65536 → origin_of (bare (Origin n) ∷ rest) ≡ n
org_first n rest h = let fits : ltb 65535 n ≡ false = le-ltb 65535 n (omega arith) in rw fits

org_bytes : (homes : Homes) (n : ℕ) (rest : List Line)
    → bytes_from homes n (bare (Origin n) ∷ rest) ≡ bytes_from homes n rest
org_bytes homes n rest = let same : n + 0 ≡ n = omega arith in ap (λ m. bytes_from homes m rest) same

-- the lines of the source that a listing makes
source_lines : EndsLines → PartsLines → (origin : ℕ) (all : List Instruction) →
    origin + length (encodings all) ≤ 65536 → All IsInstruction all →
    lines (source_of origin (listing_of origin (encodings all))) ≡ org_line origin ∷ said_at origin all
source_lines ends parts origin all within are =
    ap (λ (text : List ℕ). lines (org_line origin ++ text)) (statements_are ends parts origin all within are)
    ∙ parts (org_line origin ∷ said_at origin all)
    (are_lines (org_line origin ∷ said_at origin all) (
      ends (codes ".org $" ++ hex4 origin)
          (plain_is (codes ".org $" ++ hex4 origin) (org_plain origin)),
      all_ended ends origin all are,
    ))

pub again : EndsLines → PartsLines → (origin : ℕ) (all : List Instruction) → origin < 65536 →
    origin + length (encodings all) ≤ 65536 → All IsInstruction all →
    assembly_of (source_of origin (listing_of origin (encodings all)))
    ≡ Ok (record { origin = origin; bytes = encodings all })
unfolding assembly_of read_lines
again ends parts origin all small within are =
    ap (λ (ls : List (List ℕ)). assembly_in (map line_of ls)) (source_lines ends parts origin all within are)
    ∙ ap (λ (l : Line). assembly_in (l ∷ map line_of (said_at origin all))) (org_read origin small)
    ∙ assembled_by (bare (Origin origin) ∷ map line_of (said_at origin all)) origin (encodings all)
    (org_first origin (map line_of (said_at origin all)) small)
    (org_none (homes_of (bare (Origin origin) ∷ map line_of (said_at origin all))) origin
    (map line_of (said_at origin all)) small
    (none_refused (homes_of (bare (Origin origin) ∷ map line_of (said_at origin all))) true origin 1 all within are))
    (org_bytes (homes_of (bare (Origin origin) ∷ map line_of (said_at origin all))) origin
    (map line_of (said_at origin all))
    ∙ all_bytes (homes_of (bare (Origin origin) ∷ map line_of (said_at origin all))) origin all within are)

-- an instruction of an opcode, with the operand bytes $80 and $90 as far as its mode takes them
abbrev example : ℕ → Instruction
example k = record { opcode = k; operand = behind (length_of (row_of k).mode) 128 144 }

example_whole : (mode : Mode) → suc (length (behind (length_of mode) 128 144)) ≡ length_of mode
example_whole Implied = refl
example_whole Accumulator = refl
example_whole Immediate = refl
example_whole Zp = refl
example_whole ZpX = refl
example_whole ZpY = refl
example_whole Abs = refl
example_whole AbsX = refl
example_whole AbsY = refl
example_whole IndX = refl
example_whole IndY = refl
example_whole Indirect = refl
example_whole Relative = refl

example_short : (mode shorter : Mode) → short_mode mode ≡ Some shorter
    → 0 < slice_index (behind (length_of mode) 128 144) 1
example_short Implied shorter e = absurd (cc)
example_short Accumulator shorter e = absurd (cc)
example_short Immediate shorter e = absurd (cc)
example_short Zp shorter e = absurd (cc)
example_short ZpX shorter e = absurd (cc)
example_short ZpY shorter e = absurd (cc)
example_short Abs shorter e = omega arith
example_short AbsX shorter e = omega arith
example_short AbsY shorter e = omega arith
example_short IndX shorter e = absurd (cc)
example_short IndY shorter e = absurd (cc)
example_short Indirect shorter e = absurd (cc)
example_short Relative shorter e = absurd (cc)

example_bytes : (n : ℕ) → All (λ b. b < 256) (take n (128 ∷ 144 ∷ []))
example_bytes n =
    All-take (λ b. b < 256) n (128 ∷ 144 ∷ [])
    (All-cons (λ b. b < 256) 128 (144 ∷ []) (omega arith)
    (All-cons (λ b. b < 256) 144 [] (omega arith) (All-nil (λ b. b < 256))))

example_is : (k : ℕ) → k < 256 → is_official k ≡ true → IsInstruction (example k)
example_is k h official = record {
  byte = h;
  official = official;
  whole = example_whole (row_of k).mode;
  bytes = example_bytes (length_of (row_of k).mode - 1);
  short = λ code within op beside. example_short (row_of k).mode (row_of code).mode beside;
}

-- a source of one listed line
one_line : EndsLines → PartsLines → (i : Instruction) → IsInstruction i
    → assembly_of (statement_line 32768 i) ≡ Ok (record { origin = 32768; bytes = encoding i })
unfolding assembly_of read_lines
one_line ends parts i is =
    let whole = append-nil (statement_line 32768 i) in
    let line = read_at 32768 i is in
    let all : List Line = bare (Cells (cells_at 32768 i)) ∷ [] in
    ap (λ (text : List ℕ). assembly_in (map line_of (lines text))) (sym whole)
    ∙ ap (λ (ls : List (List ℕ)). assembly_in (map line_of ls))
    (parts (statement_line 32768 i ∷ []) (are_lines (statement_line 32768 i ∷ []) (said_ended ends 32768 i is, tt)))
    ∙ ap (λ (l : Line). assembly_in (l ∷ [])) line
    ∙ assembled_by all 32768 (encoding i) refl
    (refused_step (homes_of all) false 32768 0 (length (encoding i)) (cells_at 32768 i)
    (bare (Cells (cells_at 32768 i))) [] refl (size_at 32768 i is)
    (line_fits (homes_of all) false 32768 0 (cells_at 32768 i)
    (cells_fit (row_of i.opcode).mode (homes_of all) i.opcode 32768 (low_of i) (high_of i) (omega arith)
    (byte_at i.operand 0 is.bytes) (byte_at i.operand 1 is.bytes))
    (omega (
      arith,
      size_is (row_of i.opcode).mode i.opcode 32768 (low_of i) (high_of i),
      length_small (row_of i.opcode).mode,
    )))
    refl)
    (bytes_step (homes_of all) 32768 (length (encoding i)) (cells_at 32768 i) (bare (Cells (cells_at 32768 i))) []
    (encoding i) [] refl (size_at 32768 i is) (bytes_at (homes_of all) 32768 i is (omega arith)) refl
    ∙ append-nil (encoding i))

pub one_again : EndsLines → PartsLines → (i : Instruction) → IsInstruction i →
    assembly_of (drop 14 (listing_of 32768 (encoding i))) ≡ Ok (record { origin = 32768; bytes = encoding i })
one_again ends parts i is =
    ap (λ (text : List ℕ). assembly_of text)
    (one_listed 32768 i is (omega (arith, is.whole, length_small (row_of i.opcode).mode)))
    ∙ one_line ends parts i is

pub reached : EndsLines → PartsLines → (k : ℕ) → k < 256 → is_official k ≡ true →
    (line : List ℕ) × (operand : List ℕ) × (assembly_of line ≡ Ok (record { origin = 32768; bytes = k ∷ operand }))
    × (drop 14 (listing_of 32768 (k ∷ operand)) ≡ line)
reached ends parts k h official =
    let is = example_is k h official in (
      statement_line 32768 (example k),
      (example k).operand,
      one_line ends parts (example k) is,
      one_listed 32768 (example k) is (omega (arith, is.whole, length_small (row_of k).mode)),
    )
