-- The grammar of a source, line by line. Mnemonics, modes and opcodes are the official ones of the NMOS 6502 (MOS
-- Technology, MCS6500 Family Programming Manual); the spelling of the rest is our own, after the usual assemblers.
use Rattle.std.specs.Prelude.{ℕ, zero, suc, ◌+◌, ◌==◌, Bool, true, false, ◌&&◌, not, nat_lt, List, [], ◌∷◌, length, take, drop, map, codes, min, if◌then◌else◌, Option, Some, None, is_some}
use Rattle.std.specs.Char.{is_digit, to_ascii_lowercase}
use Rattle.std.specs.List.{list_all, position_or_len, slice_split}
use Rattle.std.specs.Option.{option_map, option_or}
use Rattle.std.specs.Str.{bytes_eq}
use Rattle.std.specs.Str.Lossy.{utf8_valid_len}
use Rattle.std.specs.Str.Parse.{digits_value}
use Rattle.nj_lines.specs.Lines.{lines, without}
use Rattle.nj_isa.specs.declared.table.OpRow.{OpRow}
use Rattle.nj_isa.specs.declared.modes.Mode.{Mode}
use Rattle.nj_isa.specs.declared.modes.Mode.TheVariants.{Implied, Accumulator, Immediate, Zp, ZpX, ZpY, Abs, AbsX, AbsY, IndX, IndY, Indirect, Relative}
use Rattle.nj_isa.specs.Names.{name_of}
use Rattle.nj_isa.specs.Table.{row_of, is_official}
use Rattle.nj_asm_lines.specs.declared.syntax.Value.{Value}
use Rattle.nj_asm_lines.specs.declared.syntax.Value.TheVariants.{Literal, Label, Low, High}
use Rattle.nj_asm_lines.specs.declared.syntax.Form.{Form}
use Rattle.nj_asm_lines.specs.declared.syntax.Form.TheVariants.{Hash, Plain, CommaX, CommaY, ParenCommaX, ParenCommaY, Paren}
use Rattle.nj_asm_lines.specs.declared.syntax.Operand.{Operand}
use Rattle.nj_asm_lines.specs.declared.syntax.Operand.TheVariants.{Nothing, LetterA, Valued}
use Rattle.nj_asm_lines.specs.declared.syntax.Cell.{Cell}
use Rattle.nj_asm_lines.specs.declared.syntax.Cell.TheVariants.{Opcode, Byte, Word, Branch}
use Rattle.nj_asm_lines.specs.declared.syntax.Fault.TheVariants.{Syntax, UnknownOp, NoMode}
use Rattle.nj_asm_lines.specs.declared.syntax.Statement.{Statement}
use Rattle.nj_asm_lines.specs.declared.syntax.Statement.TheVariants.{Blank, Origin, Cells, Refused}
use Rattle.nj_asm_lines.specs.declared.syntax.Line.{Line}
use Rattle.nj_asm_lines.specs.Words.{is_blank, is_name, without_start, without_end, length_before, between}

-- one digit or more of the radix
abbrev pub is_numeral : ℕ → List ℕ → Bool
is_numeral radix text = nat_lt 0 (length text) && list_all (λ digit. is_digit digit radix) text

-- a literal, its number clipped at 65,536, which is above every address
unfoldable pub literal_of : ℕ → List ℕ → Option Value
literal_of radix text = if is_numeral radix text then Some (Literal (min 65536 (digits_value radix text))) else None

-- a name, if the text is one
abbrev pub name_in : List ℕ → Option (List ℕ)
name_in text = if is_name text then Some text else None

-- n: `$` and hex digits, `<` or `>` and a label, decimal digits, a label
unfoldable pub value_of : List ℕ → Option Value
value_of [] = None
value_of (first ∷ rest) =
    if first == 36 then literal_of 16 rest
    else if first == 60 then option_map Low (name_in rest)
    else if first == 62 then option_map High (name_in rest)
    else option_or (literal_of 10 (first ∷ rest)) (option_map Label (name_in (first ∷ rest)))

-- the form where there is an inner text, else the next
abbrev pub shaped : Form → Option (List ℕ) → Form × List ℕ → Form × List ℕ
shaped form None next = next
shaped form (Some inner) next = (form, inner)

-- the form of an operand by the signs around its value: `#n`, `(n,X)`, `(n),Y`, `(n)`, `n,X`, `n,Y`, `n`
unfoldable pub shape_of : List ℕ → Form × List ℕ
shape_of text =
    shaped Hash (between (codes "#") [] text)
    (shaped ParenCommaX (between (codes "(") (codes ",X)") text)
    (shaped ParenCommaY (between (codes "(") (codes "),Y") text)
    (shaped Paren (between (codes "(") (codes ")") text)
    (shaped CommaX (between [] (codes ",X") text)
    (shaped CommaY (between [] (codes ",Y") text) (Plain, text))))))

-- the operand that the text spells; `A` alone is the accumulator
unfoldable pub operand_of : List ℕ → Option Operand
operand_of text =
    if length text == 0 then Some Nothing
    else if bytes_eq text (codes "A") then Some LetterA
    else option_map (Valued (shape_of text).0) (value_of (shape_of text).1)

-- a value that may stand in a zero-page mode: a literal below 256, or one byte of a label
abbrev pub is_narrow : Value → Bool
is_narrow (Literal n) = nat_lt n 256
is_narrow (Label name) = false
is_narrow (Low name) = true
is_narrow (High name) = true

-- the modes that a form may mean, the first to be taken first
abbrev pub modes_in : Form → Bool → List Mode
modes_in Hash narrow = Immediate ∷ []
modes_in Plain true = Relative ∷ Zp ∷ Abs ∷ []
modes_in Plain false = Relative ∷ Abs ∷ []
modes_in CommaX true = ZpX ∷ AbsX ∷ []
modes_in CommaX false = AbsX ∷ []
modes_in CommaY true = ZpY ∷ AbsY ∷ []
modes_in CommaY false = AbsY ∷ []
modes_in ParenCommaX narrow = IndX ∷ []
modes_in ParenCommaY narrow = IndY ∷ []
modes_in Paren narrow = Indirect ∷ []

-- the same of an operand
abbrev pub modes_of : Operand → List Mode
modes_of Nothing = Implied ∷ []
modes_of LetterA = Accumulator ∷ []
modes_of (Valued form value) = modes_in form (is_narrow value)

-- a number for each mode, by which modes are compared
abbrev pub number_of : Mode → ℕ
number_of Implied = 0
number_of Accumulator = 1
number_of Immediate = 2
number_of Zp = 3
number_of ZpX = 4
number_of ZpY = 5
number_of Abs = 6
number_of AbsX = 7
number_of AbsY = 8
number_of IndX = 9
number_of IndY = 10
number_of Indirect = 11
number_of Relative = 12

-- whether a mode is the wanted one, if one is wanted
abbrev pub is_mode : Option Mode → Mode → Bool
is_mode None mode = true
is_mode (Some wanted) mode = number_of wanted == number_of mode

-- the word is the mnemonic, its letters in either case
abbrev pub is_spelled : List ℕ → List ℕ → Bool
is_spelled word mnemonic = bytes_eq (map to_ascii_lowercase word) (map to_ascii_lowercase mnemonic)

-- a row of the mnemonic and the mode
abbrev pub is_row : List ℕ → Option Mode → OpRow → Bool
is_row word wanted row = is_spelled word (name_of row.op) && is_mode wanted row.mode

-- an official opcode of the mnemonic in the mode
abbrev pub is_code : List ℕ → Option Mode → ℕ → Bool
is_code word wanted code = is_official code && is_row word wanted (row_of code)

-- the first of so many numbers from here on that passes
unfoldable pub first_code : (ℕ → Bool) → ℕ → ℕ → Option ℕ
first_code test at zero = None
first_code test at (suc left) = if test at then Some at else first_code test (at + 1) left

-- the official opcode of a mnemonic in a mode (NESdev Wiki, "6502 instructions")
unfoldable pub opcode_of : List ℕ → Option Mode → Option ℕ
opcode_of word wanted = first_code (is_code word wanted) 0 256

-- an official mnemonic: one that an official opcode has
unfoldable pub is_mnemonic : List ℕ → Bool
is_mnemonic word = is_some (opcode_of word None)

-- an opcode in its mode, or the next
abbrev pub coded_or : Mode → Option ℕ → Option (ℕ × Mode) → Option (ℕ × Mode)
coded_or mode None next = next
coded_or mode (Some code) next = Some (code, mode)

-- the opcode in the first of the modes that the mnemonic has
abbrev pub coded : List ℕ → List Mode → Option (ℕ × Mode)
coded word [] = None
coded word (mode ∷ modes) = coded_or mode (opcode_of word (Some mode)) (coded word modes)

-- what stands behind an opcode: a branch's offset, an address of two bytes, or one byte (NMOS 6502 addressing modes)
abbrev pub cell_in : Mode → Value → Cell
cell_in Relative value = Branch value
cell_in Abs value = Word value
cell_in AbsX value = Word value
cell_in AbsY value = Word value
cell_in Indirect value = Word value
cell_in _ value = Byte value

-- the cells behind an opcode
abbrev pub cells_in : Mode → Operand → List Cell
cells_in mode Nothing = []
cells_in mode LetterA = []
cells_in mode (Valued form value) = cell_in mode value ∷ []

-- the cells of an instruction
abbrev pub encoded : Option (ℕ × Mode) → Operand → Statement
encoded None operand = Refused NoMode
encoded (Some (code, mode)) operand = Cells (Opcode code ∷ cells_in mode operand)

-- an instruction: a malformed operand comes before an unknown mnemonic
unfoldable pub instruction_of : List ℕ → Option Operand → Statement
instruction_of word None = Refused Syntax
instruction_of word (Some operand) =
    if not (is_name word) then Refused Syntax
    else if not (is_mnemonic word) then Refused UnknownOp
    else encoded (coded word (modes_of operand)) operand

-- the cell of an item of `.word` or of `.byte`
abbrev pub item_in : Bool → Value → Cell
item_in true value = Word value
item_in false value = Byte value

-- an item; blanks may stand before it
abbrev pub item_of : Bool → List ℕ → Option Cell
item_of wide part = option_map (item_in wide) (value_of (without_start part))

-- the list, if each of its elements is there
abbrev pub all_some : List (Option Cell) → Option (List Cell)
all_some [] = Some []
all_some (None ∷ rest) = None
all_some (Some cell ∷ rest) = option_map (λ cells. cell ∷ cells) (all_some rest)

-- the items between commas
unfoldable pub items_of : Bool → List ℕ → Option (List Cell)
items_of wide text = all_some (map (item_of wide) (slice_split (λ b. b == 44) text))

-- the cells, if they are well formed
abbrev pub cells_or : Option (List Cell) → Statement
cells_or None = Refused Syntax
cells_or (Some cells) = Cells cells

-- the origin, which is a literal
abbrev pub origin_in : Option Value → Statement
origin_in None = Refused Syntax
origin_in (Some (Literal n)) = Origin n
origin_in (Some (Label name)) = Refused Syntax
origin_in (Some (Low name)) = Refused Syntax
origin_in (Some (High name)) = Refused Syntax

-- a directive: `.org`, `.byte` or `.word`
unfoldable pub directive_of : List ℕ → List ℕ → Statement
directive_of word rest =
    if bytes_eq word (codes ".org") then origin_in (value_of rest)
    else if bytes_eq word (codes ".byte") then cells_or (items_of false rest)
    else if bytes_eq word (codes ".word") then cells_or (items_of true rest)
    else Refused Syntax

-- a word and what stands behind it
unfoldable pub said_by : List ℕ → List ℕ → Statement
said_by word rest =
    if bytes_eq (take 1 word) (codes ".") then directive_of word rest else instruction_of word (operand_of rest)

-- the length of the first word
abbrev pub word_len : List ℕ → ℕ
word_len text = position_or_len is_blank text

-- the statement of a text without blanks around it
unfoldable pub statement_of : List ℕ → Statement
statement_of text =
    if length text == 0 then Blank
    else said_by (take (word_len text) text) (without_start (drop (word_len text) text))

-- the line without its end: one LF, and one CR before it
abbrev pub content : List ℕ → List ℕ
content line = without (10 ∷ []) (without (13 ∷ 10 ∷ []) line)

-- the line without its end, its comment and the blanks around
unfoldable pub code_of : List ℕ → List ℕ
code_of line = without_end (without_start (take (length_before 59 (content line)) (content line)))

-- a name and a colon stand first
abbrev pub has_label : List ℕ → Bool
has_label text = nat_lt (length_before 58 text) (length text) && is_name (take (length_before 58 text) text)

-- the label
unfoldable pub label_of : List ℕ → Option (List ℕ)
label_of text = if has_label text then Some (take (length_before 58 text) text) else None

-- the text of the statement
unfoldable pub statement_text : List ℕ → List ℕ
statement_text text = if has_label text then without_start (drop (length_before 58 text + 1) text) else text

-- the bytes are UTF-8 (RFC 3629)
abbrev pub is_text : List ℕ → Bool
is_text bytes = utf8_valid_len bytes == length bytes

-- the statement of a line, which is refused where the line is no UTF-8
unfoldable pub said_on : List ℕ → Statement
said_on line = if is_text line then statement_of (statement_text (code_of line)) else Refused Syntax

-- a line with its end
unfoldable pub line_of : List ℕ → Line
line_of line = record { label = label_of (code_of line); statement = said_on line }

-- the lines of a source as they are read
unfoldable pub read_lines : List ℕ → List Line
read_lines source = map line_of (lines source)
