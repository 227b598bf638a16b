-- What a source means: first the labels' values, then its bytes or its first refusal by line and kind. Our own.
use Rattle.std.specs.Prelude.{ℕ, String, ◌+◌, ◌-◌, ◌/◌, ◌%◌, Bool, true, false, ◌&&◌, ◌||◌, not, nat_lt, List, [], ◌∷◌, ◌++◌, sum_by, if◌then◌else◌, Option, Some, None, is_some, unwrap_or, Result, Ok, Err}
use Rattle.std.specs.HashMap.{HashMap, get_by_text}
use Rattle.std.specs.List.{list_any, flat_map}
use Rattle.std.specs.Option.{option_map, option_or, option_map_or}
use Rattle.std.specs.Str.{bytes_eq}
use Rattle.nj_asm_lines.specs.declared.syntax.Value.{Value}
use Rattle.nj_asm_lines.specs.declared.syntax.Value.TheVariants.{Literal, Label, Low, High}
use Rattle.nj_asm_lines.specs.declared.syntax.Cell.{Cell}
use Rattle.nj_asm_lines.specs.declared.syntax.Cell.TheVariants.{Opcode, Byte, Word, Branch}
use Rattle.nj_asm_lines.specs.declared.syntax.Fault.{Fault}
use Rattle.nj_asm_lines.specs.declared.syntax.Fault.TheVariants.{Syntax, UnknownOp, NoMode, Range, UnknownLabel, TwiceLabel, TooLong}
use Rattle.nj_asm_lines.specs.declared.syntax.Statement.{Statement}
use Rattle.nj_asm_lines.specs.declared.syntax.Statement.TheVariants.{Blank, Origin, Cells, Refused}
use Rattle.nj_asm_lines.specs.declared.syntax.Line.{Line}
use Rattle.nj_asm.specs.declared.labels.Home.{Home}
use Rattle.nj_asm.specs.declared.assembling.Assembled.{Assembled}
use Rattle.nj_asm.specs.declared.refusals.AsmRefused.{AsmRefused}
use Rattle.nj_asm.specs.declared.refusals.AsmRefused.TheVariants as refusal
use Rattle.nj_asm_lines.specs.Grammar.{read_lines}

-- the bytes that a cell takes
abbrev pub cell_size : Cell → ℕ
cell_size (Opcode code) = 1
cell_size (Byte value) = 1
cell_size (Word value) = 2
cell_size (Branch value) = 1

-- the bytes that a statement takes, none where it could not be read
abbrev pub size_of : Statement → ℕ
size_of Blank = 0
size_of (Origin n) = 0
size_of (Cells cells) = sum_by cell_size cells
size_of (Refused fault) = 0

-- the address behind a statement
abbrev pub next_place : ℕ → Statement → ℕ
next_place place statement = (place + size_of statement) % 65536

-- a line has this label
abbrev pub is_labelled : List ℕ → Option (List ℕ) → Bool
is_labelled name None = false
is_labelled name (Some label) = bytes_eq label name

-- the first line that has a label, and its address
abbrev pub home_in : List ℕ → ℕ → ℕ → List Line → Option Home
home_in name place index [] = None
home_in name place index (l ∷ ls) =
    if is_labelled name l.label then Some (record { line = index; place = place })
    else home_in name (next_place place l.statement) (index + 1) ls

-- the origin that a first statement gives: an `.org` at most $FFFF, else $8000
abbrev pub origin_by : Statement → ℕ → ℕ
origin_by Blank next = next
origin_by (Origin n) next = if nat_lt 65535 n then 32768 else n
origin_by (Cells cells) next = 32768
origin_by (Refused fault) next = 32768

-- the origin of a source
abbrev pub origin_of : List Line → ℕ
origin_of [] = 32768
origin_of (l ∷ ls) = origin_by l.statement (origin_of ls)

-- where labels stand
abbrev pub Homes : Type 0
Homes = List ℕ → Option Home

-- the homes that a map holds
abbrev pub homes : {Y S : Type 0} → HashMap (String Y) Home S → Homes
homes table = λ name. get_by_text table name

-- the number that a value is, if its label is there
abbrev pub number_in : Homes → Value → Option ℕ
number_in homes (Literal n) = Some n
number_in homes (Label name) = option_map (λ h. h.place) (homes name)
number_in homes (Low name) = option_map (λ h. h.place % 256) (homes name)
number_in homes (High name) = option_map (λ h. h.place / 256) (homes name)

-- the offset of a branch that begins here, mod 65,536 (NMOS 6502 relative addressing)
abbrev pub offset_to : ℕ → ℕ → ℕ
offset_to at target = (target % 65536 + 65536 - (at + 2) % 65536) % 65536

-- no offset from -128 to 127 goes there
abbrev pub is_far : ℕ → ℕ → Bool
is_far at target = nat_lt 127 (offset_to at target) && nat_lt (offset_to at target) 65408

-- the number that stands in a cell
abbrev pub number_of_cell : Homes → Cell → Option ℕ
number_of_cell homes (Opcode code) = Some code
number_of_cell homes (Byte value) = number_in homes value
number_of_cell homes (Word value) = number_in homes value
number_of_cell homes (Branch value) = number_in homes value

-- a number is out of its cell's range
abbrev pub is_beyond : ℕ → Cell → ℕ → Bool
is_beyond at (Opcode code) n = false
is_beyond at (Byte value) n = nat_lt 255 n
is_beyond at (Word value) n = nat_lt 65535 n
is_beyond at (Branch value) n = nat_lt 65535 n || is_far at n

-- a cell has a known number that is out of its range
abbrev pub is_out : Homes → ℕ → Cell → Bool
is_out homes at cell = option_map_or (is_beyond at cell) (number_of_cell homes cell) false

-- a cell has a label that stands nowhere
abbrev pub is_unknown : Homes → Cell → Bool
is_unknown homes cell = not (is_some (number_of_cell homes cell))

-- what refuses the cells
unfoldable pub cells_fault : Homes → ℕ → List Cell → Option Fault
cells_fault homes at cells =
    if list_any (is_out homes at) cells then Some Range
    else if list_any (is_unknown homes) cells then Some UnknownLabel
    else None

-- what refuses a statement by itself
abbrev pub statement_fault : Homes → ℕ → Statement → Option Fault
statement_fault homes at Blank = None
statement_fault homes at (Origin n) = if nat_lt 65535 n then Some Range else None
statement_fault homes at (Cells cells) = cells_fault homes at cells
statement_fault homes at (Refused fault) = Some fault

-- an `.org` that is not the first statement
abbrev pub is_late : Bool → Statement → Bool
is_late begun Blank = false
is_late begun (Origin n) = begun
is_late begun (Cells cells) = false
is_late begun (Refused fault) = false

-- a line says something
abbrev pub is_said : Statement → Bool
is_said Blank = false
is_said (Origin n) = true
is_said (Cells cells) = true
is_said (Refused fault) = true

-- the label stands on an earlier line
abbrev pub is_twice : Homes → ℕ → Option (List ℕ) → Bool
is_twice homes index None = false
is_twice homes index (Some label) = option_map_or (λ h. nat_lt h.line index) (homes label) false

-- what refuses a line, the first by kind: at an address, whether a statement stands before, by the line's number from 0
unfoldable pub fault_of : Homes → Bool → ℕ → ℕ → Line → Option Fault
fault_of homes begun at index l =
    if is_late begun l.statement then Some Syntax
    else option_or (statement_fault homes at l.statement)
    (if is_twice homes index l.label then Some TwiceLabel
    else if nat_lt 65536 (at + size_of l.statement) then Some TooLong
    else None)

-- a refusal by kind and line, counted from 1
abbrev pub refused : Fault → ℕ → AsmRefused
refused Syntax line = refusal.Syntax line
refused UnknownOp line = refusal.UnknownOp line
refused NoMode line = refusal.NoMode line
refused Range line = refusal.Range line
refused UnknownLabel line = refusal.UnknownLabel line
refused TwiceLabel line = refusal.TwiceLabel line
refused TooLong line = refusal.TooLong line

-- this refusal, or the next
abbrev pub refused_or : Option Fault → ℕ → Option AsmRefused → Option AsmRefused
refused_or None line next = next
refused_or (Some fault) line next = Some (refused fault line)

-- the first refused line
abbrev pub first_refused : Homes → Bool → ℕ → ℕ → List Line → Option AsmRefused
first_refused homes begun at index [] = None
first_refused homes begun at index (l ∷ ls) =
    refused_or (fault_of homes begun at index l) (index + 1)
    (first_refused homes (begun || is_said l.statement) (at + size_of l.statement) (index + 1) ls)

-- the number that stands in a cell, 0 where its label is unknown
abbrev pub number : Homes → Value → ℕ
number homes value = unwrap_or (number_in homes value) 0

-- the bytes of a cell; an address stands low byte first
abbrev pub cell_bytes : Homes → ℕ → Cell → List ℕ
cell_bytes homes at (Opcode code) = code ∷ []
cell_bytes homes at (Byte value) = number homes value % 256 ∷ []
cell_bytes homes at (Word value) = number homes value % 256 ∷ number homes value / 256 % 256 ∷ []
cell_bytes homes at (Branch value) = offset_to at (number homes value) % 256 ∷ []

-- the bytes of a statement
abbrev pub bytes_of : Homes → ℕ → Statement → List ℕ
bytes_of homes at Blank = []
bytes_of homes at (Origin n) = []
bytes_of homes at (Cells cells) = flat_map (cell_bytes homes at) cells
bytes_of homes at (Refused fault) = []

-- the bytes of lines
abbrev pub bytes_from : Homes → ℕ → List Line → List ℕ
bytes_from homes at [] = []
bytes_from homes at (l ∷ ls) = bytes_of homes at l.statement ++ bytes_from homes (at + size_of l.statement) ls

-- where the labels of the lines stand
unfoldable pub homes_of : List Line → Homes
homes_of all = λ name. home_in name (origin_of all) 0 all

-- the refusal, or the bytes from the origin on
abbrev pub answer_of : Option AsmRefused → ℕ → List ℕ → Result Assembled AsmRefused
answer_of None origin bytes = Ok (record { origin = origin; bytes = bytes })
answer_of (Some refusal) origin bytes = Err refusal

-- what lines mean
unfoldable pub assembly_in : List Line → Result Assembled AsmRefused
assembly_in all =
    answer_of (first_refused (homes_of all) false (origin_of all) 0 all) (origin_of all)
    (bytes_from (homes_of all) (origin_of all) all)

-- what a source means
unfoldable pub assembly_of : List ℕ → Result Assembled AsmRefused
assembly_of source = assembly_in (read_lines source)
