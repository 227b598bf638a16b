-- What one unit of the processor was, as it is seen from before it.
use Rattle.std.specs.Prelude.{ℕ, ◌+◌, ◌-◌, ◌^◌, min, Bool, true, false, if◌then◌else◌, List, [], ◌∷◌, ◌++◌, length, take, Option, Some, None}
use Rattle.nj_isa.specs.Bus.{Acts}
use Rattle.nj_isa.specs.Table.{row_of}
use Rattle.nj_isa.specs.Accesses.{Place, AtPc, Transfer, ToLow, ToHigh, ToPointer, ToPage, ToData, ToFlags, Access, accesses, class_of}
use Rattle.nj_isa.specs.declared.operations.Op.{Op}
use Rattle.nj_isa.specs.declared.classes.Class.{Class}
use Rattle.nj_isa.specs.declared.classes.Class.TheVariants.{Jams}
use Rattle.nj_isa.specs.declared.table.OpRow.{OpRow}
use Rattle.nj_cpu.specs.declared.state.Cpu.{Cpu}
use Rattle.nj_cpu.specs.declared.state.Note.{Note}
use Rattle.nj_cpu.specs.declared.state.Note.TheVariants.{Due}
use Rattle.nj_cpu.specs.Walk.{Walk, begun, read_at, step}
use Rattle.nj_cpu.specs.Unit.{no_rise, opened}
use Rattle.nj_machine.specs.State.{State}
use Rattle.nj_machine.specs.Wires.{Wired, wires}
use Rattle.nj_machine.specs.declared.FrameEnd.{FrameEnd}
use Rattle.nj_machine.specs.declared.FrameEnd.TheVariants.{Picture as AtPicture, Jammed as AtJam}
use Rattle.nj_machine.specs.declared.seeing.UnitKind.{UnitKind}
use Rattle.nj_machine.specs.declared.seeing.UnitKind.TheVariants.{Nothing, Copy, Nmi, Jam, Code}
use Rattle.nj_machine.specs.declared.seeing.UnitSeen.{UnitSeen}
use Rattle.nj_machine.specs.declared.seeing.UnitStep.{UnitStep}
use Rattle.nj_machine.specs.declared.seeing.UnitStep.TheVariants.{More, Picture, Jammed}

-- how a step that answers this ended the frame, if it did
abbrev pub end_told : UnitStep → Option FrameEnd
end_told More = None
end_told Picture = Some AtPicture
end_told Jammed = Some AtJam

-- the count of steps after a step that answers this: one more where it ended the frame, up to the last number that a
-- u64 has
abbrev pub counted : UnitStep → ℕ → ℕ
counted More steps = steps
counted _ steps = min (steps + 1) (2 ^ 64 - 1)

-- an access keeps the byte that it reads
abbrev pub keeps_byte : Transfer → Bool
keeps_byte ToLow = true
keeps_byte ToHigh = true
keeps_byte ToPointer = true
keeps_byte ToPage = true
keeps_byte ToData = true
keeps_byte ToFlags = true
keeps_byte _ = false

-- an access fetches a byte of the operand: it is at PC, and its byte is kept
abbrev pub fetches : Place → Transfer → Bool
fetches AtPc transfer = keeps_byte transfer
fetches _ transfer = false

-- a byte before others, where there is one
abbrev pub before_if : Bool → ℕ → List ℕ → List ℕ
before_if true byte bytes = byte ∷ bytes
before_if false byte bytes = bytes

-- the bytes of the operand: the values of the accesses that fetch them, each at its own time
abbrev pub operand_bytes : {Held : Type 0} → Acts Held → Op → List Access → Walk Held → List ℕ
operand_bytes acts op [] w = []
operand_bytes acts op (a ∷ rest) w =
    before_if (fetches a.place a.transfer) (acts.byte w.held w.cpu.pc) (operand_bytes acts op rest (step acts op a w))

-- the operand's bytes of an instruction of this row whose opcode was read
unfoldable pub operand_of : {Held : Type 0} → Acts Held → OpRow → Walk Held → List ℕ
operand_of acts row w =
    let class =
    class_of row.op row.mode in operand_bytes acts row.op (accesses class row.mode row.kind) (opened class w)

-- the bytes of an instruction that begins here: its opcode and the operand's
unfoldable pub code_bytes : {Held : Type 0} → Acts Held → Cpu → Held → List ℕ
code_bytes acts cpu held =
    let opcode =
    acts.byte held cpu.pc in opcode ∷ operand_of acts (row_of opcode) (read_at acts cpu.pc (begun cpu held no_rise))

-- an instruction is a jam or other code, by its class
abbrev pub kind_by : Class → UnitKind
kind_by Jams = Jam
kind_by _ = Code

abbrev pub kind_in : OpRow → UnitKind
kind_in row = kind_by (class_of row.op row.mode)

-- what a unit is that is no instruction: nothing where the processor is jammed, else a sprite copy where one was asked
-- for, else an NMI entry where the note is Due
abbrev pub awaited_by : Bool → Option ℕ → Note → Option UnitKind
awaited_by true _ _ = Some Nothing
awaited_by false (Some page) _ = Some Copy
awaited_by false None Due = Some Nmi
awaited_by false None _ = None

unfoldable pub awaited : {Held : Type 0} → Acts Held → Cpu → Held → Option UnitKind
awaited acts cpu held = awaited_by cpu.jammed (acts.page held) cpu.note

-- the kind of the next unit, from that and the row of its opcode
abbrev pub kind_or : Option UnitKind → OpRow → UnitKind
kind_or (Some kind) row = kind
kind_or None row = kind_in row

-- a unit that is an instruction has bytes, and no other has any
abbrev pub bytes_or : Option UnitKind → List ℕ → List ℕ
bytes_or (Some kind) bytes = []
bytes_or None bytes = bytes

-- three bytes, zeros behind those that there are
abbrev pub in_three : List ℕ → List ℕ
in_three bytes = take 3 (bytes ++ (0 ∷ 0 ∷ 0 ∷ []))

-- the next unit of a processor, as it is seen: its kind and bytes, and the registers and the place of the next dot
-- before it
unfoldable pub seen_in : Cpu → Wired → UnitSeen
seen_in cpu w =
    let bytes = bytes_or (awaited wires cpu w) (code_bytes wires cpu w) in
    record {
      kind = kind_or (awaited wires cpu w) (row_of (wires.byte w cpu.pc));
      bytes = in_three bytes;
      len = length bytes;
      cpu = cpu;
      line = w.cells.screen.position.line;
      dot = w.cells.screen.position.dot;
    }

-- the next unit in a frame with this pad
abbrev pub seen_of : ℕ → State → UnitSeen
seen_of pad s = seen_in s.cpu (record { cells = s.cells; pad = pad })
