-- One unit of the processor: nothing, a sprite copy, an NMI entry or an instruction
-- (the order and the note are this project's own; NESdev Wiki, "DMA", "NMI", and "6502 cpu.txt").
use Rattle.std.specs.Prelude.{ℕ, Bool, true, false, List, [], ◌∷◌, ◌++◌, Option, Some, None, if◌then◌else◌}
use Rattle.nj_isa.specs.Bus.{Acts}
use Rattle.nj_isa.specs.Table.{row_of}
use Rattle.nj_isa.specs.Accesses.{Access, AtPc, Ignores, Stay, PcUp, access, accesses, class_of, nmi_entry, copies}
use Rattle.nj_isa.specs.declared.operations.Op.{Op}
use Rattle.nj_isa.specs.declared.operations.Op.TheVariants.{Nop}
use Rattle.nj_isa.specs.declared.modes.Mode.{Mode}
use Rattle.nj_isa.specs.declared.modes.Kind.{Kind}
use Rattle.nj_isa.specs.declared.modes.Kind.TheVariants.{Read, Write, Modify}
use Rattle.nj_isa.specs.declared.classes.Class.{Class}
use Rattle.nj_isa.specs.declared.classes.Class.TheVariants.{ByMode, Branches, PullsA, Jams}
use Rattle.nj_isa.specs.declared.table.OpRow.{OpRow}
use Rattle.nj_cpu.specs.declared.state.Cpu.{Cpu}
use Rattle.nj_cpu.specs.declared.state.Note.{Note}
use Rattle.nj_cpu.specs.declared.state.Note.TheVariants.{None as NoNote, Late, Due}
use Rattle.nj_cpu.specs.declared.state.UnitEnd.{UnitEnd}
use Rattle.nj_cpu.specs.declared.state.UnitEnd.TheVariants.{Done, Jammed}
use Rattle.nj_cpu.specs.Effects.{is_taken, in_a, done}
use Rattle.nj_cpu.specs.Walk.{Rises, Walk, begun, target_of, read_at, moved, walk}

-- at power-on S is $FD, I is set, and all else is clear (this project's own profile of NESdev Wiki, "CPU power up
-- state")
abbrev pub powered_on : ℕ → Cpu
powered_on pc =
    record {
      a = 0;
      x = 0;
      y = 0;
      s = 0xFD;
      pc = pc;
      flags = record { n = false; v = false; d = false; i = true; z = false; c = false };
      note = NoNote;
      line = false;
      jammed = false;
    }

-- the line has not risen yet
abbrev pub no_rise : Rises
no_rise = record { before = false; last = false }

-- PC stands behind the opcode, except where the processor jams
abbrev pub opened : {Held : Type 0} → Class → Walk Held → Walk Held
opened Jams w = w
opened _ w = moved PcUp w

-- a store leaves the registers as they are
abbrev pub finished : Kind → Op → Mode → ℕ → Cpu → Cpu
finished Read op mode value cpu = done op mode value cpu
finished Write op mode value cpu = cpu
finished Modify op mode value cpu = done op mode value cpu

-- a taken branch goes to its target
abbrev pub branched : Bool → ℕ → Cpu → Cpu
branched taken offset cpu = if taken then record cpu { pc = target_of cpu.pc offset } else cpu

-- what is left to do after the last access
abbrev pub settled : {Held : Type 0} → Class → OpRow → Walk Held → Cpu
settled ByMode row w = finished row.kind row.op row.mode w.data_ w.cpu
settled Branches row w = branched (is_taken row.op w.cpu.flags) w.data_ w.cpu
settled PullsA row w = in_a w.data_ w.cpu
settled Jams row w = record w.cpu { jammed = true }
settled _ row w = w.cpu

-- the rest of an instruction once its row is known
unfoldable pub rest_by : {Held : Type 0} → Acts Held → Class → OpRow → Walk Held → Walk Held
rest_by acts class row w =
    let v = walk acts row.op (accesses class row.mode row.kind) (opened class w) in
    record v { cpu = settled class row v }

-- the rest of an instruction, by the class of its row
unfoldable pub rest_of : {Held : Type 0} → Acts Held → OpRow → Walk Held → Walk Held
rest_of acts row w = rest_by acts (class_of row.op row.mode) row w

-- an instruction reads its opcode at PC, and goes on by its row
unfoldable pub instruction : {Held : Type 0} → Acts Held → Cpu → Held → Walk Held
instruction acts cpu held =
    rest_of acts (row_of (acts.byte held cpu.pc)) (read_at acts cpu.pc (begun cpu held no_rise))

-- an NMI entry: no note is left, and PC comes from $FFFA
unfoldable pub entered : {Held : Type 0} → Acts Held → Cpu → Held → Walk Held
entered acts cpu held = walk acts Nop nmi_entry (begun (record cpu { note = NoNote }) held no_rise)

-- a copy waits one cycle, or two where its first cycle's number is odd
abbrev pub waits : Bool → List Access
waits false = access AtPc Ignores Stay ∷ []
waits true = access AtPc Ignores Stay ∷ access AtPc Ignores Stay ∷ []

-- a sprite copy: 256 bytes of a page, 513 or 514 cycles
unfoldable pub copied : {Held : Type 0} → Acts Held → ℕ → Cpu → Held → Walk Held
copied acts page cpu held = walk acts Nop (waits (acts.odd held) ++ copies page 256) (begun cpu held no_rise)

-- Late where the line rose in the last cycle and the note is not Due
abbrev pub late_or : Note → Bool → Note
late_or Due last = Due
late_or NoNote last = if last then Late else NoNote
late_or Late last = Late

-- Due where the line rose before the last cycle
abbrev pub later_note : Note → Rises → Note
later_note now rises = if rises.before then Due else late_or now rises.last

-- the note of an NMI at a unit's end: Due where the line rose before the last cycle or the note was Late,
-- Late where it rose in the last cycle, else as it is
unfoldable pub note_after : Note → Note → Rises → Note
note_after Late now rises = Due
note_after NoNote now rises = later_note now rises
note_after Due now rises = later_note now rises

-- what comes next where no sprite copy was asked for
abbrev pub on_note : {Held : Type 0} → Note → Acts Held → Cpu → Held → Walk Held
on_note Due acts cpu held = entered acts cpu held
on_note NoNote acts cpu held = instruction acts cpu held
on_note Late acts cpu held = instruction acts cpu held

-- a sprite copy where one was asked for, else an NMI entry where the note is Due, else an instruction
abbrev pub on_page : {Held : Type 0} → Option ℕ → Acts Held → Cpu → Held → Walk Held
on_page (Some page) acts cpu held = copied acts page cpu (acts.after_take held)
on_page None acts cpu held = on_note cpu.note acts cpu held

-- a unit of a processor that is not jammed, but for the note
unfoldable pub active : {Held : Type 0} → Acts Held → Cpu → Held → Walk Held
active acts cpu held = on_page (acts.page held) acts cpu held

-- how a unit ends
pub record Unit (Held : Type 0) : Type 0 where
  pub cpu : Cpu
  pub held : Held
  pub end_ : UnitEnd

-- a unit ends as jammed exactly where the processor is
abbrev pub end_of : Bool → UnitEnd
end_of true = Jammed
end_of false = Done

-- a unit is over: the note is set by what was seen of the NMI line
abbrev pub noted : {Held : Type 0} → Note → Walk Held → Unit Held
noted began w =
    record {
      cpu = record w.cpu { note = note_after began w.cpu.note w.rises };
      held = w.held;
      end_ = end_of w.cpu.jammed;
    }

-- one unit: nothing where the processor is jammed
unfoldable pub unit_of : {Held : Type 0} → Acts Held → Cpu → Held → Unit Held
unit_of acts cpu held =
    if cpu.jammed then record { cpu = cpu; held = held; end_ = Jammed } else noted cpu.note (active acts cpu held)
