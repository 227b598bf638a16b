-- A Late note may be Due at once: it is after the unit, whatever the unit does (this project's own).
use Rattle.nj_cpu.specs.declared.state.Cpu.{Cpu}
use Rattle.nj_cpu.specs.declared.state.Note.{Note}
use Rattle.nj_cpu.specs.declared.state.Note.TheVariants.{None as NoNote, Late, Due}
use Rattle.nj_cpu.specs.Walk.{Walk}

-- the note of a unit that began Late, set before its end
abbrev pub ripe : Note → Note
ripe NoNote = NoNote
ripe Late = Due
ripe Due = Due

-- the processor with this note
abbrev pub with_note : Note → Cpu → Cpu
with_note note cpu = record cpu { note = note }

-- an instruction on its way, with this note
abbrev pub noting : {Held : Type 0} → Note → Walk Held → Walk Held
noting note w = record w { cpu = with_note note w.cpu }

-- the same with the note that it has, which is Due where it was Late
abbrev pub ripened : {Held : Type 0} → Walk Held → Walk Held
ripened w = noting (ripe w.cpu.note) w
