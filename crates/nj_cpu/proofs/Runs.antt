-- A unit that is the instruction of a known opcode.
use Rattle.std.proofs.Common.{◌≡◌, ◌≢◌, ℕ, Bool, true, false, cond, Option, Some, None, refl, ap, ◌∙◌}
use Rattle.nj_isa.specs.Bus.{Acts}
use Rattle.nj_isa.specs.Table.{row_of}
use Rattle.nj_cpu.specs.declared.state.Cpu.{Cpu}
use Rattle.nj_cpu.specs.declared.state.Note.{Note}
use Rattle.nj_cpu.specs.declared.state.Note.TheVariants.{None as NoNote, Late, Due}
use Rattle.nj_cpu.specs.declared.state.UnitEnd.TheVariants.{Jammed}
use Rattle.nj_cpu.specs.Walk.{Walk, begun, read_at}
use Rattle.nj_cpu.specs.Unit.{no_rise, rest_of, instruction, on_note, on_page, active, noted, unit_of}
use Rattle.nj_cpu.specs.Laws.{Runs}

-- behind the opcode's access
abbrev pub opcode_read : {Held : Type 0} → Acts Held → Cpu → Held → Walk Held
opcode_read acts cpu held = read_at acts cpu.pc (begun cpu held no_rise)

chosen : {A : Type 0} (b : Bool) (x y : A) → b ≡ false → cond b x y ≡ y
chosen false x y e = refl
chosen true x y e = cc

without_copy : {Held : Type 0} (acts : Acts Held) (cpu : Cpu) (held : Held) (page : Option ℕ) → page ≡ None
    → on_page page acts cpu held ≡ on_note cpu.note acts cpu held
without_copy acts cpu held None e = refl
without_copy acts cpu held (Some p) e = cc

without_entry : {Held : Type 0} (acts : Acts Held) (cpu : Cpu) (held : Held) (note : Note) → note ≢ Due
    → on_note note acts cpu held ≡ instruction acts cpu held
without_entry acts cpu held NoNote h = refl
without_entry acts cpu held Late h = refl
without_entry acts cpu held Due h = absurd (h refl)

by_opcode : {Held : Type 0} (acts : Acts Held) (cpu : Cpu) (held : Held) (opcode : ℕ) → acts.byte held cpu.pc ≡ opcode
    → instruction acts cpu held ≡ rest_of acts (row_of opcode) (opcode_read acts cpu held)
unfolding instruction
by_opcode acts cpu held opcode e = ap (λ n. rest_of acts (row_of n) (opcode_read acts cpu held)) e

-- it is the rest of the instruction of that opcode
pub unit-runs : {Held : Type 0} (acts : Acts Held) (cpu : Cpu) (held : Held) (opcode : ℕ) → Runs acts cpu held opcode
    → unit_of acts cpu held ≡ noted cpu.note (rest_of acts (row_of opcode) (opcode_read acts cpu held))
unfolding unit_of active
unit-runs acts cpu held opcode r =
    chosen cpu.jammed (record { cpu = cpu; held = held; end_ = Jammed }) (noted cpu.note (active acts cpu held))
    r.not_jammed
    ∙ ap (noted cpu.note) (without_copy acts cpu held (acts.page held) r.no_copy
    ∙ without_entry acts cpu held cpu.note r.no_entry ∙ by_opcode acts cpu held opcode r.at_pc)
