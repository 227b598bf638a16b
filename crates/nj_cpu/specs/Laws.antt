-- Laws of whole instructions, in the words of the published manuals.
use Rattle.std.specs.Prelude.{◌≡◌, ◌≢◌, ℕ, ◌+◌, ◌/◌, ◌%◌, ◌<◌, ◌≤◌, Bool, true, false, not, ◌&&◌, ◌==◌, nat_le, None}
use Rattle.nj_isa.specs.Bus.{Acts}
use Rattle.nj_isa.specs.Table.{row_of}
use Rattle.nj_isa.specs.Names.{length_of}
use Rattle.nj_isa.specs.Accesses.{class_of}
use Rattle.nj_isa.specs.Timing.{cycles_of, penalty_of}
use Rattle.nj_isa.specs.declared.modes.Mode.{Mode}
use Rattle.nj_isa.specs.declared.modes.Mode.TheVariants.{AbsX, AbsY, IndY}
use Rattle.nj_isa.specs.declared.classes.Class.{Class}
use Rattle.nj_isa.specs.declared.classes.Class.TheVariants.{ByMode, Branches, Jumps, JumpsIndirect, Calls, Returns, ReturnsFromInterrupt, Breaks, PushesA, PushesFlags, PullsA, PullsFlags, Jams}
use Rattle.nj_cpu.specs.declared.state.Cpu.{Cpu}
use Rattle.nj_cpu.specs.declared.state.Note.TheVariants.{Due}
use Rattle.nj_cpu.specs.Effects.{is_taken, with_result}
use Rattle.nj_cpu.specs.Walk.{target_of, word}

-- the next unit is the instruction of this opcode: the processor runs, and neither a sprite copy nor an NMI comes first
pub record Runs {Held : Type 0} (acts : Acts Held) (cpu : Cpu) (held : Held) (opcode : ℕ) : Type 0 where
  pub not_jammed : cpu.jammed ≡ false
  pub no_copy : acts.page held ≡ None
  pub no_entry : cpu.note ≢ Due
  pub at_pc : acts.byte held cpu.pc ≡ opcode

-- a count that rises by one with each cycle
pub record CountsCycles {Held : Type 0} (acts : Acts Held) (count : Held → ℕ) : Type 0 where
  pub reads : (h : Held) (at : ℕ) → count (acts.after_read h at) ≡ count h + 1
  pub writes : (h : Held) (at value : ℕ) → count (acts.after_write h at value) ≡ count h + 1

-- the address after the next one
abbrev pub next_pc : ℕ → ℕ
next_pc pc = (pc + 1) % 65536

-- the byte behind the opcode, as the second cycle reads it
abbrev pub operand : {Held : Type 0} → Acts Held → Cpu → Held → ℕ
operand acts cpu held = acts.byte (acts.after_read held cpu.pc) (next_pc cpu.pc)

-- the low byte at the pointer in zero page, as the third cycle reads it
abbrev pub pointed : {Held : Type 0} → Acts Held → Cpu → Held → ℕ
pointed acts cpu held =
    acts.byte (acts.after_read (acts.after_read held cpu.pc) (next_pc cpu.pc)) (word 0 (operand acts cpu held))

-- whether the index carries the address onto another page, by mode
abbrev pub crosses_in : {Held : Type 0} → Mode → Acts Held → Cpu → Held → Bool
crosses_in AbsX acts cpu held = nat_le 256 (operand acts cpu held + cpu.x)
crosses_in AbsY acts cpu held = nat_le 256 (operand acts cpu held + cpu.y)
crosses_in IndY acts cpu held = nat_le 256 (pointed acts cpu held + cpu.y)
crosses_in _ acts cpu held = false

-- whether an instruction of this opcode crosses a page
abbrev pub crosses : {Held : Type 0} → Acts Held → Cpu → Held → ℕ → Bool
crosses acts cpu held opcode = crosses_in (row_of opcode).mode acts cpu held

-- whether a branch of this opcode is taken
abbrev pub branches : Cpu → ℕ → Bool
branches cpu opcode = is_taken (row_of opcode).op cpu.flags

-- whether its target lies on another page than the next instruction
abbrev pub leaves_page : {Held : Type 0} → Acts Held → Cpu → Held → Bool
leaves_page acts cpu held =
    let behind = next_pc (next_pc cpu.pc) in
    not (target_of behind (operand acts cpu held) / 256 == behind / 256)

-- the published number of cycles of an instruction here, with its penalties
unfoldable pub published_cycles : {Held : Type 0} → Acts Held → Cpu → Held → ℕ → ℕ
published_cycles acts cpu held opcode =
    cycles_of opcode
    + penalty_of opcode (crosses acts cpu held opcode) (branches cpu opcode)
    (branches cpu opcode && leaves_page acts cpu held)

-- an instruction that goes on behind itself: no jump, call, return, break or jam
abbrev pub goes_on_in : Class → Bool
goes_on_in ByMode = true
goes_on_in Branches = true
goes_on_in PushesA = true
goes_on_in PushesFlags = true
goes_on_in PullsA = true
goes_on_in PullsFlags = true
goes_on_in Jumps = false
goes_on_in JumpsIndirect = false
goes_on_in Calls = false
goes_on_in Returns = false
goes_on_in ReturnsFromInterrupt = false
goes_on_in Breaks = false
goes_on_in Jams = false

-- whether the instruction of this opcode does
unfoldable pub goes_on : ℕ → Bool
goes_on opcode = goes_on_in (class_of (row_of opcode).op (row_of opcode).mode)

-- the length of an instruction in bytes
unfoldable pub bytes_of : ℕ → ℕ
bytes_of opcode = length_of (row_of opcode).mode

-- an address of the stack
pub record InStack (at : ℕ) : Type 0 where
  pub from : 256 ≤ at
  pub to : at < 512

-- the bus answers at each stack address the byte last written there
pub record RemembersStack {Held : Type 0} (acts : Acts Held) : Type 0 where
  pub written : (h : Held) (at value : ℕ) → InStack at → value < 256
      → acts.byte (acts.after_write h at value) at ≡ value
  pub elsewhere : (h : Held) (at other value : ℕ) → InStack at → at ≢ other
      → acts.byte (acts.after_write h other value) at ≡ acts.byte h at
  pub read : (h : Held) (at other : ℕ) → InStack at → acts.byte (acts.after_read h other) at ≡ acts.byte h at

-- A is the byte, and Z and N are of it
pub record IsPulled (old new : Cpu) (value : ℕ) : Type 0 where
  pub a : new.a ≡ value
  pub flags : new.flags ≡ with_result value old.flags
