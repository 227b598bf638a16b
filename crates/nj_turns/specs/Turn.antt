-- Turns of a loop, and the buses on which they are as on the dry one (this project's own).
use Rattle.std.specs.Prelude.{◌≡◌, ℕ, zero, suc, ◌<◌, ◌≤◌, Bool, false, List, Option, Some, None}
use Rattle.nj_banked.specs.Banks.{Banks}
use Rattle.nj_isa.specs.Bus.{Acts}
use Rattle.nj_cpu.specs.declared.state.Cpu.{Cpu}
use Rattle.nj_cpu.specs.declared.state.UnitEnd.TheVariants.{Done}
use Rattle.nj_cpu.specs.Unit.{unit_of}
use Rattle.nj_turns.specs.Dry.{Dry, told_byte, dry}

-- the processor and its bus are these
pub record Stands {Held : Type 0} (cpu : Cpu) (held : Held) (last : Cpu) (kept : Held) : Type 0 where
  pub cpu_is : last ≡ cpu
  pub held_is : kept ≡ held

-- one unit more, which does not jam, after what led up to it; what the bus holds after it is in order
pub record OneMore {Held : Type 0} (acts : Acts Held) (Before : Cpu → Held → Type 0) (In : Held
    → Type 0) (last : Cpu) (kept : Held) : Type 0 where
  pub cpu : Cpu
  pub held : Held
  pub before : Before cpu held
  pub unit : unit_of acts cpu held ≡ record { cpu = last; held = kept; end_ = Done }
  pub stays : In kept

-- n units one after another, none of which jams, lead from a processor and its bus to others
abbrev pub Leads : {Held : Type 0} → Acts Held → (Held → Type 0) → ℕ → Cpu → Held → Cpu → Held → Type 0
Leads acts In zero cpu held last kept = Stands cpu held last kept
Leads acts In (suc n) cpu held last kept = OneMore acts (Leads acts In n cpu held) In last kept

-- the dry bus was asked for nothing but what it tells
pub record IsDry (h : Dry) : Type 0 where
  pub kept : h.lost ≡ false

-- a turn of so many cycles: units that lead from the processor to itself, with the same byte left on the data bus,
-- and that did nothing but read memory, or the status
pub record IsTurn (cpu : Cpu) (held : Dry) (cycles : ℕ) : Type 0 where
  pub units : ℕ
  pub run : Leads dry IsDry units cpu held cpu (record held { cycles = cycles })

-- a bus that rests for so many cycles while nothing but memory, or the status, is read: its state after c cycles, byte
-- b the last one on the data bus, is place c b; these are told, the NMI line stands, and no sprite copy waits
pub record Rests {Held : Type 0} (acts : Acts Held) (place : ℕ → ℕ
    → Held) (ram : List ℕ) (board : Banks) (status : Option ℕ) (line : Bool) (limit : ℕ) : Type 0 where
  pub byte : (c last at byte : ℕ) → c < limit → told_byte ram board status at ≡ Some byte
      → acts.byte (place c last) at ≡ byte
  pub after : (c last at byte : ℕ) → c < limit → told_byte ram board status at ≡ Some byte →
      acts.after_read (place c last) at ≡ place (suc c) byte
  pub line_is : (c last : ℕ) → c ≤ limit → acts.line (place c last) ≡ line
  pub no_page : (c last : ℕ) → c ≤ limit → acts.page (place c last) ≡ None

-- a state of such a bus within its rest
pub record IsPlace {Held : Type 0} (place : ℕ → ℕ → Held) (limit : ℕ) (h : Held) : Type 0 where
  pub after_cycles : ℕ
  pub last : ℕ
  pub within : after_cycles ≤ limit
  pub at_ : h ≡ place after_cycles last

-- units that lead from a processor to itself while a resting bus goes on by so many cycles
pub record Turns {Held : Type 0} (acts : Acts Held) (place : ℕ → ℕ
    → Held) (limit : ℕ) (cpu : Cpu) (last cycles : ℕ) : Type 0 where
  pub units : ℕ
  pub run : Leads acts (IsPlace place limit) units cpu (place 0 last) cpu (place cycles last)
