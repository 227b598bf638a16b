-- One access after another: the fold over a list of accesses (NESdev Wiki, "6502 cpu.txt").
use Rattle.std.specs.Prelude.{◌≡◌, ℕ, ◌+◌, ◌*◌, ◌/◌, ◌%◌, Bool, true, not, ◌&&◌, ◌||◌, ◌==◌, nat_le, List, [], ◌∷◌, if◌then◌else◌}
use Rattle.nj_alu.specs.FlagByte.{flag_byte, flags_of_byte}
use Rattle.nj_isa.specs.Bus.{Acts}
use Rattle.nj_isa.specs.Accesses.{Place, AtPc, AtStack, InZero, InZeroBy, AtWord, AtWordBy, AtUncarried, AtPointer, AfterPointer, AtBranchLow, At, Transfer, Ignores, ToLow, ToHigh, ToPointer, ToPage, ToData, ToFlags, PutsStored, PutsData, PutsChanged, PutsPcHigh, PutsPcLow, PutsFlags, Move, Stay, PcUp, StackUp, StackDown, Jump, JumpPast, PointerUp, Mask, When, Always, Carried, Taken, TakenAway, Access}
use Rattle.nj_isa.specs.declared.operations.Op.{Op}
use Rattle.nj_isa.specs.declared.modes.Index.{Index}
use Rattle.nj_isa.specs.declared.modes.Index.TheVariants.{X, Y}
use Rattle.nj_cpu.specs.declared.state.Cpu.{Cpu}
use Rattle.nj_cpu.specs.Effects.{stored_by, changed_by, is_taken}

-- where the NMI line rose within a unit: before its last cycle so far, and in that cycle
pub record Rises : Type 0 where
  pub before : Bool
  pub last : Bool

-- the NMI line as it is watched: where it rose within a unit, and its level after the last access
pub record Watched : Type 0 where
  pub edges : Rises
  pub line : Bool

-- an instruction on its way: the processor, what the bus holds, where the NMI line rose, and the bytes gathered so far
pub record Walk (Held : Type 0) : Type 0 where
  pub cpu : Cpu
  pub held : Held
  pub rises : Rises
  pub low : ℕ
  pub high : ℕ
  pub pointer : ℕ
  pub page : ℕ
  pub data_ : ℕ

-- nothing gathered yet
abbrev pub begun : {Held : Type 0} → Cpu → Held → Rises → Walk Held
begun cpu held rises =
    record { cpu = cpu; held = held; rises = rises; low = 0; high = 0; pointer = 0; page = 0; data_ = 0 }

-- a word of two bytes
abbrev pub word : ℕ → ℕ → ℕ
word high low = high * 256 + low

-- the value of an index register
abbrev pub index_of : Index → Cpu → ℕ
index_of X cpu = cpu.x
index_of Y cpu = cpu.y

-- where a branch goes: its byte is -128 to 127, counted mod 65,536
abbrev pub target_of : ℕ → ℕ → ℕ
target_of pc offset = if nat_le 128 offset then (pc + 65280 + offset) % 65536 else (pc + offset) % 65536

-- the address of an access
abbrev pub address_of : {Held : Type 0} → Place → Walk Held → ℕ
address_of AtPc w = w.cpu.pc
address_of AtStack w = 256 + w.cpu.s
address_of InZero w = w.low
address_of (InZeroBy i) w = (w.low + index_of i w.cpu) % 256
address_of AtWord w = word w.high w.low
address_of (AtWordBy i) w = (word w.high w.low + index_of i w.cpu) % 65536
address_of (AtUncarried i) w = word w.high ((w.low + index_of i w.cpu) % 256)
address_of AtPointer w = word w.page w.pointer
address_of AfterPointer w = word w.page ((w.pointer + 1) % 256)
address_of AtBranchLow w = word (w.cpu.pc / 256) (target_of w.cpu.pc w.data_ % 256)
address_of (At n) w = n

-- whether an access is made
abbrev pub is_made : {Held : Type 0} → When → Op → Walk Held → Bool
is_made Always op w = true
is_made (Carried i) op w = nat_le 256 (w.low + index_of i w.cpu)
is_made Taken op w = is_taken op w.cpu.flags
is_made TakenAway op w =
    is_taken op w.cpu.flags && not (target_of w.cpu.pc w.data_ / 256 == w.cpu.pc / 256)

-- the NMI line is looked at after an access: it rose where it is high now and was low after the access before
abbrev pub risen : Bool → Bool → Rises → Rises
risen was is rises = record { before = rises.before || rises.last; last = is && not was }

-- the same with the level
abbrev pub watched : Bool → Bool → Watched → Watched
watched was is w = record { edges = risen was is w.edges; line = is }

-- the cycle is over, and the bus holds this
abbrev pub seen : {Held : Type 0} → Acts Held → Held → Walk Held → Walk Held
seen acts held w =
    record w {
      cpu = record w.cpu { line = acts.line held };
      held = held;
      rises = risen w.cpu.line (acts.line held) w.rises;
    }

-- a cycle that reads
abbrev pub read_at : {Held : Type 0} → Acts Held → ℕ → Walk Held → Walk Held
read_at acts at w = seen acts (acts.after_read w.held at) w

-- a cycle that writes
abbrev pub write_at : {Held : Type 0} → Acts Held → ℕ → ℕ → Walk Held → Walk Held
write_at acts at value w = seen acts (acts.after_write w.held at value) w

-- the access at an address, with what is done with its byte
abbrev pub transferred : {Held : Type 0} → Acts Held → Op → Transfer → ℕ → Walk Held → Walk Held
transferred acts op Ignores at w = read_at acts at w
transferred acts op ToLow at w = record (read_at acts at w) { low = acts.byte w.held at }
transferred acts op ToHigh at w = record (read_at acts at w) { high = acts.byte w.held at }
transferred acts op ToPointer at w = record (read_at acts at w) { pointer = acts.byte w.held at }
transferred acts op ToPage at w = record (read_at acts at w) { page = acts.byte w.held at }
transferred acts op ToData at w = record (read_at acts at w) { data_ = acts.byte w.held at }
transferred acts op ToFlags at w =
    let v = read_at acts at w in record v { cpu = record v.cpu { flags = flags_of_byte (acts.byte w.held at) } }
transferred acts op PutsStored at w = write_at acts at (stored_by op w.cpu.a w.cpu.x w.cpu.y) w
transferred acts op PutsData at w = write_at acts at w.data_ w
transferred acts op PutsChanged at w = write_at acts at (changed_by op w.cpu.flags.c w.data_) w
transferred acts op PutsPcHigh at w = write_at acts at (w.cpu.pc / 256) w
transferred acts op PutsPcLow at w = write_at acts at (w.cpu.pc % 256) w
transferred acts op (PutsFlags bit) at w = write_at acts at (flag_byte w.cpu.flags bit) w

-- the processor steps on before the next access
abbrev pub moved : {Held : Type 0} → Move → Walk Held → Walk Held
moved Stay w = w
moved PcUp w = record w { cpu = record w.cpu { pc = (w.cpu.pc + 1) % 65536 } }
moved StackUp w = record w { cpu = record w.cpu { s = (w.cpu.s + 1) % 256 } }
moved StackDown w = record w { cpu = record w.cpu { s = (w.cpu.s + 255) % 256 } }
moved Jump w = record w { cpu = record w.cpu { pc = word w.high w.low } }
moved JumpPast w = record w { cpu = record w.cpu { pc = (word w.high w.low + 1) % 65536 } }
moved PointerUp w = record w { pointer = (w.pointer + w.cpu.x) % 256 }
moved Mask w = record w { cpu = record w.cpu { flags = record w.cpu.flags { i = true } } }

-- one access, where it is made
abbrev pub step : {Held : Type 0} → Acts Held → Op → Access → Walk Held → Walk Held
step acts op a w =
    if is_made a.when_ op w then moved a.then_ (transferred acts op a.transfer (address_of a.place w) w) else w

-- the accesses of a list in order
abbrev pub walk : {Held : Type 0} → Acts Held → Op → List Access → Walk Held → Walk Held
walk acts op [] w = w
walk acts op (a ∷ rest) w = walk acts op rest (step acts op a w)

-- the processor, the bus and what is watched of the NMI line are those that a walk ends with
pub record EndsAs {Held : Type 0} (w : Walk Held) (c : Cpu) (h : Held) (r : Watched) : Type 0 where
  pub cpu : c ≡ w.cpu
  pub held : h ≡ w.held
  pub rises : r ≡ record { edges = w.rises; line = w.cpu.line }
