-- The accesses of each instruction, one per cycle, as data
-- (NESdev Wiki, "6502 cpu.txt", the section on instruction timing).
use Rattle.std.specs.Prelude.{ℕ, zero, suc, ◌+◌, ◌*◌, Bool, true, false, List, [], ◌∷◌, ◌++◌}
use Rattle.nj_isa.specs.declared.operations.Op.{Op}
use Rattle.nj_isa.specs.declared.operations.Op.TheVariants.{Bpl, Bmi, Bvc, Bvs, Bcc, Bcs, Bne, Beq, Jmp, Jsr, Rts, Rti, Brk, Pha, Php, Pla, Plp, Jam}
use Rattle.nj_isa.specs.declared.modes.Mode.{Mode}
use Rattle.nj_isa.specs.declared.modes.Mode.TheVariants.{Implied, Accumulator, Immediate, Zp, ZpX, ZpY, Abs, AbsX, AbsY, IndX, IndY, Indirect, Relative}
use Rattle.nj_isa.specs.declared.modes.Kind.{Kind}
use Rattle.nj_isa.specs.declared.modes.Kind.TheVariants.{Read, Write, Modify}
use Rattle.nj_isa.specs.declared.modes.Index.{Index}
use Rattle.nj_isa.specs.declared.modes.Index.TheVariants.{X, Y}
use Rattle.nj_isa.specs.declared.classes.Class.{Class}
use Rattle.nj_isa.specs.declared.classes.Class.TheVariants.{ByMode, Branches, Jumps, JumpsIndirect, Calls, Returns, ReturnsFromInterrupt, Breaks, PushesA, PushesFlags, PullsA, PullsFlags, Jams}

-- where an access goes
pub data Place : Type 0 where
  -- PC
  AtPc : Place
  -- $0100 + S
  AtStack : Place
  -- the zero page at the low byte
  InZero : Place
  -- the zero page at low byte + index, mod 256
  InZeroBy : Index → Place
  -- the gathered word
  AtWord : Place
  -- the gathered word + index, mod 65,536
  AtWordBy : Index → Place
  -- the gathered word + index without the carry into the high byte
  AtUncarried : Index → Place
  -- the pointer within its page
  AtPointer : Place
  -- one after the pointer within the same page
  AfterPointer : Place
  -- the page of PC at the branch target's low byte
  AtBranchLow : Place
  -- a fixed address
  At : ℕ → Place

-- what is done with the byte: a read keeps it somewhere, a write says which byte is put
pub data Transfer : Type 0 where
  Ignores : Transfer
  ToLow : Transfer
  ToHigh : Transfer
  ToPointer : Transfer
  ToPage : Transfer
  ToData : Transfer
  ToFlags : Transfer
  -- the register that the operation stores
  PutsStored : Transfer
  -- the byte that was read, unchanged
  PutsData : Transfer
  -- the byte that the operation makes of it
  PutsChanged : Transfer
  PutsPcHigh : Transfer
  PutsPcLow : Transfer
  -- the flag byte, with this value of its bit 4
  PutsFlags : Bool → Transfer

-- what the processor does besides, before the next access
pub data Move : Type 0 where
  Stay : Move
  -- PC + 1
  PcUp : Move
  -- S + 1, S - 1
  StackUp : Move
  StackDown : Move
  -- PC becomes the gathered word, or the address after it
  Jump : Move
  JumpPast : Move
  -- X is added to the pointer within its page
  PointerUp : Move
  -- I is set
  Mask : Move

-- when an access is made: always, where an index carries into the high byte,
-- where the branch is taken, or where it is taken to another page
pub data When : Type 0 where
  Always : When
  Carried : Index → When
  Taken : When
  TakenAway : When

-- one cycle
pub record Access : Type 0 where
  pub when_ : When
  pub place : Place
  pub transfer : Transfer
  pub then_ : Move

-- an access that is always made
abbrev pub access : Place → Transfer → Move → Access
access place transfer then_ = record { when_ = Always; place = place; transfer = transfer; then_ = then_ }

-- an access that is made on a condition
abbrev pub only : When → Place → Transfer → Move → Access
only when_ place transfer then_ = record { when_ = when_; place = place; transfer = transfer; then_ = then_ }

-- the next byte of the instruction
abbrev pub fetch : Transfer → Access
fetch transfer = access AtPc transfer PcUp

-- a byte onto the stack
abbrev pub push : Transfer → Access
push transfer = access AtStack transfer StackDown

-- the end of an instruction at a place: read, written, or read and written twice
abbrev pub end_on : Place → Kind → List Access
end_on place Read = access place ToData Stay ∷ []
end_on place Write = access place PutsStored Stay ∷ []
end_on place Modify = access place ToData Stay ∷ access place PutsData Stay ∷ access place PutsChanged Stay ∷ []

-- the same by an index: first a read without the carry, which is the last one where a read needs no carry
abbrev pub end_indexed : Index → Kind → List Access
end_indexed i Read = access (AtUncarried i) ToData Stay ∷ only (Carried i) (AtWordBy i) ToData Stay ∷ []
end_indexed i Write = access (AtUncarried i) Ignores Stay ∷ end_on (AtWordBy i) Write
end_indexed i Modify = access (AtUncarried i) Ignores Stay ∷ end_on (AtWordBy i) Modify

-- the accesses after the opcode's, by mode and kind
abbrev pub by_mode : Mode → Kind → List Access
by_mode Implied kind = access AtPc Ignores Stay ∷ []
by_mode Accumulator kind = access AtPc Ignores Stay ∷ []
by_mode Immediate Read = fetch ToData ∷ []
by_mode Immediate Write = []
by_mode Immediate Modify = []
by_mode Zp kind = fetch ToLow ∷ end_on InZero kind
by_mode ZpX kind = fetch ToLow ∷ access InZero Ignores Stay ∷ end_on (InZeroBy X) kind
by_mode ZpY kind = fetch ToLow ∷ access InZero Ignores Stay ∷ end_on (InZeroBy Y) kind
by_mode Abs kind = fetch ToLow ∷ fetch ToHigh ∷ end_on AtWord kind
by_mode AbsX kind = fetch ToLow ∷ fetch ToHigh ∷ end_indexed X kind
by_mode AbsY kind = fetch ToLow ∷ fetch ToHigh ∷ end_indexed Y kind
by_mode IndX kind =
    fetch ToPointer ∷ access AtPointer Ignores PointerUp ∷ access AtPointer ToLow Stay ∷ access AfterPointer ToHigh Stay ∷ end_on AtWord kind
by_mode IndY kind =
    fetch ToPointer ∷ access AtPointer ToLow Stay ∷ access AfterPointer ToHigh Stay ∷ end_indexed Y kind
by_mode Indirect kind = []
by_mode Relative kind = []

-- a branch: two, three or four cycles
abbrev pub branch : List Access
branch = fetch ToData ∷ only Taken AtPc Ignores Stay ∷ only TakenAway AtBranchLow Ignores Stay ∷ []

-- JMP to an absolute address
abbrev pub jump : List Access
jump = fetch ToLow ∷ access AtPc ToHigh Jump ∷ []

-- JMP through a pointer: its second byte is read within the same page
abbrev pub jump_indirect : List Access
jump_indirect = fetch ToPointer ∷ access AtPc ToPage Stay ∷ access AtPointer ToLow Stay ∷ access AfterPointer ToHigh Jump ∷ []

-- JSR: PC is pushed while it stands at the operand's second byte
abbrev pub call : List Access
call = fetch ToLow ∷ access AtStack Ignores Stay ∷ push PutsPcHigh ∷ push PutsPcLow ∷ access AtPc ToHigh Jump ∷ []

-- RTS: the address that was pulled is read, and PC goes behind it
abbrev pub return : List Access
return =
    access AtPc Ignores Stay ∷ access AtStack Ignores StackUp ∷ access AtStack ToLow StackUp ∷ access AtStack ToHigh Stay ∷ access AtWord Ignores JumpPast ∷ []

-- RTI: the flags first, then PC
abbrev pub return_from_interrupt : List Access
return_from_interrupt =
    access AtPc Ignores Stay ∷ access AtStack Ignores StackUp ∷ access AtStack ToFlags StackUp ∷ access AtStack ToLow StackUp ∷ access AtStack ToHigh Jump ∷ []

-- three bytes are pushed, and PC comes from a vector; bit 4 tells a BRK from an interrupt
abbrev pub enter : Bool → ℕ → List Access
enter bit vector =
    push PutsPcHigh ∷ push PutsPcLow ∷ push (PutsFlags bit) ∷ access (At vector) ToLow Mask ∷ access (At (vector + 1)) ToHigh Jump ∷ []

-- BRK: the byte behind the opcode is read and skipped
abbrev pub break : List Access
break = fetch Ignores ∷ enter true 0xFFFE

-- an NMI is entered: two reads of PC, and then as BRK does, from its own vector
abbrev pub nmi_entry : List Access
nmi_entry = access AtPc Ignores Stay ∷ access AtPc Ignores Stay ∷ enter false 0xFFFA

-- PHA and PHP
abbrev pub push_register : Transfer → List Access
push_register transfer = access AtPc Ignores Stay ∷ push transfer ∷ []

-- PLA and PLP
abbrev pub pull_register : Transfer → List Access
pull_register transfer = access AtPc Ignores Stay ∷ access AtStack Ignores StackUp ∷ access AtStack transfer Stay ∷ []

-- the class of an operation: branches, jumps, calls, returns, breaks, pushes, pulls and jams have lists of their own
unfoldable pub class_of : Op → Mode → Class
class_of Bpl mode = Branches
class_of Bmi mode = Branches
class_of Bvc mode = Branches
class_of Bvs mode = Branches
class_of Bcc mode = Branches
class_of Bcs mode = Branches
class_of Bne mode = Branches
class_of Beq mode = Branches
class_of Jmp Indirect = JumpsIndirect
class_of Jmp _ = Jumps
class_of Jsr mode = Calls
class_of Rts mode = Returns
class_of Rti mode = ReturnsFromInterrupt
class_of Brk mode = Breaks
class_of Pha mode = PushesA
class_of Php mode = PushesFlags
class_of Pla mode = PullsA
class_of Plp mode = PullsFlags
class_of Jam mode = Jams
class_of _ mode = ByMode

-- the accesses after the opcode's
abbrev pub accesses : Class → Mode → Kind → List Access
accesses ByMode mode kind = by_mode mode kind
accesses Branches mode kind = branch
accesses Jumps mode kind = jump
accesses JumpsIndirect mode kind = jump_indirect
accesses Calls mode kind = call
accesses Returns mode kind = return
accesses ReturnsFromInterrupt mode kind = return_from_interrupt
accesses Breaks mode kind = break
accesses PushesA mode kind = push_register PutsStored
accesses PushesFlags mode kind = push_register (PutsFlags true)
accesses PullsA mode kind = pull_register ToData
accesses PullsFlags mode kind = pull_register ToFlags
accesses Jams mode kind = []

-- the first n bytes of a page are read one by one, each then written to $2004 (NESdev Wiki, "DMA", OAM DMA)
unfoldable pub copies : ℕ → ℕ → List Access
copies page zero = []
copies page (suc n) = copies page n ++ access (At (page * 256 + n)) ToData Stay ∷ access (At 0x2004) PutsData Stay ∷ []
