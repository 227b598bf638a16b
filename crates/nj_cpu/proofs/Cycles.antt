-- An instruction takes its published cycles.
use Rattle.std.proofs.Common.{◌≡◌, ℕ, ◌+◌, ◌<◌, Bool, true, false, ◌&&◌, cond, List, [], ◌∷◌, refl, ap, ◌∙◌, arith}
use Rattle.nj_isa.specs.Bus.{Acts}
use Rattle.nj_isa.specs.Table.{row_of}
use Rattle.nj_isa.specs.Accesses.{Transfer, Ignores, ToLow, ToHigh, ToPointer, ToPage, ToData, ToFlags, PutsStored, PutsData, PutsChanged, PutsPcHigh, PutsPcLow, PutsFlags, TakenAway, Access, fetch, accesses, class_of}
use Rattle.nj_isa.specs.Timing.{one_if, count_made, accesses_of, cycles_of, penalty_of}
use Rattle.nj_isa.specs.declared.operations.Op.{Op}
use Rattle.nj_isa.specs.declared.modes.Mode.{Mode}
use Rattle.nj_isa.specs.declared.modes.Mode.TheVariants.{Implied, Accumulator, Immediate, Zp, ZpX, ZpY, Abs, AbsX, AbsY, IndX, IndY, Indirect, Relative}
use Rattle.nj_isa.specs.declared.modes.Kind.{Kind}
use Rattle.nj_isa.specs.declared.modes.Kind.TheVariants.{Read, Write, Modify}
use Rattle.nj_isa.specs.declared.classes.Class.{Class}
use Rattle.nj_isa.specs.declared.classes.Class.TheVariants.{ByMode, Branches, Jumps, JumpsIndirect, Calls, Returns, ReturnsFromInterrupt, Breaks, PushesA, PushesFlags, PullsA, PullsFlags, Jams}
use Rattle.nj_isa.specs.declared.table.OpRow.{OpRow}
use Rattle.nj_cpu.specs.declared.state.Cpu.{Cpu}
use Rattle.nj_cpu.specs.Effects.{is_taken}
use Rattle.nj_cpu.specs.Walk.{Walk, address_of, is_made, read_at, transferred, moved, step, walk}
use Rattle.nj_cpu.specs.Unit.{Unit, opened, rest_by, rest_of, unit_of}
use Rattle.nj_cpu.specs.Laws.{Runs, CountsCycles, crosses_in, crosses, branches, leaves_page, published_cycles}
use Rattle.nj_cpu.proofs.Lower.{held-moved, held-opened}
use Rattle.nj_cpu.proofs.Runs.{opcode_read, unit-runs}

-- how many accesses of a list are made from here
abbrev pub made_in : {Held : Type 0} → Acts Held → Op → List Access → Walk Held → ℕ
made_in acts op [] w = 0
made_in acts op (a ∷ rest) w = one_if (is_made a.when_ op w) + made_in acts op rest (step acts op a w)

module _ {Held : Type 0} (acts : Acts Held) (count : Held → ℕ) (counts : CountsCycles acts count) where
  count-transferred : (op : Op) (t : Transfer) (at : ℕ) (w : Walk Held)
      → count (transferred acts op t at w).held ≡ count w.held + 1
  count-transferred op Ignores at w = counts.reads w.held at
  count-transferred op ToLow at w = counts.reads w.held at
  count-transferred op ToHigh at w = counts.reads w.held at
  count-transferred op ToPointer at w = counts.reads w.held at
  count-transferred op ToPage at w = counts.reads w.held at
  count-transferred op ToData at w = counts.reads w.held at
  count-transferred op ToFlags at w = counts.reads w.held at
  count-transferred op PutsStored at w = counts.writes w.held at _
  count-transferred op PutsData at w = counts.writes w.held at _
  count-transferred op PutsChanged at w = counts.writes w.held at _
  count-transferred op PutsPcHigh at w = counts.writes w.held at _
  count-transferred op PutsPcLow at w = counts.writes w.held at _
  count-transferred op (PutsFlags bit) at w = counts.writes w.held at _

  count-chosen : (b : Bool) (v w : Walk Held) → count v.held ≡ count w.held + 1
      → count (cond b v w).held ≡ count w.held + one_if b
  count-chosen true v w e = e
  count-chosen false v w e = omega arith

  count-step : (op : Op) (a : Access) (w : Walk Held)
      → count (step acts op a w).held ≡ count w.held + one_if (is_made a.when_ op w)
  count-step op a w =
      let v : Walk Held = transferred acts op a.transfer (address_of a.place w) w in
      count-chosen (is_made a.when_ op w) (moved a.then_ v) w (ap count (held-moved a.then_ v)
      ∙ count-transferred op a.transfer (address_of a.place w) w)

  -- a walk takes as many cycles as it makes accesses
  pub count-walk : (op : Op) (xs : List Access) (w : Walk Held)
      → count (walk acts op xs w).held ≡ count w.held + made_in acts op xs w
  count-walk op [] w = omega arith
  count-walk op (a ∷ rest) w =
      omega (arith, count-walk op rest (step acts op a w), count-step op a w)

-- a taken branch's first extra cycle changes nothing that the second one looks at
away-chosen : {Held : Type 0} (acts : Acts Held) (op : Op) (b : Bool) (w : Walk Held)
    → is_made TakenAway op (cond b (read_at acts w.cpu.pc w) w) ≡ is_made TakenAway op w
away-chosen acts op true w = refl
away-chosen acts op false w = refl

-- the accesses that are made are those of the published rule
pub made-is : {Held : Type 0} (acts : Acts Held) (class : Class) (mode : Mode) (kind : Kind) (op : Op) (cpu : Cpu)
    (held : Held)
    → made_in acts op (accesses class mode kind) (opened class (opcode_read acts cpu held))
    ≡ count_made (crosses_in mode acts cpu held) (is_taken op cpu.flags)
    (is_taken op cpu.flags && leaves_page acts cpu held) (accesses class mode kind)
made-is acts ByMode Implied Read op cpu held = refl
made-is acts ByMode Implied Write op cpu held = refl
made-is acts ByMode Implied Modify op cpu held = refl
made-is acts ByMode Accumulator Read op cpu held = refl
made-is acts ByMode Accumulator Write op cpu held = refl
made-is acts ByMode Accumulator Modify op cpu held = refl
made-is acts ByMode Immediate Read op cpu held = refl
made-is acts ByMode Immediate Write op cpu held = refl
made-is acts ByMode Immediate Modify op cpu held = refl
made-is acts ByMode Zp Read op cpu held = refl
made-is acts ByMode Zp Write op cpu held = refl
made-is acts ByMode Zp Modify op cpu held = refl
made-is acts ByMode ZpX Read op cpu held = refl
made-is acts ByMode ZpX Write op cpu held = refl
made-is acts ByMode ZpX Modify op cpu held = refl
made-is acts ByMode ZpY Read op cpu held = refl
made-is acts ByMode ZpY Write op cpu held = refl
made-is acts ByMode ZpY Modify op cpu held = refl
made-is acts ByMode Abs Read op cpu held = refl
made-is acts ByMode Abs Write op cpu held = refl
made-is acts ByMode Abs Modify op cpu held = refl
made-is acts ByMode AbsX Read op cpu held = refl
made-is acts ByMode AbsX Write op cpu held = refl
made-is acts ByMode AbsX Modify op cpu held = refl
made-is acts ByMode AbsY Read op cpu held = refl
made-is acts ByMode AbsY Write op cpu held = refl
made-is acts ByMode AbsY Modify op cpu held = refl
made-is acts ByMode IndX Read op cpu held = refl
made-is acts ByMode IndX Write op cpu held = refl
made-is acts ByMode IndX Modify op cpu held = refl
made-is acts ByMode IndY Read op cpu held = refl
made-is acts ByMode IndY Write op cpu held = refl
made-is acts ByMode IndY Modify op cpu held = refl
made-is acts ByMode Indirect Read op cpu held = refl
made-is acts ByMode Indirect Write op cpu held = refl
made-is acts ByMode Indirect Modify op cpu held = refl
made-is acts ByMode Relative Read op cpu held = refl
made-is acts ByMode Relative Write op cpu held = refl
made-is acts ByMode Relative Modify op cpu held = refl
made-is acts Branches mode kind op cpu held =
    let w : Walk _ = step acts op (fetch ToData) (opened Branches (opcode_read acts cpu held)) in
    ap (λ b. 1 + (one_if (is_taken op cpu.flags) + (one_if b + 0))) (away-chosen acts op (is_taken op cpu.flags) w)
made-is acts Jumps mode kind op cpu held = refl
made-is acts JumpsIndirect mode kind op cpu held = refl
made-is acts Calls mode kind op cpu held = refl
made-is acts Returns mode kind op cpu held = refl
made-is acts ReturnsFromInterrupt mode kind op cpu held = refl
made-is acts Breaks mode kind op cpu held = refl
made-is acts PushesA mode kind op cpu held = refl
made-is acts PushesFlags mode kind op cpu held = refl
made-is acts PullsA mode kind op cpu held = refl
made-is acts PullsFlags mode kind op cpu held = refl
made-is acts Jams mode kind op cpu held = refl

-- the count after the rest of an instruction
count-rest : {Held : Type 0} (acts : Acts Held) (count : Held → ℕ) → CountsCycles acts count
    → (row : OpRow) (cpu : Cpu) (held : Held)
    → count (rest_of acts row (opcode_read acts cpu held)).held
    ≡ count held
    + (1 + count_made (crosses_in row.mode acts cpu held) (is_taken row.op cpu.flags)
    (is_taken row.op cpu.flags && leaves_page acts cpu held) (accesses_of row))
unfolding rest_of rest_by accesses_of
count-rest acts count counts row cpu held =
    let class : Class = class_of row.op row.mode in
    let w : Walk _ = opcode_read acts cpu held in
    let walked : count (walk acts row.op (accesses class row.mode row.kind) (opened class w)).held
    ≡ count (opened class w).held + made_in acts row.op (accesses class row.mode row.kind) (opened class w) =
    count-walk acts count counts row.op (accesses class row.mode row.kind) (opened class w) in
    let same : count (opened class w).held ≡ count w.held = ap count (held-opened class w) in
    let first : count w.held ≡ count held + 1 = counts.reads held cpu.pc in
    let made : made_in acts row.op (accesses class row.mode row.kind) (opened class w)
    ≡ count_made (crosses_in row.mode acts cpu held) (is_taken row.op cpu.flags)
    (is_taken row.op cpu.flags && leaves_page acts cpu held) (accesses class row.mode row.kind) =
    made-is acts class row.mode row.kind row.op cpu held in
    omega arith

-- an instruction takes its published cycles, where the lists of accesses are as long as published
pub cycles : {Held : Type 0} (acts : Acts Held) (published : (opcode : ℕ) (crossed taken away : Bool) → opcode < 256
    → 0 < cycles_of opcode
    → 1 + count_made crossed taken away (accesses_of (row_of opcode))
    ≡ cycles_of opcode + penalty_of opcode crossed taken away) (count : Held → ℕ) (cpu : Cpu) (held : Held) (opcode : ℕ)
    → CountsCycles acts count → Runs acts cpu held opcode → opcode < 256 → 0 < cycles_of opcode
    → count (unit_of acts cpu held).held ≡ count held + published_cycles acts cpu held opcode
unfolding published_cycles
cycles acts published count cpu held opcode counts runs byte official =
    ap (λ (u : Unit _). count u.held) (unit-runs acts cpu held opcode runs)
    ∙ count-rest acts count counts (row_of opcode) cpu held
    ∙ ap (λ n. count held + n)
    (published opcode (crosses acts cpu held opcode) (branches cpu opcode)
    (branches cpu opcode && leaves_page acts cpu held) byte official)
