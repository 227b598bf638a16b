-- What every access keeps, a walk and a unit keep, over any bus; and a unit that is not nothing makes an access.
-- The bus is told by In, which holds of all that it can hold, and by a number that each access makes fewer by n.
use Rattle.std.proofs.Common.{◌≡◌, ℕ, ◌+◌, ◌-◌, ◌≤◌, Bool, true, false, cond, List, [], ◌∷◌, ◌++◌, Option, Some, None, refl, sym, subst, arith}
use Rattle.nj_isa.specs.Bus.{Acts}
use Rattle.nj_isa.specs.Accesses.{Place, AtPc, Transfer, Ignores, ToLow, ToHigh, ToPointer, ToPage, ToData, ToFlags, PutsStored, PutsData, PutsChanged, PutsPcHigh, PutsPcLow, PutsFlags, Move, Stay, PcUp, StackUp, StackDown, Jump, JumpPast, PointerUp, Mask, Access, access, accesses, class_of, enter, copies}
use Rattle.nj_isa.specs.Table.{row_of}
use Rattle.nj_isa.specs.declared.operations.Op.{Op}
use Rattle.nj_isa.specs.declared.operations.Op.TheVariants.{Nop}
use Rattle.nj_isa.specs.declared.classes.Class.{Class}
use Rattle.nj_isa.specs.declared.classes.Class.TheVariants.{ByMode, Branches, Jumps, JumpsIndirect, Calls, Returns, ReturnsFromInterrupt, Breaks, PushesA, PushesFlags, PullsA, PullsFlags, Jams}
use Rattle.nj_isa.specs.declared.table.OpRow.{OpRow}
use Rattle.nj_cpu.specs.declared.state.Cpu.{Cpu}
use Rattle.nj_cpu.specs.declared.state.Note.{Note}
use Rattle.nj_cpu.specs.declared.state.Note.TheVariants.{None as NoNote, Late, Due}
use Rattle.nj_cpu.specs.declared.state.UnitEnd.TheVariants.{Jammed}
use Rattle.nj_cpu.specs.Walk.{Walk, begun, address_of, is_made, read_at, transferred, moved, step, walk}
use Rattle.nj_cpu.specs.Unit.{no_rise, opened, rest_by, rest_of, instruction, entered, waits, copied, on_note, on_page, active, noted, unit_of}

-- after h the bus holds e, which is in order, with n fewer left
pub record Lower {Held : Type 0} (In : Held → Type 0) (left : Held → ℕ) (n : ℕ) (h e : Held) : Type 0 where
  pub stays : In e
  pub fewer : left e ≤ left h - n

-- each access leaves n fewer, and taking a page leaves no more than before
pub record Lowers {Held : Type 0} (acts : Acts Held) (In : Held → Type 0) (left : Held → ℕ) (n : ℕ) : Type 0 where
  pub reads : (h : Held) (at : ℕ) → In h → Lower In left n h (acts.after_read h at)
  pub writes : (h : Held) (at value : ℕ) → In h → Lower In left n h (acts.after_write h at value)
  pub takes : (h : Held) → In h → Lower In left 0 h (acts.after_take h)

-- nothing was done
pub lower-same : {Held : Type 0} (In : Held → Type 0) (left : Held → ℕ) (h : Held) → In h → Lower In left 0 h h
lower-same In left h i = record { stays = i; fewer = omega arith }

-- one after the other
pub lower-then : {Held : Type 0} (In : Held → Type 0) (left : Held → ℕ) (m n : ℕ) (h e f : Held) → Lower In left m h e
    → Lower In left n e f → Lower In left (m + n) h f
lower-then In left m n h e f a b = record { stays = b.stays; fewer = omega arith }

-- what comes after makes it no less
pub lower-and : {Held : Type 0} (In : Held → Type 0) (left : Held → ℕ) (n : ℕ) (h e f : Held) → Lower In left n h e
    → Lower In left 0 e f → Lower In left n h f
lower-and In left n h e f a b = record { stays = b.stays; fewer = omega arith }

-- and what comes before
pub lower-behind : {Held : Type 0} (In : Held → Type 0) (left : Held → ℕ) (n : ℕ) (h e f : Held) → Lower In left 0 h e
    → Lower In left n e f → Lower In left n h f
lower-behind In left n h e f a b = record { stays = b.stays; fewer = omega arith }

-- at least none fewer
pub lower-less : {Held : Type 0} (In : Held → Type 0) (left : Held → ℕ) (n : ℕ) (h e : Held) → Lower In left n h e
    → Lower In left 0 h e
lower-less In left n h e a = record { stays = a.stays; fewer = omega arith }

-- a move of the processor leaves the bus
pub held-moved : {Held : Type 0} (m : Move) (w : Walk Held) → (moved m w).held ≡ w.held
held-moved Stay w = refl
held-moved PcUp w = refl
held-moved StackUp w = refl
held-moved StackDown w = refl
held-moved Jump w = refl
held-moved JumpPast w = refl
held-moved PointerUp w = refl
held-moved Mask w = refl

pub held-opened : {Held : Type 0} (class : Class) (w : Walk Held) → (opened class w).held ≡ w.held
held-opened ByMode w = refl
held-opened Branches w = refl
held-opened Jumps w = refl
held-opened JumpsIndirect w = refl
held-opened Calls w = refl
held-opened Returns w = refl
held-opened ReturnsFromInterrupt w = refl
held-opened Breaks w = refl
held-opened PushesA w = refl
held-opened PushesFlags w = refl
held-opened PullsA w = refl
held-opened PullsFlags w = refl
held-opened Jams w = refl

module _ {Held : Type 0} (acts : Acts Held) (In : Held → Type 0) (left : Held
    → ℕ) (n : ℕ) (lowers : Lowers acts In left n) where
  -- the access itself
  transferred-lower : (op : Op) (t : Transfer) (at : ℕ) (w : Walk Held) → In w.held
      → Lower In left n w.held (transferred acts op t at w).held
  transferred-lower op Ignores at w i = lowers.reads w.held at i
  transferred-lower op ToLow at w i = lowers.reads w.held at i
  transferred-lower op ToHigh at w i = lowers.reads w.held at i
  transferred-lower op ToPointer at w i = lowers.reads w.held at i
  transferred-lower op ToPage at w i = lowers.reads w.held at i
  transferred-lower op ToData at w i = lowers.reads w.held at i
  transferred-lower op ToFlags at w i = lowers.reads w.held at i
  transferred-lower op PutsStored at w i = lowers.writes w.held at _ i
  transferred-lower op PutsData at w i = lowers.writes w.held at _ i
  transferred-lower op PutsChanged at w i = lowers.writes w.held at _ i
  transferred-lower op PutsPcHigh at w i = lowers.writes w.held at _ i
  transferred-lower op PutsPcLow at w i = lowers.writes w.held at _ i
  transferred-lower op (PutsFlags bit) at w i = lowers.writes w.held at _ i

  -- the access and the move after it
  made-lower : (op : Op) (p : Place) (t : Transfer) (m : Move) (w : Walk Held) → In w.held
      → Lower In left n w.held (moved m (transferred acts op t (address_of p w) w)).held
  made-lower op p t m w i =
      let P : Held → Type 0 = λ h. Lower In left n w.held h in
      subst P (sym (held-moved m (transferred acts op t (address_of p w) w)))
      (transferred-lower op t (address_of p w) w i)

  -- an access that may be made
  chosen-lower : (b : Bool) (v w : Walk Held) → In w.held → Lower In left n w.held v.held
      → Lower In left 0 w.held (cond b v w).held
  chosen-lower true v w i l = lower-less In left n w.held v.held l
  chosen-lower false v w i l = lower-same In left w.held i

  pub step-lower : (op : Op) (a : Access) (w : Walk Held) → In w.held → Lower In left 0 w.held (step acts op a w).held
  step-lower op a w i =
      chosen-lower (is_made a.when_ op w) (moved a.then_ (transferred acts op a.transfer (address_of a.place w) w)) w i
      (made-lower op a.place a.transfer a.then_ w i)

  -- a list of accesses
  pub walk-lower : (op : Op) (xs : List Access) (w : Walk Held) → In w.held
      → Lower In left 0 w.held (walk acts op xs w).held
  walk-lower op [] w i = lower-same In left w.held i
  walk-lower op (a ∷ rest) w i =
      lower-and In left 0 w.held (step acts op a w).held (walk acts op rest (step acts op a w)).held
      (step-lower op a w i) (walk-lower op rest (step acts op a w) (step-lower op a w i).stays)

  -- a list that begins with an access that is always made
  pub first-lower : (op : Op) (p : Place) (t : Transfer) (m : Move) (rest : List Access) (w : Walk Held) → In w.held
      → Lower In left n w.held (walk acts op (access p t m ∷ rest) w).held
  first-lower op p t m rest w i =
      let v : Walk Held = moved m (transferred acts op t (address_of p w) w) in
      lower-and In left n w.held v.held (walk acts op rest v).held (made-lower op p t m w i)
      (walk-lower op rest v (made-lower op p t m w i).stays)

  rest-lower : (class : Class) (row : OpRow) (w : Walk Held) → In w.held
      → Lower In left 0 w.held (rest_by acts class row w).held
  unfolding rest_by
  rest-lower class row w i =
      let P : Held → Type 0 =
      λ h. Lower In left 0 h (walk acts row.op (accesses class row.mode row.kind) (opened class w)).held in
      subst P (held-opened class w)
      (walk-lower row.op (accesses class row.mode row.kind) (opened class w) (subst In (sym (held-opened class w)) i))

  -- an instruction makes the access of its opcode
  pub instruction-lower : (cpu : Cpu) (held : Held) → In held → Lower In left n held (instruction acts cpu held).held
  unfolding instruction rest_of
  instruction-lower cpu held i =
      let w : Walk Held = read_at acts cpu.pc (begun cpu held no_rise) in
      let row : OpRow = row_of (acts.byte held cpu.pc) in
      lower-and In left n held w.held (rest_by acts (class_of row.op row.mode) row w).held (lowers.reads held cpu.pc i)
      (rest-lower (class_of row.op row.mode) row w (lowers.reads held cpu.pc i).stays)

  pub entered-lower : (cpu : Cpu) (held : Held) → In held → Lower In left n held (entered acts cpu held).held
  unfolding entered
  entered-lower cpu held i =
      first-lower Nop AtPc Ignores Stay (access AtPc Ignores Stay ∷ enter false 0xFFFA)
      (begun (record cpu { note = NoNote }) held no_rise) i

  waited-lower : (b : Bool) (rest : List Access) (w : Walk Held) → In w.held
      → Lower In left n w.held (walk acts Nop (waits b ++ rest) w).held
  waited-lower false rest w i = first-lower Nop AtPc Ignores Stay rest w i
  waited-lower true rest w i = first-lower Nop AtPc Ignores Stay (access AtPc Ignores Stay ∷ rest) w i

  pub copied-lower : (page : ℕ) (cpu : Cpu) (held : Held) → In held
      → Lower In left n held (copied acts page cpu held).held
  unfolding copied
  copied-lower page cpu held i = waited-lower (acts.odd held) (copies page 256) (begun cpu held no_rise) i

  note-lower : (note : Note) (cpu : Cpu) (held : Held) → In held
      → Lower In left n held (on_note note acts cpu held).held
  note-lower Due cpu held i = entered-lower cpu held i
  note-lower NoNote cpu held i = instruction-lower cpu held i
  note-lower Late cpu held i = instruction-lower cpu held i

  page-lower : (page : Option ℕ) (cpu : Cpu) (held : Held) → In held
      → Lower In left n held (on_page page acts cpu held).held
  page-lower None cpu held i = note-lower cpu.note cpu held i
  page-lower (Some page) cpu held i =
      let taken : Held = acts.after_take held in
      lower-behind In left n held taken (copied acts page cpu taken).held (lowers.takes held i)
      (copied-lower page cpu taken (lowers.takes held i).stays)

  -- a unit of a processor that is not jammed makes at least one access
  pub unit-lower : (cpu : Cpu) (held : Held) → cpu.jammed ≡ false → In held
      → Lower In left n held (unit_of acts cpu held).held
  unfolding unit_of active
  unit-lower cpu held runs i = open_unit cpu.jammed runs
    where
      open_unit : (b : Bool) → b ≡ false
          → Lower In left n held
          (cond b (record { cpu = cpu; held = held; end_ = Jammed })
          (noted cpu.note (on_page (acts.page held) acts cpu held))).held
      open_unit false e = page-lower (acts.page held) cpu held i
      open_unit true e = absurd (cc)
