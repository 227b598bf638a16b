-- A recorder runs a unit as the bus behind it does.
use Rattle.std.proofs.Common.{◌≡◌, ℕ, Bool, true, false, cond, List, [], ◌∷◌, ◌++◌, Option, Some, None, refl, sym, ap, ◌∙◌}
use Rattle.nj_isa.specs.Bus.{Acts}
use Rattle.nj_isa.specs.Accesses.{Place, AtPc, AtStack, InZero, InZeroBy, AtWord, AtWordBy, AtUncarried, AtPointer, AfterPointer, AtBranchLow, At, Transfer, Ignores, ToLow, ToHigh, ToPointer, ToPage, ToData, ToFlags, PutsStored, PutsData, PutsChanged, PutsPcHigh, PutsPcLow, PutsFlags, Move, Stay, PcUp, StackUp, StackDown, Jump, JumpPast, PointerUp, Mask, When, Always, Carried, Taken, TakenAway, Access, accesses, class_of, nmi_entry, copies}
use Rattle.nj_isa.specs.Table.{row_of}
use Rattle.nj_isa.specs.declared.operations.Op.{Op}
use Rattle.nj_isa.specs.declared.operations.Op.TheVariants.{Nop}
use Rattle.nj_isa.specs.declared.classes.Class.{Class}
use Rattle.nj_isa.specs.declared.classes.Class.TheVariants.{ByMode, Branches, Jumps, JumpsIndirect, Calls, Returns, ReturnsFromInterrupt, Breaks, PushesA, PushesFlags, PullsA, PullsFlags, Jams}
use Rattle.nj_isa.specs.declared.table.OpRow.{OpRow}
use Rattle.nj_cpu.specs.declared.state.Cpu.{Cpu}
use Rattle.nj_cpu.specs.declared.state.Note.{Note}
use Rattle.nj_cpu.specs.declared.state.Note.TheVariants.{None as NoNote, Late, Due}
use Rattle.nj_cpu.specs.declared.state.UnitEnd.TheVariants.{Jammed}
use Rattle.nj_cpu.specs.Walk.{Walk, begun, address_of, is_made, read_at, transferred, moved, step, walk}
use Rattle.nj_cpu.specs.Unit.{no_rise, opened, settled, rest_by, rest_of, instruction, entered, waits, copied, on_note, on_page, active, Unit, noted, unit_of}
use Rattle.nj_machine.specs.Recorder.{Recorded, recording}

-- the walk over the bus behind the recorder
abbrev pub behind : {Held : Type 0} → Walk (Recorded Held) → Walk Held
behind w = record {
  cpu = w.cpu;
  held = w.held.held;
  rises = w.rises;
  low = w.low;
  high = w.high;
  pointer = w.pointer;
  page = w.page;
  data_ = w.data_;
}

-- the unit over it
abbrev pub behind_unit : {Held : Type 0} → Unit (Recorded Held) → Unit Held
behind_unit u = record { cpu = u.cpu; held = u.held.held; end_ = u.end_ }

module _ {Held : Type 0} (acts : Acts Held) where
  -- one access
  behind-transferred : (op : Op) (t : Transfer) (at : ℕ) (w : Walk (Recorded Held))
      → behind (transferred (recording acts) op t at w) ≡ transferred acts op t at (behind w)
  behind-transferred op Ignores at w = refl
  behind-transferred op ToLow at w = refl
  behind-transferred op ToHigh at w = refl
  behind-transferred op ToPointer at w = refl
  behind-transferred op ToPage at w = refl
  behind-transferred op ToData at w = refl
  behind-transferred op ToFlags at w = refl
  behind-transferred op PutsStored at w = refl
  behind-transferred op PutsData at w = refl
  behind-transferred op PutsChanged at w = refl
  behind-transferred op PutsPcHigh at w = refl
  behind-transferred op PutsPcLow at w = refl
  behind-transferred op (PutsFlags bit) at w = refl

  behind-moved : (m : Move) (w : Walk (Recorded Held)) → behind (moved m w) ≡ moved m (behind w)
  behind-moved Stay w = refl
  behind-moved PcUp w = refl
  behind-moved StackUp w = refl
  behind-moved StackDown w = refl
  behind-moved Jump w = refl
  behind-moved JumpPast w = refl
  behind-moved PointerUp w = refl
  behind-moved Mask w = refl

  behind-address : (p : Place) (w : Walk (Recorded Held)) → address_of p (behind w) ≡ address_of p w
  behind-address AtPc w = refl
  behind-address AtStack w = refl
  behind-address InZero w = refl
  behind-address (InZeroBy i) w = refl
  behind-address AtWord w = refl
  behind-address (AtWordBy i) w = refl
  behind-address (AtUncarried i) w = refl
  behind-address AtPointer w = refl
  behind-address AfterPointer w = refl
  behind-address AtBranchLow w = refl
  behind-address (At n) w = refl

  behind-made : (when_ : When) (op : Op) (w : Walk (Recorded Held)) → is_made when_ op (behind w) ≡ is_made when_ op w
  behind-made Always op w = refl
  behind-made (Carried i) op w = refl
  behind-made Taken op w = refl
  behind-made TakenAway op w = refl

  behind-chosen : (b : Bool) (v w : Walk (Recorded Held)) → behind (cond b v w) ≡ cond b (behind v) (behind w)
  behind-chosen true v w = refl
  behind-chosen false v w = refl

  pub behind-step : (op : Op) (a : Access) (w : Walk (Recorded Held))
      → behind (step (recording acts) op a w) ≡ step acts op a (behind w)
  behind-step op a w =
      let at = address_of a.place w in
      let t : Walk (Recorded Held) = transferred (recording acts) op a.transfer at w in
      behind-chosen (is_made a.when_ op w) (moved a.then_ t) w
      ∙ ap (λ v. cond (is_made a.when_ op w) v (behind w)) (behind-moved a.then_ t
      ∙ ap (moved a.then_) (behind-transferred op a.transfer at w))
      ∙ ap (λ b. cond b (moved a.then_ (transferred acts op a.transfer at (behind w))) (behind w))
      (sym (behind-made a.when_ op w))
      ∙ ap (λ n. cond (is_made a.when_ op (behind w)) (moved a.then_ (transferred acts op a.transfer n (behind w)))
      (behind w)) (sym (behind-address a.place w))

  -- accesses one after another
  pub behind-walk : (op : Op) (xs : List Access) (w : Walk (Recorded Held))
      → behind (walk (recording acts) op xs w) ≡ walk acts op xs (behind w)
  behind-walk op [] w = refl
  behind-walk op (a ∷ rest) w =
      behind-walk op rest (step (recording acts) op a w) ∙ ap (walk acts op rest) (behind-step op a w)

  pub behind-opened : (class : Class) (w : Walk (Recorded Held)) → behind (opened class w) ≡ opened class (behind w)
  behind-opened ByMode w = refl
  behind-opened Branches w = refl
  behind-opened Jumps w = refl
  behind-opened JumpsIndirect w = refl
  behind-opened Calls w = refl
  behind-opened Returns w = refl
  behind-opened ReturnsFromInterrupt w = refl
  behind-opened Breaks w = refl
  behind-opened PushesA w = refl
  behind-opened PushesFlags w = refl
  behind-opened PullsA w = refl
  behind-opened PullsFlags w = refl
  behind-opened Jams w = refl

  behind-settled : (class : Class) (row : OpRow) (w : Walk (Recorded Held))
      → settled class row (behind w) ≡ settled class row w
  behind-settled ByMode row w = refl
  behind-settled Branches row w = refl
  behind-settled Jumps row w = refl
  behind-settled JumpsIndirect row w = refl
  behind-settled Calls row w = refl
  behind-settled Returns row w = refl
  behind-settled ReturnsFromInterrupt row w = refl
  behind-settled Breaks row w = refl
  behind-settled PushesA row w = refl
  behind-settled PushesFlags row w = refl
  behind-settled PullsA row w = refl
  behind-settled PullsFlags row w = refl
  behind-settled Jams row w = refl

  behind-rest : (class : Class) (row : OpRow) (w : Walk (Recorded Held))
      → behind (rest_by (recording acts) class row w) ≡ rest_by acts class row (behind w)
  unfolding rest_by
  behind-rest class row w =
      let xs = accesses class row.mode row.kind in
      let v : Walk (Recorded Held) = walk (recording acts) row.op xs (opened class w) in
      let same : behind v ≡ walk acts row.op xs (opened class (behind w)) =
      behind-walk row.op xs (opened class w) ∙ ap (walk acts row.op xs) (behind-opened class w) in
      let change : Cpu → Walk Held = λ c. (let b = behind v in record b { cpu = c }) in
      let finish : Walk Held → Walk Held = λ u. record u { cpu = settled class row u } in
      ap change (sym (behind-settled class row v)) ∙ ap finish same

  -- what a unit can be
  behind-instruction : (cpu : Cpu) (r : Recorded Held)
      → behind (instruction (recording acts) cpu r) ≡ instruction acts cpu r.held
  unfolding instruction rest_of
  behind-instruction cpu r =
      let row = row_of (acts.byte r.held cpu.pc) in
      behind-rest (class_of row.op row.mode) row (read_at (recording acts) cpu.pc (begun cpu r no_rise))

  behind-entered : (cpu : Cpu) (r : Recorded Held) → behind (entered (recording acts) cpu r) ≡ entered acts cpu r.held
  unfolding entered
  behind-entered cpu r = behind-walk Nop nmi_entry (begun (record cpu { note = NoNote }) r no_rise)

  behind-copied : (page : ℕ) (cpu : Cpu) (r : Recorded Held)
      → behind (copied (recording acts) page cpu r) ≡ copied acts page cpu r.held
  unfolding copied
  behind-copied page cpu r = behind-walk Nop (waits (acts.odd r.held) ++ copies page 256) (begun cpu r no_rise)

  behind-note : (note : Note) (cpu : Cpu) (r : Recorded Held)
      → behind (on_note note (recording acts) cpu r) ≡ on_note note acts cpu r.held
  behind-note Due cpu r = behind-entered cpu r
  behind-note NoNote cpu r = behind-instruction cpu r
  behind-note Late cpu r = behind-instruction cpu r

  behind-page : (page : Option ℕ) (cpu : Cpu) (r : Recorded Held)
      → behind (on_page page (recording acts) cpu r) ≡ on_page page acts cpu r.held
  behind-page (Some page) cpu r = behind-copied page cpu ((recording acts).after_take r)
  behind-page None cpu r = behind-note cpu.note cpu r

  behind-active : (cpu : Cpu) (r : Recorded Held) → behind (active (recording acts) cpu r) ≡ active acts cpu r.held
  unfolding active
  behind-active cpu r = behind-page (acts.page r.held) cpu r

  -- a unit
  unit-by : (b : Bool) (cpu : Cpu) (r : Recorded Held) (w : Walk (Recorded Held)) (v : Walk Held) → behind w ≡ v →
      behind_unit (cond b (record { cpu = cpu; held = r; end_ = Jammed }) (noted cpu.note w))
      ≡ cond b (record { cpu = cpu; held = r.held; end_ = Jammed }) (noted cpu.note v)
  unit-by true cpu r w v e = refl
  unit-by false cpu r w v e = ap (noted cpu.note) e

  pub unit-behind : (cpu : Cpu) (r : Recorded Held)
      → behind_unit (unit_of (recording acts) cpu r) ≡ unit_of acts cpu r.held
  unfolding unit_of
  unit-behind cpu r =
      unit-by cpu.jammed cpu r (active (recording acts) cpu r) (active acts cpu r.held) (behind-active cpu r)
