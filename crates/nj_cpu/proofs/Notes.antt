-- A walk, an instruction and an entry do not look at the note, and leave it.
use Rattle.std.proofs.Common.{◌≡◌, ◌≢◌, ◌⊎◌, inl, inr, ℕ, ◌++◌, Bool, true, false, cond, List, [], ◌∷◌, Option, Some, None, refl, sym, ap, ◌∙◌}
use Rattle.std.proofs.lemmas.Bool.{cond-false}
use Rattle.nj_isa.specs.Bus.{Acts}
use Rattle.nj_isa.specs.Table.{row_of}
use Rattle.nj_isa.specs.Accesses.{Place, AtPc, AtStack, InZero, InZeroBy, AtWord, AtWordBy, AtUncarried, AtPointer, AfterPointer, AtBranchLow, At, Transfer, Ignores, ToLow, ToHigh, ToPointer, ToPage, ToData, ToFlags, PutsStored, PutsData, PutsChanged, PutsPcHigh, PutsPcLow, PutsFlags, Move, Stay, PcUp, StackUp, StackDown, Jump, JumpPast, PointerUp, Mask, When, Always, Carried, Taken, TakenAway, Access, accesses, class_of, nmi_entry, copies, by_mode}
use Rattle.nj_isa.specs.declared.operations.Op.{Op}
use Rattle.nj_isa.specs.declared.operations.Op.TheVariants.{Asl, Rol, Lsr, Ror, Nop}
use Rattle.nj_isa.specs.declared.modes.Index.TheVariants.{X, Y}
use Rattle.nj_isa.specs.declared.modes.Mode.{Mode}
use Rattle.nj_isa.specs.declared.modes.Mode.TheVariants.{Accumulator}
use Rattle.nj_isa.specs.declared.modes.Kind.{Kind}
use Rattle.nj_isa.specs.declared.modes.Kind.TheVariants.{Read, Write, Modify}
use Rattle.nj_isa.specs.declared.classes.Class.{Class}
use Rattle.nj_isa.specs.declared.classes.Class.TheVariants.{ByMode, Branches, Jumps, JumpsIndirect, Calls, Returns, ReturnsFromInterrupt, Breaks, PushesA, PushesFlags, PullsA, PullsFlags, Jams}
use Rattle.nj_isa.specs.declared.table.OpRow.{OpRow}
use Rattle.nj_cpu.specs.declared.state.Cpu.{Cpu}
use Rattle.nj_cpu.specs.declared.state.Note.{Note}
use Rattle.nj_cpu.specs.declared.state.Note.TheVariants.{None as NoNote, Late, Due}
use Rattle.nj_cpu.specs.Effects.{is_taken, shifted, joined, done}
use Rattle.nj_cpu.specs.Leading.{given}
use Rattle.nj_cpu.specs.Walk.{Rises, Walk, Watched, EndsAs, begun, address_of, is_made, read_at, transferred, moved, step, walk}
use Rattle.nj_cpu.specs.Unit.{no_rise, opened, finished, branched, settled, rest_by, rest_of, instruction, entered, copied, on_note, on_page, active, waits, noted, unit_of, later_note, note_after}
use Rattle.nj_cpu.specs.Notes.{ripe, with_note, noting, ripened}

address-noting : {Held : Type 0} (p : Place) (mark : Note) (w : Walk Held)
    → address_of p (noting mark w) ≡ address_of p w
address-noting AtPc mark w = refl
address-noting AtStack mark w = refl
address-noting InZero mark w = refl
address-noting (InZeroBy X) mark w = refl
address-noting (InZeroBy Y) mark w = refl
address-noting AtWord mark w = refl
address-noting (AtWordBy X) mark w = refl
address-noting (AtWordBy Y) mark w = refl
address-noting (AtUncarried X) mark w = refl
address-noting (AtUncarried Y) mark w = refl
address-noting AtPointer mark w = refl
address-noting AfterPointer mark w = refl
address-noting AtBranchLow mark w = refl
address-noting (At n) mark w = refl

made-noting : {Held : Type 0} (when_ : When) (op : Op) (mark : Note) (w : Walk Held)
    → is_made when_ op (noting mark w) ≡ is_made when_ op w
made-noting Always op mark w = refl
made-noting (Carried X) op mark w = refl
made-noting (Carried Y) op mark w = refl
made-noting Taken op mark w = refl
made-noting TakenAway op mark w = refl

transferred-noting : {Held : Type 0} (acts : Acts Held) (op : Op) (t : Transfer) (at : ℕ) (mark : Note) (w : Walk Held)
    →
    transferred acts op t at (noting mark w) ≡ noting mark (transferred acts op t at w)
transferred-noting acts op Ignores at mark w = refl
transferred-noting acts op ToLow at mark w = refl
transferred-noting acts op ToHigh at mark w = refl
transferred-noting acts op ToPointer at mark w = refl
transferred-noting acts op ToPage at mark w = refl
transferred-noting acts op ToData at mark w = refl
transferred-noting acts op ToFlags at mark w = refl
transferred-noting acts op PutsStored at mark w = refl
transferred-noting acts op PutsData at mark w = refl
transferred-noting acts op PutsChanged at mark w = refl
transferred-noting acts op PutsPcHigh at mark w = refl
transferred-noting acts op PutsPcLow at mark w = refl
transferred-noting acts op (PutsFlags bit) at mark w = refl

moved-noting : {Held : Type 0} (m : Move) (mark : Note) (w : Walk Held)
    → moved m (noting mark w) ≡ noting mark (moved m w)
moved-noting Stay mark w = refl
moved-noting PcUp mark w = refl
moved-noting StackUp mark w = refl
moved-noting StackDown mark w = refl
moved-noting Jump mark w = refl
moved-noting JumpPast mark w = refl
moved-noting PointerUp mark w = refl
moved-noting Mask mark w = refl

chosen-noting : {Held : Type 0} (b : Bool) (mark : Note) (v w : Walk Held)
    → cond b (noting mark v) (noting mark w) ≡ noting mark (cond b v w)
chosen-noting true mark v w = refl
chosen-noting false mark v w = refl

-- the access and the move after it
made-at-noting : {Held : Type 0} (acts : Acts Held) (op : Op) (a : Access) (at : ℕ) (mark : Note) (w : Walk Held) →
    moved a.then_ (transferred acts op a.transfer at (noting mark w))
    ≡ noting mark (moved a.then_ (transferred acts op a.transfer at w))
made-at-noting acts op a at mark w =
    ap (moved a.then_) (transferred-noting acts op a.transfer at mark w)
    ∙ moved-noting a.then_ mark (transferred acts op a.transfer at w)

step-noting : {Held : Type 0} (acts : Acts Held) (op : Op) (a : Access) (mark : Note) (w : Walk Held)
    → step acts op a (noting mark w) ≡ noting mark (step acts op a w)
step-noting acts op a mark w =
    let F : Bool → ℕ → Walk _ =
    λ b at. cond b (moved a.then_ (transferred acts op a.transfer at (noting mark w))) (noting mark w) in
    let v : Walk _ = moved a.then_ (transferred acts op a.transfer (address_of a.place w) w) in
    (λ i. F (made-noting a.when_ op mark w i) (address-noting a.place mark w i))
    ∙ ap (λ u. cond (is_made a.when_ op w) u (noting mark w)) (made-at-noting acts op a (address_of a.place w) mark w)
    ∙ chosen-noting (is_made a.when_ op w) mark v w

-- a walk
pub walk-noting : {Held : Type 0} (acts : Acts Held) (op : Op) (xs : List Access) (mark : Note) (w : Walk Held)
    → walk acts op xs (noting mark w) ≡ noting mark (walk acts op xs w)
walk-noting acts op [] mark w = refl
walk-noting acts op (a ∷ rest) mark w =
    ap (walk acts op rest) (step-noting acts op a mark w) ∙ walk-noting acts op rest mark (step acts op a w)

opened-noting : {Held : Type 0} (class : Class) (mark : Note) (w : Walk Held)
    → opened class (noting mark w) ≡ noting mark (opened class w)
opened-noting ByMode mark w = refl
opened-noting Branches mark w = refl
opened-noting Jumps mark w = refl
opened-noting JumpsIndirect mark w = refl
opened-noting Calls mark w = refl
opened-noting Returns mark w = refl
opened-noting ReturnsFromInterrupt mark w = refl
opened-noting Breaks mark w = refl
opened-noting PushesA mark w = refl
opened-noting PushesFlags mark w = refl
opened-noting PullsA mark w = refl
opened-noting PullsFlags mark w = refl
opened-noting Jams mark w = refl

shifted-noting : (op : Op) (mode : Mode) (value : ℕ) (mark : Note) (cpu : Cpu)
    → shifted op mode value (with_note mark cpu) ≡ with_note mark (shifted op mode value cpu)
shifted-noting op Accumulator value mark cpu = refl
shifted-noting op _ value mark cpu = refl

done-noting : (op : Op) (mode : Mode) (value : ℕ) (mark : Note) (cpu : Cpu)
    → done op mode value (with_note mark cpu) ≡ with_note mark (done op mode value cpu)
unfolding done joined
done-noting Asl mode value mark cpu = shifted-noting Asl mode value mark cpu
done-noting Lsr mode value mark cpu = shifted-noting Lsr mode value mark cpu
done-noting Rol mode value mark cpu = shifted-noting Rol mode value mark cpu
done-noting Ror mode value mark cpu = shifted-noting Ror mode value mark cpu
done-noting _ mode value mark cpu = refl

-- an operation leaves the level of the line
shifted-line : (op : Op) (mode : Mode) (value : ℕ) (cpu : Cpu) → (shifted op mode value cpu).line ≡ cpu.line
shifted-line op Accumulator value cpu = refl
shifted-line op _ value cpu = refl

done-line : (op : Op) (mode : Mode) (value : ℕ) (cpu : Cpu) → (done op mode value cpu).line ≡ cpu.line
unfolding done joined
done-line Asl mode value cpu = shifted-line Asl mode value cpu
done-line Lsr mode value cpu = shifted-line Lsr mode value cpu
done-line Rol mode value cpu = shifted-line Rol mode value cpu
done-line Ror mode value cpu = shifted-line Ror mode value cpu
done-line _ mode value cpu = refl

pub finished-line : (kind : Kind) (op : Op) (mode : Mode) (value : ℕ) (cpu : Cpu)
    → (finished kind op mode value cpu).line ≡ cpu.line
finished-line Read op mode value cpu = done-line op mode value cpu
finished-line Write op mode value cpu = refl
finished-line Modify op mode value cpu = done-line op mode value cpu

finished-noting : (kind : Kind) (op : Op) (mode : Mode) (value : ℕ) (mark : Note) (cpu : Cpu) →
    finished kind op mode value (with_note mark cpu) ≡ with_note mark (finished kind op mode value cpu)
finished-noting Read op mode value mark cpu = done-noting op mode value mark cpu
finished-noting Write op mode value mark cpu = refl
finished-noting Modify op mode value mark cpu = done-noting op mode value mark cpu

branched-noting : (b : Bool) (offset : ℕ) (mark : Note) (cpu : Cpu)
    → branched b offset (with_note mark cpu) ≡ with_note mark (branched b offset cpu)
branched-noting true offset mark cpu = refl
branched-noting false offset mark cpu = refl

settled-noting : {Held : Type 0} (class : Class) (row : OpRow) (mark : Note) (w : Walk Held)
    → settled class row (noting mark w) ≡ with_note mark (settled class row w)
settled-noting ByMode row mark w = finished-noting row.kind row.op row.mode w.data_ mark w.cpu
settled-noting Branches row mark w = branched-noting (is_taken row.op w.cpu.flags) w.data_ mark w.cpu
settled-noting Jams row mark w = refl
settled-noting Jumps row mark w = refl
settled-noting JumpsIndirect row mark w = refl
settled-noting Calls row mark w = refl
settled-noting Returns row mark w = refl
settled-noting ReturnsFromInterrupt row mark w = refl
settled-noting Breaks row mark w = refl
settled-noting PushesA row mark w = refl
settled-noting PushesFlags row mark w = refl
settled-noting PullsA row mark w = refl
settled-noting PullsFlags row mark w = refl

rest-noting : {Held : Type 0} (acts : Acts Held) (class : Class) (row : OpRow) (mark : Note) (w : Walk Held)
    → rest_by acts class row (noting mark w) ≡ noting mark (rest_by acts class row w)
unfolding rest_by
rest-noting acts class row mark w =
    let xs : List Access = accesses class row.mode row.kind in
    let v : Walk _ = walk acts row.op xs (opened class w) in
    ap (λ (u : Walk _). (let e = walk acts row.op xs u in record e { cpu = settled class row e }))
    (opened-noting class mark w)
    ∙ ap (λ (u : Walk _). record u { cpu = settled class row u }) (walk-noting acts row.op xs mark (opened class w))
    ∙ ap (λ (c : Cpu). record v { cpu = c }) (settled-noting class row mark v)

-- an instruction
pub instruction-noting : {Held : Type 0} (acts : Acts Held) (mark : Note) (cpu : Cpu) (held : Held)
    → instruction acts (with_note mark cpu) held ≡ noting mark (instruction acts cpu held)
unfolding instruction rest_of
instruction-noting acts mark cpu held =
    let row : OpRow = row_of (acts.byte held cpu.pc) in
    rest-noting acts (class_of row.op row.mode) row mark (read_at acts cpu.pc (begun cpu held no_rise))

-- where the note is not Due, it may be ripe before the instruction
pub instruction-ripe : {Held : Type 0} (acts : Acts Held) (cpu : Cpu) (held : Held) → cpu.note ≢ Due →
    instruction acts (with_note (ripe cpu.note) cpu) held ≡ ripened (on_note cpu.note acts cpu held)
instruction-ripe acts cpu held not_due = go cpu.note refl not_due
  where
    -- the note after the instruction is that before it
    ripe-of : (n : Note) → cpu.note ≡ n
        → instruction acts (with_note (ripe n) cpu) held ≡ ripened (instruction acts cpu held)
    ripe-of n is =
        instruction-noting acts (ripe n) cpu held
        ∙ ap (λ m. noting (ripe m) (instruction acts cpu held)) (sym is
        ∙ sym (ap (λ (w : Walk _). w.cpu.note) (instruction-noting acts cpu.note cpu held)))

    go : (n : Note) → cpu.note ≡ n → n ≢ Due
        → instruction acts (with_note (ripe n) cpu) held ≡ ripened (on_note n acts cpu held)
    go NoNote is h = ripe-of NoNote is
    go Late is h = ripe-of Late is
    go Due is h = absurd (h refl)

-- an entry leaves no note
pub entered-none : {Held : Type 0} (acts : Acts Held) (cpu : Cpu) (held : Held)
    → (entered acts cpu held).cpu.note ≡ NoNote
unfolding entered
entered-none acts cpu held =
    ap (λ (w : Walk _). w.cpu.note) (walk-noting acts Nop nmi_entry NoNote (begun cpu held no_rise))

pub entered-ripe : {Held : Type 0} (acts : Acts Held) (cpu : Cpu) (held : Held)
    → ripened (entered acts cpu held) ≡ entered acts cpu held
unfolding entered
entered-ripe acts cpu held =
    let w : Walk _ = entered acts cpu held in
    let left : w ≡ noting NoNote (walk acts Nop nmi_entry (begun cpu held no_rise)) =
    walk-noting acts Nop nmi_entry NoNote (begun cpu held no_rise) in
    ap (λ m. noting (ripe m) w) (entered-none acts cpu held) ∙ ap (noting NoNote) left ∙ sym left

-- the note that a unit leaves, but for what was seen of the line: the one it began with, or none after an entry
pub record IsLeft (began now : Note) : Type 0 where
  pub left : (now ≡ began) ⊎ ((began ≡ Due) × (now ≡ NoNote))

on-note-left : {Held : Type 0} (acts : Acts Held) (mark : Note) (cpu : Cpu) (held : Held) → cpu.note ≡ mark
    → IsLeft mark (on_note mark acts cpu held).cpu.note
on-note-left acts Due cpu held is = record { left = inr (refl, entered-none acts cpu held) }
on-note-left acts NoNote cpu held is =
    record { left = inl (ap (λ (w : Walk _). w.cpu.note) (instruction-noting acts cpu.note cpu held) ∙ is) }
on-note-left acts Late cpu held is =
    record { left = inl (ap (λ (w : Walk _). w.cpu.note) (instruction-noting acts cpu.note cpu held) ∙ is) }

on-page-left : {Held : Type 0} (acts : Acts Held) (page : Option ℕ) (cpu : Cpu) (held : Held)
    → IsLeft cpu.note (on_page page acts cpu held).cpu.note
unfolding copied
on-page-left acts None cpu held = on-note-left acts cpu.note cpu held refl
on-page-left acts (Some page) cpu held =
    record {
      left =
          inl (ap (λ (w : Walk _). w.cpu.note)
          (walk-noting acts Nop (waits (acts.odd (acts.after_take held)) ++ copies page 256) cpu.note
          (begun cpu (acts.after_take held) no_rise)));
    }

-- so the note at the unit's end is the same whether a Late one was Due before
pub note_is : (began now : Note) (rises : Rises) → IsLeft began now
    → later_note (ripe now) rises ≡ note_after began now rises
unfolding note_after
note_is began now rises is = elim is.left [
  | inl same ↦ kept began now rises same
  | inr entry ↦ gone began now rises entry.0 entry.1
]
  where
    due : (b : Bool) → cond b Due Due ≡ Due
    due true = refl
    due false = refl

    kept : (began now : Note) (rises : Rises) → now ≡ began → later_note (ripe now) rises ≡ note_after began now rises
    kept Late Late rises e = due rises.before
    kept NoNote NoNote rises e = refl
    kept Due Due rises e = refl
    kept Late NoNote rises e = cc
    kept Late Due rises e = cc
    kept NoNote Late rises e = cc
    kept NoNote Due rises e = cc
    kept Due Late rises e = cc
    kept Due NoNote rises e = cc

    gone : (began now : Note) (rises : Rises) → began ≡ Due → now ≡ NoNote
        → later_note (ripe now) rises ≡ note_after began now rises
    gone Due NoNote rises b n = refl
    gone Due Late rises b n = cc
    gone Due Due rises b n = cc
    gone NoNote now rises b n = cc
    gone Late now rises b n = cc

pub active-left : {Held : Type 0} (acts : Acts Held) (cpu : Cpu) (held : Held)
    → IsLeft cpu.note (active acts cpu held).cpu.note
unfolding active
active-left acts cpu held = on-page-left acts (acts.page held) cpu held

-- a Due note is an entry, which leaves none to be ripe
pub entry-ripe : {Held : Type 0} (acts : Acts Held) (mark : Note) (cpu : Cpu) (held : Held) → mark ≡ Due
    → ripened (on_note mark acts cpu held) ≡ entered acts cpu held
entry-ripe acts Due cpu held e = entered-ripe acts cpu held
entry-ripe acts NoNote cpu held e = cc
entry-ripe acts Late cpu held e = cc

-- without a note there is none to be ripe
pub none-ripe : (cpu : Cpu) → cpu.note ≡ NoNote → cpu ≡ with_note (ripe cpu.note) cpu
none-ripe cpu e = ap (λ n. with_note n cpu) e ∙ sym (ap (λ n. with_note (ripe n) cpu) e)

-- an instruction of a processor whose note is ripe
pub ripe-runs : {Held : Type 0} (acts : Acts Held) (cpu : Cpu) (held : Held) (now : Cpu) (kept : Held) → cpu.note ≢ Due
    →
    now ≡ with_note (ripe cpu.note) cpu → kept ≡ held
    → instruction acts now kept ≡ ripened (on_note cpu.note acts cpu held)
ripe-runs acts cpu held now kept not_due c h =
    (λ i. instruction acts (c i) (h i)) ∙ instruction-ripe acts cpu held not_due

-- a unit of a processor that is not jammed
pub unit-active : {Held : Type 0} (acts : Acts Held) (cpu : Cpu) (held : Held) → cpu.jammed ≡ false
    → unit_of acts cpu held ≡ noted cpu.note (active acts cpu held)
unfolding unit_of
unit-active acts cpu held runs = cond-false _ _ _ runs

-- an operation on the byte that its mode gives is what is left to do, where it is given one
given-finished : (kind : Kind) (op : Op) (mode : Mode) (n : ℕ) (cpu : Cpu) → (kind ≡ Read) ⊎ (kind ≡ Modify) →
    done op mode (given kind n) cpu ≡ finished kind op mode n cpu
given-finished Read op mode n cpu is = refl
given-finished Modify op mode n cpu is = refl
given-finished Write op mode n cpu (inl e) = cc
given-finished Write op mode n cpu (inr e) = cc

-- the accesses of a mode and then the operation are the rest of the instruction
pub mode-ends : {Held : Type 0} (acts : Acts Held) (row : OpRow) (w : Walk Held) (byte : ℕ) (cpu now : Cpu)
    (held : Held) (rises : Watched) →
    (row.kind ≡ Read) ⊎ (row.kind ≡ Modify) →
    EndsAs (walk acts row.op (by_mode row.mode row.kind) (opened ByMode w)) cpu held rises →
    byte ≡ given row.kind (walk acts row.op (by_mode row.mode row.kind) (opened ByMode w)).data_ →
    now ≡ done row.op row.mode byte cpu → EndsAs (rest_by acts ByMode row w) now held rises
unfolding rest_by
mode-ends acts row w byte cpu now held rises is ends byte_is done_is =
    let v : Walk _ = walk acts row.op (by_mode row.mode row.kind) (opened ByMode w) in
    record {
      cpu = done_is ∙ (λ i. done row.op row.mode (byte_is i) (ends.cpu i))
          ∙ given-finished row.kind row.op row.mode v.data_ v.cpu is;
      held = ends.held;
      rises = ends.rises
          ∙ ap (λ (b : Bool). record { edges = v.rises; line = b })
          (sym (finished-line row.kind row.op row.mode v.data_ v.cpu));
    }
