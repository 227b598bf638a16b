-- Where an instruction leaves PC, and whether it jams.
use Rattle.std.proofs.Common.{◌≡◌, ℕ, ◌+◌, ◌%◌, ◌<◌, Bool, true, false, not, ◌&&◌, ◌||◌, ◌==◌, cond, List, [], ◌∷◌, refl, ap, ◌∙◌, arith}
use Rattle.std.proofs.lemmas.Bool.Decides.{nat_tests}
use Rattle.nj_isa.proofs.Published.{agree}
use Rattle.nj_isa.specs.Bus.{Acts}
use Rattle.nj_isa.specs.Table.{row_of}
use Rattle.nj_isa.specs.Accesses.{Place, AtPc, AtBranchLow, Transfer, Ignores, ToLow, ToHigh, ToPointer, ToPage, ToData, ToFlags, PutsStored, PutsData, PutsChanged, PutsPcHigh, PutsPcLow, PutsFlags, Move, Stay, PcUp, StackUp, StackDown, Jump, JumpPast, PointerUp, Mask, When, Always, Carried, Taken, TakenAway, Access, only, fetch, branch, accesses, class_of}
use Rattle.nj_isa.specs.Timing.{accesses_of, is_jam, jams}
use Rattle.nj_isa.specs.declared.operations.Op.{Op}
use Rattle.nj_isa.specs.declared.operations.Op.TheVariants.{Asl, Rol, Lsr, Ror, Jmp, Jam}
use Rattle.nj_isa.specs.declared.modes.Mode.{Mode}
use Rattle.nj_isa.specs.declared.modes.Mode.TheVariants.{Accumulator, Indirect}
use Rattle.nj_isa.specs.declared.modes.Kind.{Kind}
use Rattle.nj_isa.specs.declared.modes.Kind.TheVariants.{Read, Write, Modify}
use Rattle.nj_isa.specs.declared.classes.Class.{Class}
use Rattle.nj_isa.specs.declared.classes.Class.TheVariants.{ByMode, Branches, Jumps, JumpsIndirect, Calls, Returns, ReturnsFromInterrupt, Breaks, PushesA, PushesFlags, PullsA, PullsFlags, Jams}
use Rattle.nj_isa.specs.declared.table.OpRow.{OpRow}
use Rattle.nj_cpu.specs.declared.state.Cpu.{Cpu}
use Rattle.nj_cpu.specs.Effects.{is_taken, shifted, joined, done}
use Rattle.nj_cpu.specs.Walk.{Walk, address_of, is_made, read_at, transferred, moved, step, walk}
use Rattle.nj_cpu.specs.Unit.{Unit, opened, finished, branched, settled, rest_by, rest_of, unit_of, end_of}
use Rattle.nj_cpu.specs.Laws.{Runs, branches, goes_on_in, goes_on, bytes_of}
use Rattle.nj_cpu.proofs.Runs.{opcode_read, unit-runs}

-- an operation moves no PC and jams nothing
pub record Stays (old new : Cpu) : Type 0 where
  pub pc : new.pc ≡ old.pc
  pub jammed : new.jammed ≡ old.jammed

shifted-stays : (op : Op) (mode : Mode) (value : ℕ) (cpu : Cpu) → Stays cpu (shifted op mode value cpu)
shifted-stays op Accumulator value cpu = record { pc = refl; jammed = refl }
shifted-stays op _ value cpu = record { pc = refl; jammed = refl }

done-stays : (op : Op) (mode : Mode) (value : ℕ) (cpu : Cpu) → Stays cpu (done op mode value cpu)
unfolding done joined
done-stays Asl mode value cpu = shifted-stays Asl mode value cpu
done-stays Lsr mode value cpu = shifted-stays Lsr mode value cpu
done-stays Rol mode value cpu = shifted-stays Rol mode value cpu
done-stays Ror mode value cpu = shifted-stays Ror mode value cpu
done-stays _ mode value cpu = record { pc = refl; jammed = refl }

finished-stays : (kind : Kind) (op : Op) (mode : Mode) (value : ℕ) (cpu : Cpu)
    → Stays cpu (finished kind op mode value cpu)
finished-stays Read op mode value cpu = done-stays op mode value cpu
finished-stays Write op mode value cpu = record { pc = refl; jammed = refl }
finished-stays Modify op mode value cpu = done-stays op mode value cpu

transferred-stays : {Held : Type 0} (acts : Acts Held) (op : Op) (t : Transfer) (at : ℕ) (w : Walk Held)
    → Stays w.cpu (transferred acts op t at w).cpu
transferred-stays acts op Ignores at w = record { pc = refl; jammed = refl }
transferred-stays acts op ToLow at w = record { pc = refl; jammed = refl }
transferred-stays acts op ToHigh at w = record { pc = refl; jammed = refl }
transferred-stays acts op ToPointer at w = record { pc = refl; jammed = refl }
transferred-stays acts op ToPage at w = record { pc = refl; jammed = refl }
transferred-stays acts op ToData at w = record { pc = refl; jammed = refl }
transferred-stays acts op ToFlags at w = record { pc = refl; jammed = refl }
transferred-stays acts op PutsStored at w = record { pc = refl; jammed = refl }
transferred-stays acts op PutsData at w = record { pc = refl; jammed = refl }
transferred-stays acts op PutsChanged at w = record { pc = refl; jammed = refl }
transferred-stays acts op PutsPcHigh at w = record { pc = refl; jammed = refl }
transferred-stays acts op PutsPcLow at w = record { pc = refl; jammed = refl }
transferred-stays acts op (PutsFlags bit) at w = record { pc = refl; jammed = refl }

moved-jammed : {Held : Type 0} (m : Move) (w : Walk Held) → (moved m w).cpu.jammed ≡ w.cpu.jammed
moved-jammed Stay w = refl
moved-jammed PcUp w = refl
moved-jammed StackUp w = refl
moved-jammed StackDown w = refl
moved-jammed Jump w = refl
moved-jammed JumpPast w = refl
moved-jammed PointerUp w = refl
moved-jammed Mask w = refl

chosen-jammed : {Held : Type 0} (b : Bool) (v w : Walk Held) → v.cpu.jammed ≡ w.cpu.jammed
    → (cond b v w).cpu.jammed ≡ w.cpu.jammed
chosen-jammed true v w e = e
chosen-jammed false v w e = refl

step-jammed : {Held : Type 0} (acts : Acts Held) (op : Op) (a : Access) (w : Walk Held)
    → (step acts op a w).cpu.jammed ≡ w.cpu.jammed
step-jammed acts op a w =
    let v : Walk _ = transferred acts op a.transfer (address_of a.place w) w in
    chosen-jammed (is_made a.when_ op w) (moved a.then_ v) w (moved-jammed a.then_ v
    ∙ (transferred-stays acts op a.transfer (address_of a.place w) w).jammed)

-- no access jams
pub walk-jammed : {Held : Type 0} (acts : Acts Held) (op : Op) (xs : List Access) (w : Walk Held)
    → (walk acts op xs w).cpu.jammed ≡ w.cpu.jammed
walk-jammed acts op [] w = refl
walk-jammed acts op (a ∷ rest) w = walk-jammed acts op rest (step acts op a w) ∙ step-jammed acts op a w

branched-jammed : (b : Bool) (offset : ℕ) (cpu : Cpu) → (branched b offset cpu).jammed ≡ cpu.jammed
branched-jammed true offset cpu = refl
branched-jammed false offset cpu = refl

abbrev pub is_jam_class : Class → Bool
is_jam_class Jams = true
is_jam_class _ = false

opened-jammed : {Held : Type 0} (class : Class) (w : Walk Held) → (opened class w).cpu.jammed ≡ w.cpu.jammed
opened-jammed ByMode w = refl
opened-jammed Branches w = refl
opened-jammed Jumps w = refl
opened-jammed JumpsIndirect w = refl
opened-jammed Calls w = refl
opened-jammed Returns w = refl
opened-jammed ReturnsFromInterrupt w = refl
opened-jammed Breaks w = refl
opened-jammed PushesA w = refl
opened-jammed PushesFlags w = refl
opened-jammed PullsA w = refl
opened-jammed PullsFlags w = refl
opened-jammed Jams w = refl

settled-jammed : {Held : Type 0} (class : Class) (row : OpRow) (w : Walk Held) → w.cpu.jammed ≡ false
    → (settled class row w).jammed ≡ is_jam_class class
settled-jammed ByMode row w e = (finished-stays row.kind row.op row.mode w.data_ w.cpu).jammed ∙ e
settled-jammed Branches row w e = branched-jammed (is_taken row.op w.cpu.flags) w.data_ w.cpu ∙ e
settled-jammed Jams row w e = refl
settled-jammed Jumps row w e = e
settled-jammed JumpsIndirect row w e = e
settled-jammed Calls row w e = e
settled-jammed Returns row w e = e
settled-jammed ReturnsFromInterrupt row w e = e
settled-jammed Breaks row w e = e
settled-jammed PushesA row w e = e
settled-jammed PushesFlags row w e = e
settled-jammed PullsA row w e = e
settled-jammed PullsFlags row w e = e

-- the class of a jam is that of the jams alone
class-jams : (op : Op) (mode : Mode) → is_jam_class (class_of op mode) ≡ is_jam op
unfolding class_of
class-jams Jmp Indirect = refl
class-jams Jmp _ = refl
class-jams Jam mode = refl
class-jams _ mode = refl

rest-jammed : {Held : Type 0} (acts : Acts Held) (row : OpRow) (w : Walk Held) → w.cpu.jammed ≡ false
    → (rest_of acts row w).cpu.jammed ≡ is_jam row.op
unfolding rest_of rest_by
rest-jammed acts row w e =
    let class : Class = class_of row.op row.mode in
    settled-jammed class row (walk acts row.op (accesses class row.mode row.kind) (opened class w))
    (walk-jammed acts row.op (accesses class row.mode row.kind) (opened class w) ∙ opened-jammed class w ∙ e)
    ∙ class-jams row.op row.mode

-- a unit ends as jammed where its opcode jams
pub unit-jams : {Held : Type 0} (acts : Acts Held) (cpu : Cpu) (held : Held) (opcode : ℕ) → Runs acts cpu held opcode
    → (unit_of acts cpu held).end_ ≡ end_of (jams opcode)
unfolding jams
unit-jams acts cpu held opcode runs =
    ap (λ (u : Unit _). u.end_) (unit-runs acts cpu held opcode runs)
    ∙ ap end_of (rest-jammed acts (row_of opcode) (opcode_read acts cpu held) runs.not_jammed)

-- a move that leaves PC
abbrev pub is_still : Move → Bool
is_still PcUp = false
is_still Jump = false
is_still JumpPast = false
is_still _ = true

-- an access that leaves PC, or one that is always made and moves PC up
abbrev pub steps_straight : When → Move → Bool
steps_straight Always PcUp = true
steps_straight when_ m = is_still m

abbrev pub ups : Move → ℕ
ups PcUp = 1
ups _ = 0

abbrev pub is_straight : List Access → Bool
is_straight [] = true
is_straight (a ∷ rest) = steps_straight a.when_ a.then_ && is_straight rest

abbrev pub ups_in : List Access → ℕ
ups_in [] = 0
ups_in (a ∷ rest) = ups a.then_ + ups_in rest

-- the processor has moved on by so many bytes
chosen-pc : {Held : Type 0} (b : Bool) (v w : Walk Held) → v.cpu.pc ≡ w.cpu.pc → w.cpu.pc < 65536
    → (cond b v w).cpu.pc ≡ (w.cpu.pc + 0) % 65536
chosen-pc true v w e h = omega arith
chosen-pc false v w e h = omega arith

both_true : (a b : Bool) → (a && b) ≡ true → (a ≡ true) × (b ≡ true)
both_true true true e = (refl, refl)
both_true true false e = cc
both_true false b e = cc

not_straight_jump : (when_ : When) → steps_straight when_ Jump ≡ true → ⊥
not_straight_jump Always s = cc
not_straight_jump (Carried i) s = cc
not_straight_jump Taken s = cc
not_straight_jump TakenAway s = cc

not_straight_past : (when_ : When) → steps_straight when_ JumpPast ≡ true → ⊥
not_straight_past Always s = cc
not_straight_past (Carried i) s = cc
not_straight_past Taken s = cc
not_straight_past TakenAway s = cc

step-pc : {Held : Type 0} (acts : Acts Held) (op : Op) (when_ : When) (p : Place) (t : Transfer) (m : Move)
    (w : Walk Held) → steps_straight when_ m ≡ true → w.cpu.pc < 65536
    → (step acts op (record { when_ = when_; place = p; transfer = t; then_ = m }) w).cpu.pc
    ≡ (w.cpu.pc + ups m) % 65536
step-pc acts op Always p t PcUp w s h = ap (λ n. (n + 1) % 65536) (transferred-stays acts op t (address_of p w) w).pc
step-pc acts op (Carried i) p t PcUp w s h = cc
step-pc acts op Taken p t PcUp w s h = cc
step-pc acts op TakenAway p t PcUp w s h = cc
step-pc acts op when_ p t Jump w s h = absurd (not_straight_jump when_ s)
step-pc acts op when_ p t JumpPast w s h = absurd (not_straight_past when_ s)
step-pc acts op when_ p t Stay w s h =
    chosen-pc (is_made when_ op w) (moved Stay (transferred acts op t (address_of p w) w)) w
    (transferred-stays acts op t (address_of p w) w).pc h
step-pc acts op when_ p t StackUp w s h =
    chosen-pc (is_made when_ op w) (moved StackUp (transferred acts op t (address_of p w) w)) w
    (transferred-stays acts op t (address_of p w) w).pc h
step-pc acts op when_ p t StackDown w s h =
    chosen-pc (is_made when_ op w) (moved StackDown (transferred acts op t (address_of p w) w)) w
    (transferred-stays acts op t (address_of p w) w).pc h
step-pc acts op when_ p t PointerUp w s h =
    chosen-pc (is_made when_ op w) (moved PointerUp (transferred acts op t (address_of p w) w)) w
    (transferred-stays acts op t (address_of p w) w).pc h
step-pc acts op when_ p t Mask w s h =
    chosen-pc (is_made when_ op w) (moved Mask (transferred acts op t (address_of p w) w)) w
    (transferred-stays acts op t (address_of p w) w).pc h

pub walk-pc : {Held : Type 0} (acts : Acts Held) (op : Op) (xs : List Access) (w : Walk Held) → is_straight xs ≡ true
    → w.cpu.pc < 65536 → (walk acts op xs w).cpu.pc ≡ (w.cpu.pc + ups_in xs) % 65536
walk-pc acts op [] w s h = omega arith
walk-pc acts op (a ∷ rest) w s h =
    let parts : (steps_straight a.when_ a.then_ ≡ true) × (is_straight rest ≡ true) =
    both_true (steps_straight a.when_ a.then_) (is_straight rest) s in
    let here : (step acts op a w).cpu.pc ≡ (w.cpu.pc + ups a.then_) % 65536 =
    step-pc acts op a.when_ a.place a.transfer a.then_ w parts.0 h in
    let within : (step acts op a w).cpu.pc < 65536 = omega arith in
    let then : (walk acts op rest (step acts op a w)).cpu.pc ≡ ((step acts op a w).cpu.pc + ups_in rest) % 65536 =
    walk-pc acts op rest (step acts op a w) parts.1 within in
    omega arith

-- each official instruction that goes on has a straight list of accesses, with a step for each byte behind the opcode
abbrev pub fits_length : ℕ → Bool
fits_length opcode =
    not (goes_on opcode)
    || (is_straight (accesses_of (row_of opcode)) && ((1 + ups_in (accesses_of (row_of opcode))) == bytes_of opcode))

pub all_fit : (opcode : ℕ) → opcode < 256 → fits_length opcode ≡ true
unfolding goes_on row_of class_of accesses_of bytes_of
all_fit opcode h = agree fits_length (λ _. true) refl opcode h

-- the two further cycles of a branch leave the flags
chosen-flags : {Held : Type 0} (b : Bool) (v w : Walk Held) → v.cpu.flags ≡ w.cpu.flags
    → (cond b v w).cpu.flags ≡ w.cpu.flags
chosen-flags true v w e = e
chosen-flags false v w e = refl

branch-flags : {Held : Type 0} (acts : Acts Held) (op : Op) (w : Walk Held)
    → (walk acts op branch w).cpu.flags ≡ w.cpu.flags
branch-flags acts op w =
    let u : Walk _ = step acts op (fetch ToData) w in
    let v : Walk _ = step acts op (only Taken AtPc Ignores Stay) u in
    chosen-flags (is_made TakenAway op v) (read_at acts (address_of AtBranchLow v) v) v refl
    ∙ chosen-flags (is_made Taken op u) (read_at acts (address_of AtPc u) u) u refl

not_branched : (b : Bool) (offset : ℕ) (cpu : Cpu) → b ≡ false → (branched b offset cpu).pc ≡ cpu.pc
not_branched false offset cpu e = refl
not_branched true offset cpu e = cc

-- what is left to do leaves PC
settled-pc : {Held : Type 0} (acts : Acts Held) (class : Class) (row : OpRow) (w : Walk Held) → goes_on_in class ≡ true
    → is_taken row.op w.cpu.flags ≡ false
    → (settled class row (walk acts row.op (accesses class row.mode row.kind) (opened class w))).pc
    ≡ (walk acts row.op (accesses class row.mode row.kind) (opened class w)).cpu.pc
settled-pc acts ByMode row w g t =
    let v : Walk _ = walk acts row.op (accesses ByMode row.mode row.kind) (opened ByMode w) in
    (finished-stays row.kind row.op row.mode v.data_ v.cpu).pc
settled-pc acts Branches row w g t =
    let v : Walk _ = walk acts row.op branch (opened Branches w) in
    not_branched (is_taken row.op v.cpu.flags) v.data_ v.cpu
    (ap (is_taken row.op) (branch-flags acts row.op (opened Branches w)) ∙ t)
settled-pc acts Jumps row w g t = cc
settled-pc acts JumpsIndirect row w g t = cc
settled-pc acts Calls row w g t = cc
settled-pc acts Returns row w g t = cc
settled-pc acts ReturnsFromInterrupt row w g t = cc
settled-pc acts Breaks row w g t = cc
settled-pc acts Jams row w g t = cc
settled-pc acts PushesA row w g t = refl
settled-pc acts PushesFlags row w g t = refl
settled-pc acts PullsA row w g t = refl
settled-pc acts PullsFlags row w g t = refl

opened-pc : {Held : Type 0} (class : Class) (w : Walk Held) → goes_on_in class ≡ true
    → (opened class w).cpu.pc ≡ (w.cpu.pc + 1) % 65536
opened-pc ByMode w g = refl
opened-pc Branches w g = refl
opened-pc Jumps w g = refl
opened-pc JumpsIndirect w g = refl
opened-pc Calls w g = refl
opened-pc Returns w g = refl
opened-pc ReturnsFromInterrupt w g = refl
opened-pc Breaks w g = refl
opened-pc PushesA w g = refl
opened-pc PushesFlags w g = refl
opened-pc PullsA w g = refl
opened-pc PullsFlags w g = refl
opened-pc Jams w g = cc

rest-pc : {Held : Type 0} (acts : Acts Held) (row : OpRow) (cpu : Cpu) (held : Held)
    → goes_on_in (class_of row.op row.mode) ≡ true → is_taken row.op cpu.flags ≡ false
    → is_straight (accesses_of row) ≡ true
    → (rest_of acts row (opcode_read acts cpu held)).cpu.pc ≡ (cpu.pc + (1 + ups_in (accesses_of row))) % 65536
unfolding rest_of rest_by accesses_of
rest-pc acts row cpu held g t s =
    let class : Class = class_of row.op row.mode in
    let xs : List Access = accesses class row.mode row.kind in
    let w : Walk _ = opened class (opcode_read acts cpu held) in
    let start : w.cpu.pc ≡ (cpu.pc + 1) % 65536 = opened-pc class (opcode_read acts cpu held) g in
    let within : w.cpu.pc < 65536 = omega arith in
    let walked : (walk acts row.op xs w).cpu.pc ≡ (w.cpu.pc + ups_in xs) % 65536 = walk-pc acts row.op xs w s within in
    let last : (settled class row (walk acts row.op xs w)).pc ≡ (walk acts row.op xs w).cpu.pc =
    settled-pc acts class row (opcode_read acts cpu held) g t in
    let sum : ((cpu.pc + 1) % 65536 + ups_in xs) % 65536 ≡ (cpu.pc + (1 + ups_in xs)) % 65536 = omega arith in
    last ∙ walked ∙ ap (λ n. (n + ups_in xs) % 65536) start ∙ sum

tests_met : (g s e : Bool) → (not g || (s && e)) ≡ true → g ≡ true → (s ≡ true) × (e ≡ true)
tests_met true true true h g = (refl, refl)
tests_met true true false h g = cc
tests_met true false e h g = cc
tests_met false s e h g = cc

equal_lengths : (a b : ℕ) → (a == b) ≡ true → a ≡ b
equal_lengths a b h = grind (arith, nat_tests)

class_goes : (opcode : ℕ) → goes_on opcode ≡ true → goes_on_in (class_of (row_of opcode).op (row_of opcode).mode) ≡ true
unfolding goes_on
class_goes opcode h = h

-- an instruction that goes on behind itself moves PC by its length
pub unit-pc : {Held : Type 0} (acts : Acts Held) (cpu : Cpu) (held : Held) (opcode : ℕ) → Runs acts cpu held opcode
    → opcode < 256 → goes_on opcode ≡ true → branches cpu opcode ≡ false
    → (unit_of acts cpu held).cpu.pc ≡ (cpu.pc + bytes_of opcode) % 65536
unit-pc acts cpu held opcode runs byte on not_taken =
    let row : OpRow = row_of opcode in
    let met : (is_straight (accesses_of row) ≡ true) × (((1 + ups_in (accesses_of row)) == bytes_of opcode) ≡ true) =
    tests_met (goes_on opcode) (is_straight (accesses_of row)) ((1 + ups_in (accesses_of row)) == bytes_of opcode)
    (all_fit opcode byte) on in
    ap (λ (u : Unit _). u.cpu.pc) (unit-runs acts cpu held opcode runs)
    ∙ rest-pc acts row cpu held (class_goes opcode on) not_taken met.0
    ∙ ap (λ n. (cpu.pc + n) % 65536) (equal_lengths (1 + ups_in (accesses_of row)) (bytes_of opcode) met.1)
