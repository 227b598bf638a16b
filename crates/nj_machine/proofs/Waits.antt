-- A loop that waits: the machine's bus rests up to the picture's next event, and turns of the loop leave its frame.
use Rattle.std.proofs.Common.{◌≡◌, ℕ, zero, suc, ◌+◌, ◌-◌, ◌*◌, ◌/◌, ◌<◌, ◌≤◌, ◌%◌, ◌&&◌, inl, inr, Bool, true, false, true≢false, cond, not, nat_lt, nat_le, ◌==◌, if◌then◌else◌, List, slice_index, Option, Some, None, unwrap_or, refl, sym, ap, ◌∙◌, subst, arith}
use Rattle.std.proofs.Math.Nat.{mul_assoc, mul_left_comm}
use Rattle.std.proofs.lemmas.Bool.{cases_lt}
use Rattle.std.proofs.lemmas.Bool.Decides.{nat_tests}
use Rattle.nj_banked.specs.Banks.{Banks}
use Rattle.nj_banked.specs.Banked.{prg_byte, byte_at, pattern_of}
use Rattle.nj_cpu.specs.declared.state.Cpu.{Cpu}
use Rattle.nj_cpu.specs.declared.state.UnitEnd.TheVariants.{Done}
use Rattle.nj_cpu.specs.Unit.{Unit, unit_of}
use Rattle.nj_dots.specs.declared.screen.Screen.{Screen}
use Rattle.nj_dots.specs.Screen.{IsScreen, nmi_line_of}
use Rattle.nj_dots.specs.Dots.{dot_of, after_dots, to_event}
use Rattle.nj_dots.specs.Registers.{read_byte, after_read as screen_after_read}
use Rattle.nj_catchup.specs.Fixed.{IsFixed}
use Rattle.nj_pad.specs.Port.{bit_read}
use Rattle.nj_catchup.proofs.Calm.{nmi_line-after, ended-after}
use Rattle.nj_turns.specs.Dry.{is_status, told_byte, begun}
use Rattle.nj_turns.specs.Turn.{Leads, IsTurn, Rests, IsPlace, Turns}
use Rattle.nj_machine.specs.State.{Cells, State, rom_of}
use Rattle.nj_machine.specs.Wires.{Wired, dots_run, port_byte, answer, register_read, port_one_read, port_two_read, answered, over, byte_read, after_read, wires}
use Rattle.nj_machine.specs.Frame.{dots_left, end_by, unmarked, unit_step, frame, IsReady}
use Rattle.nj_machine.specs.Waiting.{Holds, IsWait}
use Rattle.nj_machine.specs.declared.FrameEnd.{FrameEnd}
use Rattle.nj_machine.proofs.Units.{Leaves, unit_leaves}
use Rattle.nj_machine.proofs.Fuel.{GoesOn, next_of, frame_goes_on}

-- a Bool turned so many times
turned : ℕ → Bool → Bool
turned zero b = b
turned (suc n) b = not (turned n b)

turned-twice : (n : ℕ) (b : Bool) → turned (2 * n) b ≡ b
unfolding turned
turned-twice zero b = refl
turned-twice (suc n) b =
    let next : 2 * suc n ≡ suc (suc (2 * n)) = omega arith in
    ap (λ m. turned m b) next ∙ back (turned (2 * n) b) ∙ turned-twice n b
  where
    back : (c : Bool) → not (not c) ≡ c
    back true = refl
    back false = refl

-- the cells some cycles later, in which memory alone was read, last this byte
passed : ℕ → ℕ → Cells → Cells
passed c last k =
    record k { screen = after_dots (3 * c) (pattern_of k.board) k.screen; bus_byte = last; odd = turned c k.odd }

-- the same with the frame's pad
pub later : ℕ → State → ℕ → ℕ → Wired
later pad s c last = record { cells = passed c last s.cells; pad = pad }

-- a byte of memory is what the machine answers, and a read of it changes nothing
pub record IsMemory (w : Wired) (at byte : ℕ) : Type 0 where
  pub answers : answer w at ≡ byte
  pub changes : answered w at ≡ w

if-true : {A : Type 0} (b : Bool) (x y : A) → b ≡ true → (if b then x else y) ≡ x
if-true true x y e = refl
if-true false x y e = absurd (true≢false (sym e))

if-false : {A : Type 0} (b : Bool) (x y : A) → b ≡ false → (if b then x else y) ≡ y
if-false true x y e = absurd (true≢false e)
if-false false x y e = refl

same-byte : (a b : ℕ) → Some a ≡ Some b → a ≡ b
same-byte a b e = cc

-- working memory
low-memory : (w : Wired) (status : Option ℕ) (at byte : ℕ) → nat_lt at 0x2000 ≡ true
    → told_byte w.cells.ram w.cells.board status at ≡ Some byte → IsMemory w at byte
unfolding told_byte answer answered
low-memory w status at byte low m = record {
  answers = if-true (nat_lt at 0x2000) _ _ low ∙ same-byte _ _ (sym (if-true (nat_lt at 0x2000) _ _ low) ∙ m);
  changes = if-true (nat_lt at 0x2000) _ _ low;
}

-- program memory
high-memory : (w : Wired) (at byte : ℕ) → nat_le 0x8000 at ≡ true → byte_at w.cells.board at ≡ Some byte
    → IsMemory w at byte
unfolding answer answered
high-memory w at byte high m =
    let a : nat_lt at 0x2000 ≡ false = grind (arith, nat_tests, high) in
    let b : nat_lt at 0x4000 ≡ false = grind (arith, nat_tests, high) in
    let c : (at == 0x4016) ≡ false = grind (arith, nat_tests, high) in
    let d : (at == 0x4017) ≡ false = grind (arith, nat_tests, high) in
    let e : nat_lt at 0x4020 ≡ false = grind (arith, nat_tests, high) in
    record {
      answers =
          if-false _ _ _ a ∙ if-false _ _ _ b ∙ if-false _ _ _ c ∙ if-false _ _ _ d ∙ if-false _ _ _ e
          ∙ ap (λ o. unwrap_or o w.cells.bus_byte) m;
      changes = if-false _ _ _ a ∙ if-false _ _ _ b ∙ if-false _ _ _ c ∙ if-false _ _ _ d;
    }

not-mapped : (b : Bool) (m : Banks) (at byte : ℕ) → nat_le 0x8000 at ≡ b → byte_at m at ≡ Some byte
    → nat_le 0x8000 at ≡ true
unfolding byte_at
not-mapped true m at byte e h = e
not-mapped false m at byte e h = let none : None ≡ Some byte = sym (if-false (nat_le 0x8000 at) _ _ e) ∙ h in cc

-- the status, where a read of it changes nothing
status-memory : (w : Wired) (at byte : ℕ) → nat_lt at 0x2000 ≡ false → is_status at ≡ true
    → read_byte 2 w.cells.screen ≡ byte →
    screen_after_read 2 (pattern_of w.cells.board) w.cells.screen ≡ w.cells.screen → IsMemory w at byte
unfolding answer answered register_read
status-memory w at byte low is told same =
    let b : nat_lt at 0x4000 ≡ true = grind (arith, nat_tests, is) in
    let two : at % 8 ≡ 2 = grind (arith, nat_tests, is) in
    record {
      answers = if-false _ _ _ low ∙ if-true _ _ _ b ∙ ap (λ reg. read_byte reg w.cells.screen) two ∙ told;
      changes =
          if-false _ _ _ low ∙ if-true _ _ _ b ∙ ap (λ reg. register_read reg w) two
          ∙ ap (λ x. record w { cells = (let c = w.cells in record c { screen = x }) }) same;
    }

-- a status that is told is the one that stays
told-status : (status : Option ℕ) (byte dots : ℕ) (p : List ℕ) (s : Screen) → status ≡ Some byte → Holds status dots p s
    → IsFixed byte dots p s
told-status None byte dots p s e h = absurd (cc)
told-status (Some v) byte dots p s e h = subst (λ n. IsFixed n dots p s) (same-byte v byte e) h

-- what a read of $2002 would find, if a status is told
record StaysAt (status : Option ℕ) (w : Wired) : Type 0 where
  byte : (v : ℕ) → status ≡ Some v → read_byte 2 w.cells.screen ≡ v
  same : (v : ℕ) → status ≡ Some v → screen_after_read 2 (pattern_of w.cells.board) w.cells.screen ≡ w.cells.screen

status-by : (b : Bool) (w : Wired) (status : Option ℕ) (at byte : ℕ) → is_status at ≡ b → nat_lt at 0x2000 ≡ false
    → StaysAt status w →
    (if is_status at then status else byte_at w.cells.board at) ≡ Some byte → IsMemory w at byte
status-by true w status at byte is low stays m =
    let told : status ≡ Some byte = sym (if-true (is_status at) _ _ is) ∙ m in
    status-memory w at byte low is (stays.byte byte told) (stays.same byte told)
status-by false w status at byte is low stays m =
    let mapped : byte_at w.cells.board at ≡ Some byte = sym (if-false (is_status at) _ _ is) ∙ m in
    high-memory w at byte (not-mapped (nat_le 0x8000 at) w.cells.board at byte refl mapped) mapped

memory-by : (b : Bool) (w : Wired) (status : Option ℕ) (at byte : ℕ) → nat_lt at 0x2000 ≡ b → StaysAt status w
    → told_byte w.cells.ram w.cells.board status at ≡ Some byte → IsMemory w at byte
unfolding told_byte
memory-by true w status at byte e stays m = low-memory w status at byte e m
memory-by false w status at byte e stays m =
    status-by (is_status at) w status at byte refl e stays (sym (if-false (nat_lt at 0x2000) _ _ e) ∙ m)

from-memory : (w : Wired) (status : Option ℕ) (at byte : ℕ) → StaysAt status w
    → told_byte w.cells.ram w.cells.board status at ≡ Some byte → IsMemory w at byte
from-memory w status at byte stays m = memory-by (nat_lt at 0x2000) w status at byte refl stays m

-- a cycle more
cycle-more : (pad : ℕ) (s : State) (c last byte : ℕ)
    → over byte (dots_run (later pad s c last)) ≡ later pad s (suc c) byte
unfolding over dots_run later passed turned after_dots
cycle-more pad s c last byte =
    let three : suc (suc (suc (3 * c))) ≡ 3 * suc c = omega arith in
    ap (λ n. record {
      cells =
          record s.cells {
            screen = after_dots n (pattern_of s.cells.board) s.cells.screen;
            bus_byte = byte;
            odd = not (turned c s.cells.odd);
          };
      pad = pad;
    }) three

-- a status that stays is found a cycle further
stays-later : (pad : ℕ) (s : State) (status : Option ℕ) (dots c last : ℕ)
    → Holds status dots (pattern_of s.cells.board) s.cells.screen → 3 * suc c < dots →
    StaysAt status (dots_run (later pad s c last))
unfolding dots_run later passed after_dots
stays-later pad s status dots c last holds below =
    let three : 3 * suc c ≡ suc (suc (suc (3 * c))) = omega arith in
    let p : List ℕ = pattern_of s.cells.board in
    record {
      byte = λ v e. (let f : IsFixed v dots p s.cells.screen = told-status status v dots p s.cells.screen e holds in
          subst (λ n. read_byte 2 (after_dots n p s.cells.screen) ≡ v) three (f.byte (3 * suc c) below));
      same = λ v e. (let f : IsFixed v dots p s.cells.screen = told-status status v dots p s.cells.screen e holds in
          subst (λ n. screen_after_read 2 p (after_dots n p s.cells.screen) ≡ after_dots n p s.cells.screen) three
          (f.same (3 * suc c) below));
    }

byte-later : (pad : ℕ) (s : State) (status : Option ℕ) (c last at byte : ℕ)
    → StaysAt status (dots_run (later pad s c last)) → told_byte s.cells.ram s.cells.board status at ≡ Some byte →
    byte_read (later pad s c last) at ≡ byte
unfolding byte_read dots_run later passed
byte-later pad s status c last at byte stays m =
    let memory : IsMemory (dots_run (later pad s c last)) at byte =
    from-memory (dots_run (later pad s c last)) status at byte stays m in memory.answers

read-later : (pad : ℕ) (s : State) (status : Option ℕ) (c last at byte : ℕ)
    → StaysAt status (dots_run (later pad s c last)) → told_byte s.cells.ram s.cells.board status at ≡ Some byte →
    after_read (later pad s c last) at ≡ later pad s (suc c) byte
unfolding after_read byte_read dots_run later passed
read-later pad s status c last at byte stays m =
    let memory : IsMemory (dots_run (later pad s c last)) at byte =
    from-memory (dots_run (later pad s c last)) status at byte stays m in
    (λ i. over (memory.answers i) (memory.changes i)) ∙ cycle-more pad s c last byte

line-later : (pad : ℕ) (s : State) (c last : ℕ) → IsScreen s.cells.screen → 3 * c < to_event s.cells.screen
    → nmi_line_of (later pad s c last).cells.screen ≡ nmi_line_of s.cells.screen
unfolding later passed
line-later pad s c last fits e = nmi_line-after (3 * c) (pattern_of s.cells.board) s.cells.screen fits e

page-later : (pad : ℕ) (s : State) (c last : ℕ) → s.cells.page ≡ None → (later pad s c last).cells.page ≡ None
unfolding later passed
page-later pad s c last page = page

-- the machine's bus rests
machine-rests : (pad : ℕ) (s : State) (status : Option ℕ) (dots limit : ℕ) → IsScreen s.cells.screen
    → s.cells.page ≡ None → 3 * limit < to_event s.cells.screen →
    Holds status dots (pattern_of s.cells.board) s.cells.screen → 3 * limit < dots →
    Rests wires (later pad s) s.cells.ram s.cells.board status (nmi_line_of s.cells.screen) limit
machine-rests pad s status dots limit fits page below holds known = record {
  byte = λ c last at byte within m. byte-later pad s status c last at byte
      (stays-later pad s status dots c last holds (omega (arith, within, known))) m;
  after = λ c last at byte within m. read-later pad s status c last at byte
      (stays-later pad s status dots c last holds (omega (arith, within, known))) m;
  line_is = λ c last within. line-later pad s c last fits (omega (arith, within, below));
  no_page = λ c last within. page-later pad s c last page;
}

-- another state of the same frame, no further from its end
pub record Waited (pad : ℕ) (s t : State) : Type 0 where
  pub ready : IsReady t
  pub of_rom : rom_of t ≡ rom_of s
  pub same : frame t pad ≡ frame s pad
  pub fewer : dots_left t ≤ dots_left s

-- the state of a processor and its surroundings
abbrev state_of : Cpu → Wired → State
state_of c k = record { cpu = c; cells = k.cells }

-- within the rest no end is marked
clear-later : (pad : ℕ) (s : State) (limit : ℕ) (k : Wired) → IsReady s → 3 * limit < to_event s.cells.screen
    → IsPlace (later pad s) limit k → k.cells.screen.ended ≡ false
unfolding later passed
clear-later pad s limit k h below p =
    ap (λ w. w.cells.screen.ended) p.at_
    ∙ ended-after (3 * p.after_cycles) (pattern_of s.cells.board) s.cells.screen h.sized.screen
    (omega (arith, p.within, below)) ∙ h.clear

pad-later : (pad : ℕ) (s : State) (limit : ℕ) (k : Wired) → IsPlace (later pad s) limit k → k.pad ≡ pad
unfolding later
pad-later pad s limit k p = ap (λ w. w.pad) p.at_

-- the unit of such a place as a step of the machine
as-step : (pad : ℕ) (c : Cpu) (k : Wired) (last : Cpu) (kept : Wired) → k.pad ≡ pad
    → unit_of wires c k ≡ record { cpu = last; held = kept; end_ = Done } → kept.cells.screen.ended ≡ false →
    unit_step pad (state_of c k) ≡ (state_of last kept, None)
unfolding unit_step
as-step pad c k last kept same unit clear =
    let here : unit_of wires c (record { cells = k.cells; pad = pad })
    ≡ record { cpu = last; held = kept; end_ = Done } =
    (λ i. unit_of wires c (record { cells = k.cells; pad = sym same i })) ∙ unit in
    ap (λ (u : Unit Wired). (
      record { cpu = u.cpu; cells = unmarked u.held.cells },
      end_by u.end_ u.held.cells.screen.ended,
    )) here
    ∙ (λ i. (
      record {
        cpu = last;
        cells = (let x = kept.cells in record x { screen = (let y = x.screen in record y { ended = sym clear i }) });
      },
      end_by Done (clear i),
    ))

record Going (pad : ℕ) (s : State) (c : Cpu) (k : Wired) : Type 0 where
  waited : Waited pad s (state_of c k)
  pad_is : k.pad ≡ pad

goes-more : (pad : ℕ) (s : State) (limit : ℕ) (c : Cpu) (k : Wired) (last : Cpu) (kept : Wired) → IsReady s
    → 3 * limit < to_event s.cells.screen →
    unit_of wires c k ≡ record { cpu = last; held = kept; end_ = Done } → IsPlace (later pad s) limit kept
    → Going pad s c k → Going pad s last kept
goes-more pad s limit c k last kept h below unit stays g =
    let t : State = state_of c k in
    let step : unit_step pad t ≡ (state_of last kept, None) =
    as-step pad c k last kept g.pad_is unit (clear-later pad s limit kept h below stays) in
    let next : GoesOn t (state_of last kept) = next_of pad t (state_of last kept) g.waited.ready step in
    let left : Leaves t (state_of last kept) = subst (λ x. Leaves t x.0) step (unit_leaves pad t g.waited.ready) in
    record {
      waited = record {
        ready = next.ready;
        of_rom = left.of_rom ∙ g.waited.of_rom;
        same = frame_goes_on t (state_of last kept) pad g.waited.ready step ∙ g.waited.same;
        fewer = omega (arith, next.fewer, g.waited.fewer);
      };
      pad_is = pad-later pad s limit kept stays;
    }

at-once : (pad : ℕ) (s : State) → IsReady s → Going pad s s.cpu (later pad s 0 s.cells.bus_byte)
unfolding later passed turned after_dots
at-once pad s h =
    record { waited = record { ready = h; of_rom = refl; same = refl; fewer = omega arith }; pad_is = refl }

going : (pad : ℕ) (s : State) (limit n : ℕ) (last : Cpu) (kept : Wired) → IsReady s
    → 3 * limit < to_event s.cells.screen →
    Leads wires (IsPlace (later pad s) limit) n s.cpu (later pad s 0 s.cells.bus_byte) last kept → Going pad s last kept
going pad s limit zero last kept h below run =
    subst (λ c. Going pad s c kept) (sym run.cpu_is)
    (subst (λ k. Going pad s s.cpu k) (sym run.held_is) (at-once pad s h))
going pad s limit (suc n) last kept h below run =
    goes-more pad s limit run.cpu run.held last kept h below run.unit run.stays
    (going pad s limit n run.cpu run.held h below run.before)

-- an even number of turns, by its dots
pub dots-on : ℕ → State → State
dots-on dots s =
    record s { cells = (let k = s.cells in record k { screen = after_dots dots (pattern_of k.board) k.screen }) }

even-later : (pad : ℕ) (s : State) (q cycles : ℕ)
    → state_of s.cpu (later pad s (2 * q * cycles) s.cells.bus_byte) ≡ dots-on (q * (6 * cycles)) s
unfolding later passed dots-on
even-later pad s q cycles =
    let twice : 2 * q * cycles ≡ 2 * (q * cycles) = mul_assoc 2 q cycles in
    let even : turned (2 * q * cycles) s.cells.odd ≡ s.cells.odd =
    ap (λ n. turned n s.cells.odd) twice ∙ turned-twice (q * cycles) s.cells.odd in
    let six : q * (6 * cycles) ≡ 6 * (q * cycles) = mul_left_comm q 6 cycles in
    let dots : 3 * (2 * q * cycles) ≡ q * (6 * cycles) = omega (arith, twice, six) in
    (λ i. record s {
      cells =
          (let k = s.cells in record k { screen = after_dots (dots i) (pattern_of k.board) k.screen; odd = even i });
    })

turns-wait : (pad : ℕ) (s : State) (q cycles : ℕ) → IsReady s → q * (6 * cycles) < to_event s.cells.screen →
    Turns wires (later pad s) (2 * q * cycles) s.cpu s.cells.bus_byte (2 * q * cycles)
    → Waited pad s (dots-on (q * (6 * cycles)) s)
turns-wait pad s q cycles h below t =
    let twice : 2 * q * cycles ≡ 2 * (q * cycles) = mul_assoc 2 q cycles in
    let six : q * (6 * cycles) ≡ 6 * (q * cycles) = mul_left_comm q 6 cycles in
    let g : Going pad s s.cpu (later pad s (2 * q * cycles) s.cells.bus_byte) =
    going pad s (2 * q * cycles) t.units s.cpu (later pad s (2 * q * cycles) s.cells.bus_byte) h
    (omega (arith, twice, six, below)) t.run in
    subst (Waited pad s) (even-later pad s q cycles) g.waited

-- what the law of dry turns says of the machine's bus
abbrev pub DryTurnsAreTurns : Type 0
DryTurnsAreTurns =
    (place : ℕ → ℕ → Wired) (ram : List ℕ) (board : Banks) (status : Option ℕ) (line : Bool) (limit : ℕ)
    → Rests wires place ram board status line limit → (cpu : Cpu) (last cycles n : ℕ) →
    IsTurn cpu (begun ram board status line last) cycles → n * cycles ≤ limit
    → Turns wires place limit cpu last (n * cycles)

-- no turn was passed over
no-dots : (pad n : ℕ) (s : State) → IsReady s → n ≡ 0 → Waited pad s (dots-on n s)
unfolding dots-on after_dots
no-dots pad n s h none =
    subst (λ k. Waited pad s (dots-on k s)) (sym none)
    (record { ready = h; of_rom = refl; same = refl; fewer = omega arith })

some-turns : (pad : ℕ) (s : State) (q cycles dots : ℕ) → DryTurnsAreTurns → IsReady s → IsWait s.cpu s.cells cycles dots
    → 0 < q * (6 * cycles) → q * (6 * cycles) < dots →
    Waited pad s (dots-on (q * (6 * cycles)) s)
some-turns pad s q cycles dots law h wait some within =
    let limit : ℕ = 2 * q * cycles in
    let twice : 2 * q * cycles ≡ 2 * (q * cycles) = mul_assoc 2 q cycles in
    let six : q * (6 * cycles) ≡ 6 * (q * cycles) = mul_left_comm q 6 cycles in
    let known : 3 * limit < dots = omega (arith, twice, six, within) in
    let early : q * (6 * cycles) < to_event s.cells.screen = omega (arith, within, wait.before_event) in
    let below : 3 * limit < to_event s.cells.screen = omega (arith, known, wait.before_event) in
    let rests : Rests wires (later pad s) s.cells.ram s.cells.board wait.status (nmi_line_of s.cells.screen) limit =
    machine-rests pad s wait.status dots limit h.sized.screen wait.no_page below wait.holds known in
    turns-wait pad s q cycles h early
    (law (later pad s) s.cells.ram s.cells.board wait.status (nmi_line_of s.cells.screen) limit rests s.cpu
    s.cells.bus_byte cycles (2 * q) (wait.turn (omega (arith, some, within))) (omega arith))

waits : (pad : ℕ) (s : State) (q cycles dots : ℕ) → DryTurnsAreTurns → IsReady s → IsWait s.cpu s.cells cycles dots
    → (0 < q * (6 * cycles) → q * (6 * cycles) < dots) →
    Waited pad s (dots-on (q * (6 * cycles)) s)
waits pad s q cycles dots law h wait within = elim (cases_lt 0 (q * (6 * cycles))) [
  | inl some ↦ some-turns pad s q cycles dots law h wait some (within some)
  | inr none ↦ no-dots pad (q * (6 * cycles)) s h (omega (arith, none))
]

-- turns were passed over: each frame is the same, whatever its pad
pub record PassedOver (s t : State) : Type 0 where
  pub ready : IsReady t
  pub of_rom : rom_of t ≡ rom_of s
  pub same : (pad : ℕ) → frame t pad ≡ frame s pad
  pub fewer : dots_left t ≤ dots_left s

pub passed-over : (s : State) (cycles known dots : ℕ) (pattern : List ℕ) (old new : List ℕ → Screen) → DryTurnsAreTurns
    → IsReady s → old (pattern_of s.cells.board) ≡ s.cells.screen →
    IsWait s.cpu s.cells cycles known → ((q : ℕ) × (dots ≡ q * (6 * cycles))) → (0 < dots → dots < known)
    → pattern ≡ pattern_of s.cells.board →
    new pattern ≡ after_dots dots pattern (old pattern) →
    PassedOver s (record s { cells = (let k = s.cells in record k { screen = new (pattern_of k.board) }) })
unfolding dots-on
passed-over s cycles known dots pattern old new law h was wait whole within same run =
    let q : ℕ = whole.0 in
    let p : List ℕ = pattern_of s.cells.board in
    let ran : after_dots (q * (6 * cycles)) p s.cells.screen ≡ new p =
    ap (λ n. after_dots n p s.cells.screen) (sym whole.1) ∙ ap (after_dots dots p) (sym was)
    ∙ sym (subst (λ x. new x ≡ after_dots dots x (old x)) same run) in
    let close : 0 < q * (6 * cycles) → q * (6 * cycles) < known = subst (λ n. 0 < n → n < known) whole.1 within in
    let w : (pad : ℕ)
    → Waited pad s (record s { cells = (let k = s.cells in record k { screen = new (pattern_of k.board) }) }) =
    λ pad. subst (λ x. Waited pad s (record s { cells = (let k = s.cells in record k { screen = x }) })) ran
    (waits pad s q cycles known law h wait close) in
    record { ready = (w 0).ready; of_rom = (w 0).of_rom; same = λ pad. (w pad).same; fewer = (w 0).fewer }
