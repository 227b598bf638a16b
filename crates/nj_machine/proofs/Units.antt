-- What a unit of the machine leaves.
use Rattle.std.proofs.Common.{◌≡◌, ◌↔◌, ℕ, ◌<◌, Bool, true, false, true≢false, if◌then◌else◌, Some, None, refl, sym, ap, subst, ◌∙◌, arith}
use Rattle.std.proofs.lemmas.Bool.Decides.{nat_tests}
use Rattle.nj_cpu.specs.declared.state.UnitEnd.{UnitEnd}
use Rattle.nj_cpu.specs.declared.state.UnitEnd.TheVariants.{Done, Jammed as JammedUnit}
use Rattle.nj_cpu.specs.declared.state.Cpu.{Cpu}
use Rattle.nj_isa.specs.Bus.{Acts}
use Rattle.nj_cpu.specs.Unit.{Unit, end_of, unit_of}
use Rattle.nj_dots.specs.declared.screen.Screen.{Screen}
use Rattle.nj_machine.specs.State.{Cells, State, rom_of, is_jammed}
use Rattle.nj_machine.specs.Wires.{Wired, wires}
use Rattle.nj_machine.specs.Frame.{left_at, dots_left, end_by, unmarked, unit_step, IsReady}
use Rattle.nj_machine.specs.Seen.{end_told}
use Rattle.nj_machine.specs.declared.seeing.UnitStep.{UnitStep}
use Rattle.nj_machine.specs.declared.seeing.UnitStep.TheVariants.{More, Picture as AtPicture, Jammed as StepJammed}
use Rattle.nj_machine.specs.declared.FrameEnd.{FrameEnd}
use Rattle.nj_machine.specs.declared.FrameEnd.TheVariants.{Jammed}
use Rattle.nj_cpu.proofs.Lower.{unit-lower}
use Rattle.nj_machine.proofs.Dots.{still}
use Rattle.nj_machine.proofs.Accesses.{Keeps, left_of, wires-lower}

-- a unit of a jammed one is nothing
nothing-by : {Held : Type 0} (b : Bool) (u v : Unit Held) → b ≡ true → (if b then u else v) ≡ u
nothing-by true u v e = refl
nothing-by false u v e = absurd (true≢false (sym e))

unit-jammed : {Held : Type 0} (acts : Acts Held) (cpu : Cpu) (held : Held) → cpu.jammed ≡ true →
    unit_of acts cpu held ≡ record { cpu = cpu; held = held; end_ = JammedUnit }
unfolding unit_of
unit-jammed acts cpu held jammed = nothing-by cpu.jammed _ _ jammed

-- a unit tells whether the processor is jammed behind it
end-by : {Held : Type 0} (b : Bool) (u v : Unit Held) → (b ≡ true → u.end_ ≡ end_of u.cpu.jammed)
    → v.end_ ≡ end_of v.cpu.jammed →
    (if b then u else v).end_ ≡ end_of (if b then u else v).cpu.jammed
end-by true u v p q = p refl
end-by false u v p q = q

unit-end : {Held : Type 0} (acts : Acts Held) (cpu : Cpu) (held : Held) →
    (unit_of acts cpu held).end_ ≡ end_of (unit_of acts cpu held).cpu.jammed
unfolding unit_of
unit-end acts cpu held = end-by cpu.jammed _ _ (λ e. ap end_of (sym e)) refl

-- the processor's surroundings in a frame with this pad, and its next unit
abbrev wired : ℕ → State → Wired
wired pad s = record { cells = s.cells; pad = pad }

abbrev unit_now : ℕ → State → Unit Wired
unit_now pad s = unit_of wires s.cpu (wired pad s)

-- a state's surroundings are of its cartridge
begins : (pad : ℕ) (s : State) → IsReady s → Keeps (rom_of s) (wired pad s)
unfolding rom_of
begins pad s h = record { sized = h.sized; of_rom = refl }

-- after a unit they still are
keeps-by : (b : Bool) (pad : ℕ) (s : State) → s.cpu.jammed ≡ b → IsReady s → Keeps (rom_of s) (unit_now pad s).held
keeps-by true pad s e h =
    subst (Keeps (rom_of s)) (sym (ap (λ u. u.held) (unit-jammed wires s.cpu (wired pad s) e))) (begins pad s h)
keeps-by false pad s e h =
    (unit-lower wires (Keeps (rom_of s)) left_of 3 (wires-lower (rom_of s)) s.cpu (wired pad s) e
    (begins pad s h)).stays

-- a unit leaves a state that is ready, of the same cartridge
pub record Leaves (s t : State) : Type 0 where
  pub ready : IsReady t
  pub of_rom : rom_of t ≡ rom_of s

pub unit_leaves : (pad : ℕ) (s : State) → IsReady s → Leaves s (unit_step pad s).0
unfolding unit_step rom_of
unit_leaves pad s h =
    let kept = keeps-by s.cpu.jammed pad s refl h in
    let screen = kept.sized.screen in
    record {
      ready = record {
        sized = record {
          screen = record { placed = screen.placed; fine_x = screen.fine_x; oam = screen.oam; vram = screen.vram };
          ram = kept.sized.ram;
          board = kept.sized.board;
        };
        clear = refl;
      };
      of_rom = kept.of_rom;
    }

-- what no end tells, and what an end tells of a jam
record NoEnd (end : UnitEnd) (ended : Bool) : Type 0 where
  done : end ≡ Done
  not_ended : ended ≡ false

no_end : (end : UnitEnd) (ended : Bool) → end_by end ended ≡ None → NoEnd end ended
no_end JammedUnit ended e = cc
no_end Done true e = cc
no_end Done false e = record { done = refl; not_ended = refl }

an_end : (jammed ended : Bool) (end : FrameEnd) → end_by (end_of jammed) ended ≡ Some end
    → (end ≡ Jammed) ↔ (jammed ≡ true)
an_end true ended end e = (λ _. refl, λ _. cc)
an_end false true end e = (λ h. cc, λ h. cc)
an_end false false end e = cc

done_runs : (jammed : Bool) → end_of jammed ≡ Done → jammed ≡ false
done_runs true e = cc
done_runs false e = refl

-- a unit that does not end the frame began without a jam
was_running : (b : Bool) (pad : ℕ) (s : State) → s.cpu.jammed ≡ b → (unit_now pad s).end_ ≡ Done → s.cpu.jammed ≡ false
was_running true pad s e done =
    let jam : (unit_now pad s).end_ ≡ JammedUnit = ap (λ u. u.end_) (unit-jammed wires s.cpu (wired pad s) e) in
    let clash : JammedUnit ≡ Done = sym jam ∙ done in cc
was_running false pad s e done = e

-- there is a dot to be run
pub left_positive : (s : State) → IsReady s → 0 < dots_left s
unfolding dots_left left_at
left_positive s h =
    let line : s.cells.screen.position.line < 262 = h.sized.screen.placed.line in
    let dot : s.cells.screen.position.dot < 341 = h.sized.screen.placed.dot in
    grind (arith, nat_tests)

-- where no mark is set the dots left are those that still are
clear_left : (b : Bool) (line dot : ℕ) → b ≡ false → still line dot b ≡ left_at line dot
clear_left true line dot e = absurd (true≢false e)
clear_left false line dot e = refl

-- after a unit that does not end the frame fewer dots are left
pub unit_fewer : (pad : ℕ) (s : State) → IsReady s → (unit_step pad s).1 ≡ None
    → dots_left (unit_step pad s).0 < dots_left s
unfolding unit_step dots_left
unit_fewer pad s h e =
    let u = unit_now pad s in
    let still_going = no_end u.end_ u.held.cells.screen.ended e in
    let running = was_running s.cpu.jammed pad s refl still_going.done in
    let lower =
    unit-lower wires (Keeps (rom_of s)) left_of 3 (wires-lower (rom_of s)) s.cpu (wired pad s) running
    (begins pad s h) in
    let now =
    clear_left u.held.cells.screen.ended u.held.cells.screen.position.line u.held.cells.screen.position.dot
    still_going.not_ended in
    let before = clear_left s.cells.screen.ended s.cells.screen.position.line s.cells.screen.position.dot h.clear in
    let some : 0 < left_at s.cells.screen.position.line s.cells.screen.position.dot = left_positive s h in
    omega (arith, lower.fewer, now, before, some)

-- an end by a jam leaves a jammed processor, and no other does
pub end_tells : (pad : ℕ) (s t : State) (end : FrameEnd) → unit_step pad s ≡ (t, Some end)
    → (end ≡ Jammed) ↔ (is_jammed t ≡ true)
unfolding unit_step is_jammed
end_tells pad s t end e =
    let u = unit_now pad s in
    let jammed : u.cpu.jammed ≡ t.cpu.jammed = ap (λ step. step.0.cpu.jammed) e in
    let told : end_by (end_of u.cpu.jammed) u.held.cells.screen.ended ≡ Some end =
    ap (λ x. end_by x u.held.cells.screen.ended) (sym (unit-end wires s.cpu (wired pad s))) ∙ ap (λ step. step.1) e in
    rw (← jammed) (an_end u.cpu.jammed u.held.cells.screen.ended end told)

-- a unit that does not end the frame leaves a processor that is not jammed
no_jam : (jammed ended : Bool) → end_by (end_of jammed) ended ≡ None → jammed ≡ false
no_jam true ended e = cc
no_jam false ended e = refl

pub goes_on_running : (pad : ℕ) (s t : State) → unit_step pad s ≡ (t, None) → is_jammed t ≡ false
unfolding unit_step is_jammed
goes_on_running pad s t e =
    let u = unit_now pad s in
    let jammed : u.cpu.jammed ≡ t.cpu.jammed = ap (λ step. step.0.cpu.jammed) e in
    let told : end_by (end_of u.cpu.jammed) u.held.cells.screen.ended ≡ None =
    ap (λ x. end_by x u.held.cells.screen.ended) (sym (unit-end wires s.cpu (wired pad s))) ∙ ap (λ step. step.1) e in
    sym jammed ∙ no_jam u.cpu.jammed u.held.cells.screen.ended told

-- a unit of a jammed machine changes nothing
pub jam_stays : (pad : ℕ) (s : State) → IsReady s → is_jammed s ≡ true → unit_step pad s ≡ (s, Some Jammed)
unfolding unit_step is_jammed
jam_stays pad s h e =
    let nothing = unit-jammed wires s.cpu (wired pad s) e in
    let clear : unmarked s.cells ≡ s.cells =
    ap (λ b. record s.cells { screen = (let p = s.cells.screen in record p { ended = b }) }) (sym h.clear) in
    ap (λ u. (record { cpu = u.cpu; cells = unmarked u.held.cells }, end_by u.end_ u.held.cells.screen.ended)) nothing
    ∙ ap (λ c. (record { cpu = s.cpu; cells = c }, Some Jammed)) clear

-- the parts of a state after a unit whose mark was taken off
pub leaves_by : (pad : ℕ) (s : State) (cpu : Cpu) (w : Wired) (screen : Screen) → IsReady s →
    cpu ≡ (unit_of wires s.cpu (record { cells = s.cells; pad = pad })).cpu
    → w ≡ (unit_of wires s.cpu (record { cells = s.cells; pad = pad })).held →
    screen ≡ (let p = w.cells.screen in record p { ended = false })
    → Leaves s (record { cpu = cpu; cells = record w.cells { screen = screen } })
unfolding unit_step
leaves_by pad s cpu w screen h registers held taken = rw (taken, registers, held) (unit_leaves pad s h)

-- nothing is taken off where no mark is set
unmarked-clear : (c : Cells) → c.screen.ended ≡ false → unmarked c ≡ c
unmarked-clear c e = ap (λ b. record c { screen = (let p = c.screen in record p { ended = b }) }) (sym e)

-- a unit that neither jams nor runs dot (241,1) leaves its parts as they are
no_end_by : (pad : ℕ) (s : State) (cpu : Cpu) (w : Wired) (end : UnitEnd)
    → cpu ≡ (unit_of wires s.cpu (record { cells = s.cells; pad = pad })).cpu
    → w ≡ (unit_of wires s.cpu (record { cells = s.cells; pad = pad })).held
    → end ≡ (unit_of wires s.cpu (record { cells = s.cells; pad = pad })).end_
    → end ≡ Done → w.cells.screen.ended ≡ false → unit_step pad s ≡ (record { cpu = cpu; cells = w.cells }, None)
unfolding unit_step
no_end_by pad s cpu w end registers held told done clear =
    (λ i. (
      record { cpu = sym registers i; cells = unmarked (sym held i).cells },
      end_by (sym told i) (sym held i).cells.screen.ended,
    ))
    ∙ (λ i. (record { cpu = cpu; cells = unmarked-clear w.cells clear i }, end_by (done i) (clear i)))

-- and they are those of a state that is ready, of the same cartridge
pub leaves_on : (pad : ℕ) (s : State) (cpu : Cpu) (w : Wired) (end : UnitEnd) → IsReady s
    → cpu ≡ (unit_of wires s.cpu (record { cells = s.cells; pad = pad })).cpu
    → w ≡ (unit_of wires s.cpu (record { cells = s.cells; pad = pad })).held
    → end ≡ (unit_of wires s.cpu (record { cells = s.cells; pad = pad })).end_
    → end ≡ Done → w.cells.screen.ended ≡ false → Leaves s (record { cpu = cpu; cells = w.cells })
leaves_on pad s cpu w end h registers held told done clear =
    subst (Leaves s) (ap (λ x. x.0) (no_end_by pad s cpu w end registers held told done clear)) (unit_leaves pad s h)

-- a step that answers a jam leaves a jammed processor, and no other does
tells-by : (step : UnitStep) (jammed ended : Bool) → end_by (end_of jammed) ended ≡ end_told step
    → (step ≡ StepJammed) ↔ (jammed ≡ true)
tells-by More true ended e = cc
tells-by More false ended e = (λ h. cc, λ h. cc)
tells-by AtPicture true ended e = cc
tells-by AtPicture false ended e = (λ h. cc, λ h. cc)
tells-by StepJammed true ended e = (λ h. refl, λ h. refl)
tells-by StepJammed false true e = cc
tells-by StepJammed false false e = cc

pub step_tells : (pad : ℕ) (s t : State) (step : UnitStep) → unit_step pad s ≡ (t, end_told step)
    → (step ≡ StepJammed) ↔ (is_jammed t ≡ true)
unfolding unit_step is_jammed
step_tells pad s t step e =
    let u = unit_now pad s in
    let jammed : u.cpu.jammed ≡ t.cpu.jammed = ap (λ x. x.0.cpu.jammed) e in
    let told : end_by (end_of u.cpu.jammed) u.held.cells.screen.ended ≡ end_told step =
    ap (λ x. end_by x u.held.cells.screen.ended) (sym (unit-end wires s.cpu (wired pad s))) ∙ ap (λ x. x.1) e in
    rw (← jammed) (tells-by step u.cpu.jammed u.held.cells.screen.ended told)
