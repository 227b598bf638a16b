-- The fuel of a frame is enough: a unit that does not end the frame leaves fewer dots up to dot (241,1).
use Rattle.std.proofs.Common.{◌≡◌, ℕ, zero, suc, ◌<◌, ◌≤◌, true, false, List, [], ◌∷◌, Option, Some, None, refl, sym, ap, ◌∙◌, subst, arith}
use Rattle.nj_ines.specs.Cartridge.{Cartridge}
use Rattle.nj_machine.specs.State.{State, rom_of, is_jammed, power_on}
use Rattle.nj_machine.specs.Frame.{dots_left, unit_step, or_on, units_until, frame, frames, play, IsReady}
use Rattle.nj_machine.specs.declared.FrameEnd.{FrameEnd}
use Rattle.nj_machine.specs.declared.FrameEnd.TheVariants.{Jammed}
use Rattle.nj_machine.proofs.Units.{Leaves, unit_leaves, unit_fewer, left_positive, jam_stays}

-- what is left after a unit that does not end the frame
pub record GoesOn (s t : State) : Type 0 where
  pub ready : IsReady t
  pub fewer : dots_left t < dots_left s

pub goes_on : (pad : ℕ) (s : State) → IsReady s → (unit_step pad s).1 ≡ None → GoesOn s (unit_step pad s).0
goes_on pad s h e = let left = unit_leaves pad s h in record { ready = left.ready; fewer = unit_fewer pad s h e }

-- two continuations that agree where the unit did not end the frame
or_on_same : (s : State) (end : Option FrameEnd) (f g : State → State × FrameEnd) → (end ≡ None → f s ≡ g s)
    → or_on s end f ≡ or_on s end g
or_on_same s None f g h = h refl
or_on_same s (Some end) f g h = refl

-- fuel from the dots left on makes no difference
enough : (pad n m : ℕ) (s : State) → IsReady s → dots_left s ≤ n → dots_left s ≤ m
    → units_until pad n s ≡ units_until pad m s
unfolding units_until
enough pad zero m s h p q = absurd (omega (arith, left_positive s h))
enough pad (suc n) zero s h p q = absurd (omega (arith, left_positive s h))
enough pad (suc n) (suc m) s h p q =
    or_on_same (unit_step pad s).0 (unit_step pad s).1 (units_until pad n) (units_until pad m)
    (λ e. let next =
    goes_on pad s h e in
    enough pad n m (unit_step pad s).0 next.ready (omega (arith, next.fewer)) (omega (arith, next.fewer)))

-- the frame by its first unit
frame_unfolds : (s : State) (pad : ℕ) → IsReady s
    → frame s pad ≡ or_on (unit_step pad s).0 (unit_step pad s).1 (units_until pad (dots_left s))
unfolding frame units_until
frame_unfolds s pad h = enough pad (dots_left s) (suc (dots_left s)) s h (omega arith) (omega arith)

pub frame_ends : (s t : State) (end : FrameEnd) (pad : ℕ) → IsReady s → unit_step pad s ≡ (t, Some end)
    → frame s pad ≡ (t, end)
frame_ends s t end pad h e =
    frame_unfolds s pad h ∙ ap (λ step. or_on step.0 step.1 (units_until pad (dots_left s))) e

-- what follows a unit that does not end the frame
pub next_of : (pad : ℕ) (s t : State) → IsReady s → unit_step pad s ≡ (t, None) → GoesOn s t
next_of pad s t h e = subst (λ u. GoesOn s u) (ap (λ step. step.0) e) (goes_on pad s h (ap (λ step. step.1) e))

pub frame_goes_on : (s t : State) (pad : ℕ) → IsReady s → unit_step pad s ≡ (t, None) → frame t pad ≡ frame s pad
unfolding frame
frame_goes_on s t pad h e =
    let next = next_of pad s t h e in
    enough pad (dots_left t) (dots_left s) t next.ready (omega arith) (omega (arith, next.fewer))
    ∙ sym (frame_unfolds s pad h ∙ ap (λ step. or_on step.0 step.1 (units_until pad (dots_left s))) e)

pub fewer_left : (s t : State) (pad : ℕ) → IsReady s → unit_step pad s ≡ (t, None) → dots_left t < dots_left s
fewer_left s t pad h e = let next = next_of pad s t h e in next.fewer

-- a frame of a jammed machine changes nothing
pub frame_jammed : (s : State) (pad : ℕ) → IsReady s → is_jammed s ≡ true → frame s pad ≡ (s, Jammed)
frame_jammed s pad h e = frame_ends s s Jammed pad h (jam_stays pad s h e)

-- a frame leaves a state that is ready, of the same cartridge
leaves-then : (s t u : State) → Leaves s t → Leaves t u → Leaves s u
leaves-then s t u h k = record { ready = k.ready; of_rom = k.of_rom ∙ h.of_rom }

leaves-or_on : (s t : State) (end : Option FrameEnd) (f : State → State × FrameEnd) → Leaves s t
    → ((u : State) → IsReady u → Leaves u (f u).0) →
    Leaves s (or_on t end f).0
leaves-or_on s t None f h k = leaves-then s t (f t).0 h (k t h.ready)
leaves-or_on s t (Some end) f h k = h

units-leave : (pad n : ℕ) (s : State) → IsReady s → Leaves s (units_until pad n s).0
unfolding units_until
units-leave pad zero s h = record { ready = h; of_rom = refl }
units-leave pad (suc n) s h =
    leaves-or_on s (unit_step pad s).0 (unit_step pad s).1 (units_until pad n) (unit_leaves pad s h)
    (λ u k. units-leave pad n u k)

pub frame_leaves : (s : State) (pad : ℕ) → IsReady s → Leaves s (frame s pad).0
unfolding frame
frame_leaves s pad h = units-leave pad (dots_left s) s h

-- and so do frames one after another
pub frames_leave : (s : State) (pads : List ℕ) → IsReady s → Leaves s (frames s pads)
frames_leave s [] h = record { ready = h; of_rom = refl }
frames_leave s (pad ∷ pads) h =
    let first =
    frame_leaves s pad h in
    leaves-then s (frame s pad).0 (frames (frame s pad).0 pads) first (frames_leave (frame s pad).0 pads first.ready)

pub played : (cart : Cartridge) (movie : List ℕ) → IsReady (power_on cart) → Leaves (power_on cart) (play cart movie)
played cart movie h = frames_leave (power_on cart) movie h

-- within a frame: what is left of it is the frame that began, the cartridge is the same, and no unit has jammed
pub record StillIn (pad : ℕ) (began now : State) : Type 0 where
  pub same_frame : frame now pad ≡ frame began pad
  pub same_rom : rom_of now ≡ rom_of began
  pub running : is_jammed now ≡ false
