-- The frame ends with the first unit that ends it.
use Rattle.std.proofs.Common.{◌≡◌, ℕ, zero, suc, ◌<◌, ◌≤◌, Option, Some, None, refl, ap, arith}
use Rattle.nj_machine.specs.State.{State}
use Rattle.nj_machine.specs.Frame.{dots_left, unit_step, frame, units, IsReady, IsFirstEnd}
use Rattle.nj_machine.specs.declared.FrameEnd.{FrameEnd}
use Rattle.nj_machine.proofs.Units.{left_positive}
use Rattle.nj_machine.proofs.Fuel.{GoesOn, goes_on, frame_ends, frame_goes_on}

-- after a unit that does not end the frame, the first end is one unit further
one_more : (pad : ℕ) (s t : State) (n : ℕ) (end : State × FrameEnd) → unit_step pad s ≡ (t, None)
    → IsFirstEnd t pad n end → IsFirstEnd s pad (suc n) end
one_more pad s t n end e first = record { before = before; at_ = rw e first.at_ }
  where
    before : (k : ℕ) → k < suc n → (unit_step pad (units pad k s)).1 ≡ None
    before zero h = ap (λ step. step.1) e
    before (suc k) h = rw e (first.before k (omega arith))

-- by how the next unit ended the frame, if it did
first_by : (fuel : ℕ) (s : State) (pad : ℕ) (end : Option FrameEnd) → IsReady s → dots_left s ≤ suc fuel
    → (unit_step pad s).1 ≡ end →
    ((t : State) → GoesOn s t → unit_step pad s ≡ (t, None) → (n : ℕ) × IsFirstEnd t pad n (frame t pad))
    → (n : ℕ) × IsFirstEnd s pad n (frame s pad)
first_by fuel s pad (Some end) ready h e rest = (
  0,
  record {
    before = λ k below. absurd (omega arith);
    at_ = let ends = frame_ends s (unit_step pad s).0 end pad ready (ap (λ x. ((unit_step pad s).0, x)) e) in
        rw ends (ap (λ x. ((unit_step pad s).0, x)) e);
  },
)
first_by fuel s pad None ready h e rest =
    let t = (unit_step pad s).0 in
    let step : unit_step pad s ≡ (t, None) = ap (λ x. (t, x)) e in
    let found = rest t (goes_on pad s ready e) step in
    (suc found.0, rw (← frame_goes_on s t pad ready step) (one_more pad s t found.0 (frame t pad) step found.1))

-- the first end, from any state whose dots are at most this many
first_within : (fuel : ℕ) (s : State) (pad : ℕ) → IsReady s → dots_left s ≤ fuel
    → (n : ℕ) × IsFirstEnd s pad n (frame s pad)
first_within zero s pad ready h = absurd (omega (arith, left_positive s ready))
first_within (suc fuel) s pad ready h =
    first_by fuel s pad (unit_step pad s).1 ready h refl
    (λ t next step. first_within fuel t pad next.ready (omega (arith, next.fewer)))

pub first : (s : State) (pad : ℕ) → IsReady s → (n : ℕ) × IsFirstEnd s pad n (frame s pad)
first s pad ready = first_within (dots_left s) s pad ready (omega arith)
