-- The units of a frame, one after another.
use Rattle.std.proofs.Common.{◌≡◌, ℕ, zero, suc, ◌+◌, ◌-◌, ◌*◌, ◌<◌, ◌≤◌, Bool, true, false, List, [], ◌∷◌, ◌++◌, length, map, nat_le, Option, Some, None, is_some, refl, sym, ap, ◌∙◌, subst, arith, if◌then◌else◌, append_assoc, append-nil}
use Rattle.std.proofs.lemmas.Bool.Decides.{nat_tests}
use Rattle.std.specs.List.{range_with_len, flat_map}
use Rattle.nj_machine.specs.State.{State, is_jammed}
use Rattle.nj_machine.specs.Frame.{left_at, dots_left, unit_step, frame, units, IsReady, IsFirstEnd}
use Rattle.nj_machine.specs.Seen.{seen_of, end_told, counted}
use Rattle.nj_machine.specs.declared.FrameEnd.{FrameEnd}
use Rattle.nj_machine.specs.declared.FrameEnd.TheVariants.{Picture as AtPicture, Jammed as AtJam}
use Rattle.nj_machine.specs.declared.seeing.UnitStep.{UnitStep}
use Rattle.nj_machine.specs.declared.seeing.UnitStep.TheVariants.{More, Picture, Jammed}
use Rattle.nj_trace.specs.Trace.{unit_line}
use Rattle.nj_machine.specs.declared.seeing.UnitSeen.{UnitSeen}
use Rattle.nj_trace.specs.Units.{behind_unit, units_from, frame_units}

-- the laws of the machine: a unit that does not end its frame leaves fewer dots, and a state that is ready
pub record UnitLaws : Type 0 where
  pub nearer : (s t : State) (pad : ℕ) → IsReady s → unit_step pad s ≡ (t, None) → dots_left t < dots_left s
  pub ready : (s t : State) (pad : ℕ) → IsReady s → unit_step pad s ≡ (t, None) → IsReady t

-- some dot is left
some_left : (s : State) → IsReady s → 0 < dots_left s
unfolding dots_left left_at
some_left s h =
    let line : s.cells.screen.position.line < 262 = h.sized.screen.placed.line in
    let dot : s.cells.screen.position.dot < 341 = h.sized.screen.placed.dot in
    grind (arith, nat_tests)

same_behind : (end : Option FrameEnd) (xs ys : List UnitSeen) → (end ≡ None → xs ≡ ys)
    → behind_unit end xs ≡ behind_unit end ys
same_behind None xs ys h = h refl
same_behind (Some end) xs ys h = refl

pair_is : (step : State × Option FrameEnd) (end : Option FrameEnd) → step.1 ≡ end → step ≡ (step.0, end)
pair_is (t, e) end h = ap (λ x. (t, x)) h

-- fuel from the dots left on makes no difference
enough : UnitLaws → (pad n m : ℕ) (s : State) → IsReady s → dots_left s ≤ n → dots_left s ≤ m
    → units_from pad n s ≡ units_from pad m s
enough laws pad zero m s h p q = absurd (omega (arith, p, some_left s h))
enough laws pad (suc n) zero s h p q = absurd (omega (arith, q, some_left s h))
enough laws pad (suc n) (suc m) s h p q =
    ap (λ rest. seen_of pad s ∷ rest)
    (same_behind (unit_step pad s).1 (units_from pad n (unit_step pad s).0) (units_from pad m (unit_step pad s).0)
    (λ e. let step = pair_is (unit_step pad s) None e in
    let fewer = laws.nearer s (unit_step pad s).0 pad h step in
    enough laws pad n m (unit_step pad s).0 (laws.ready s (unit_step pad s).0 pad h step) (omega (arith, p, fewer))
    (omega (arith, q, fewer))))

-- the units by the first of them
first_unit : UnitLaws → (pad : ℕ) (s : State) → IsReady s →
    units_from pad (dots_left s) s
    ≡ seen_of pad s ∷ behind_unit (unit_step pad s).1 (units_from pad (dots_left s) (unit_step pad s).0)
first_unit laws pad s h = enough laws pad (dots_left s) (suc (dots_left s)) s h (omega arith) (omega arith)

-- the last unit of a frame
pub last_unit : UnitLaws → (pad : ℕ) (s t : State) (end : FrameEnd) → IsReady s → unit_step pad s ≡ (t, Some end)
    → units_from pad (dots_left s) s ≡ seen_of pad s ∷ []
last_unit laws pad s t end h e =
    first_unit laws pad s h ∙ ap (λ step. seen_of pad s ∷ behind_unit step.1 (units_from pad (dots_left s) step.0)) e

-- a unit before the last
pub next_unit : UnitLaws → (pad : ℕ) (s t : State) → IsReady s → unit_step pad s ≡ (t, None) →
    units_from pad (dots_left s) s ≡ seen_of pad s ∷ units_from pad (dots_left t) t
next_unit laws pad s t h e =
    first_unit laws pad s h
    ∙ ap (λ step. seen_of pad s ∷ behind_unit step.1 (units_from pad (dots_left s) step.0)) e
    ∙ ap (λ rest. seen_of pad s ∷ rest)
    (let fewer = laws.nearer s t pad h e in
    enough laws pad (dots_left s) (dots_left t) t (laws.ready s t pad h e) (omega (arith, fewer)) (omega arith))

-- ---- the law

shifted : {X : Type 0} (f : ℕ → X) (a n : ℕ)
    → map (λ k. f (suc k)) (range_with_len a n) ≡ map f (range_with_len (a + 1) n)
shifted f a zero = refl
shifted f a (suc n) =
    ap (λ k. f k ∷ map (λ i. f (suc i)) (range_with_len (a + 1) n)) (let e : suc a ≡ a + 1 = omega arith in e)
    ∙ ap (λ rest. f (a + 1) ∷ rest) (shifted f (a + 1) n)

units_are : UnitLaws → (pad n : ℕ) (s : State) (end : State × FrameEnd) → IsReady s →
    ((k : ℕ) → k < n → (unit_step pad (units pad k s)).1 ≡ None) → unit_step pad (units pad n s) ≡ (end.0, Some end.1) →
    units_from pad (dots_left s) s ≡ map (λ k. seen_of pad (units pad k s)) (range_with_len 0 (suc n))
units_are laws pad zero s end h before at_ = last_unit laws pad s end.0 end.1 h at_
units_are laws pad (suc n) s end h before at_ =
    let t = (unit_step pad s).0 in
    let step : unit_step pad s ≡ (t, None) = pair_is (unit_step pad s) None (before 0 (omega arith)) in
    next_unit laws pad s t h step
    ∙ ap (λ rest. seen_of pad s ∷ rest)
    (units_are laws pad n t end (laws.ready s t pad h step) (λ k below. before (suc k) (omega (arith, below))) at_
    ∙ shifted (λ k. seen_of pad (units pad k s)) 0 (suc n))

-- the units of a frame of a machine that is not jammed
pub unjammed : (pad : ℕ) (s : State) → is_jammed s ≡ false → frame_units pad s ≡ units_from pad (dots_left s) s
unfolding frame_units
unjammed pad s e = rw e refl

pub frame_has : UnitLaws → (s : State) (pad : ℕ) → IsReady s → is_jammed s ≡ false →
    (n : ℕ) × IsFirstEnd s pad n (frame s pad) →
    (n : ℕ) × IsFirstEnd s pad n (frame s pad)
    × (frame_units pad s ≡ map (λ k. seen_of pad (units pad k s)) (range_with_len 0 (n + 1)))
frame_has laws s pad h e (n, first) = (
  n,
  first,
  unjammed pad s e
      ∙ units_are laws pad n s (frame s pad) h first.before first.at_
      ∙ ap (λ m. map (λ k. seen_of pad (units pad k s)) (range_with_len 0 m))
      (let one : suc n ≡ n + 1 = omega arith in one),
)

-- ---- a loop over the units

-- a number of dots that are left
pub few_left : (s : State) → dots_left s ≤ 171525
unfolding dots_left left_at
few_left s = by_test (nat_le (s.cells.screen.position.line * 341 + s.cells.screen.position.dot) 82182)
    (s.cells.screen.position.line * 341 + s.cells.screen.position.dot)
  where
    by_test : (t : Bool) (place : ℕ) → (if t then 82183 - place else 171525 - place) ≤ 171525
    by_test true place = omega arith
    by_test false place = omega arith

-- an answer that ends the frame, and one that does not
pub ended_by : (step : UnitStep) → is_some (end_told step) ≡ true → (end : FrameEnd) × (end_told step ≡ Some end)
ended_by More e = cc
ended_by Picture e = (AtPicture, refl)
ended_by Jammed e = (AtJam, refl)

pub goes_by : (step : UnitStep) → is_some (end_told step) ≡ false → end_told step ≡ None
goes_by More e = refl
goes_by Picture e = cc
goes_by Jammed e = cc

pub counted_once : (step : UnitStep) (n : ℕ) → counted step n ≤ n + 1
counted_once More n = omega arith
counted_once Picture n = omega arith
counted_once Jammed n = omega arith

pub counted_not : (step : UnitStep) (n : ℕ) → is_some (end_told step) ≡ false → counted step n ≡ n
counted_not More n e = refl
counted_not Picture n e = cc
counted_not Jammed n e = cc

-- the line of a unit more
pub line_on : (laws : UnitLaws) (pad : ℕ) (s t : State) (text new whole : List ℕ) → IsReady s →
    unit_step pad s ≡ (t, None) →
    new ≡ text ++ unit_line (seen_of pad s) → text ++ flat_map unit_line (units_from pad (dots_left s) s) ≡ whole →
    new ++ flat_map unit_line (units_from pad (dots_left t) t) ≡ whole
line_on laws pad s t text new whole h e line so_far =
    ap (λ x. x ++ flat_map unit_line (units_from pad (dots_left t) t)) line
    ∙ append_assoc text (unit_line (seen_of pad s)) (flat_map unit_line (units_from pad (dots_left t) t))
    ∙ ap (λ us. text ++ flat_map unit_line us) (sym (next_unit laws pad s t h e))
    ∙ so_far

pub line_last : (laws : UnitLaws) (pad : ℕ) (s t : State) (end : FrameEnd) (text new whole : List ℕ) → IsReady s →
    unit_step pad s ≡ (t, Some end) →
    new ≡ text ++ unit_line (seen_of pad s) → text ++ flat_map unit_line (units_from pad (dots_left s) s) ≡ whole
    → new ≡ whole
line_last laws pad s t end text new whole h e line so_far =
    line
    ∙ ap (λ x. text ++ x) (sym (append-nil (unit_line (seen_of pad s))))
    ∙ ap (λ us. text ++ flat_map unit_line us) (sym (last_unit laws pad s t end h e))
    ∙ so_far

-- a unit more is counted
pub count_on : (laws : UnitLaws) (pad : ℕ) (s t : State) (count whole : ℕ) → IsReady s → unit_step pad s ≡ (t, None) →
    count + length (units_from pad (dots_left s) s) ≡ whole
    → (count + 1) + length (units_from pad (dots_left t) t) ≡ whole
count_on laws pad s t count whole h e so_far =
    let size : length (units_from pad (dots_left s) s) ≡ suc (length (units_from pad (dots_left t) t)) =
    ap length (next_unit laws pad s t h e) in
    omega (arith, so_far, size)

pub count_last : (laws : UnitLaws) (pad : ℕ) (s t : State) (end : FrameEnd) (count whole : ℕ) → IsReady s →
    unit_step pad s ≡ (t, Some end) →
    count + length (units_from pad (dots_left s) s) ≡ whole → count + 1 ≡ whole
count_last laws pad s t end count whole h e so_far =
    let size : length (units_from pad (dots_left s) s) ≡ 1 = ap length (last_unit laws pad s t end h e) in
    omega (arith, so_far, size)

-- a frame of a machine that is jammed has no units
pub jammed_none : (pad : ℕ) (s : State) → is_jammed s ≡ true → frame_units pad s ≡ []
unfolding frame_units
jammed_none pad s e = rw e refl
