-- A frame's dots, counted from its first one.
use Rattle.std.proofs.Common.{◌≡◌, ℕ, zero, suc, ◌-◌, ◌<◌, Bool, true, false, not, ◌&&◌, List, refl, ap, ◌∙◌, subst, arith, inl, inr}
use Rattle.std.proofs.lemmas.Bool.{cases_Bool}
use Rattle.nj_dots.specs.declared.screen.Screen.{Screen}
use Rattle.nj_dots.specs.Screen.{place_of, IsScreen, is_rendering}
use Rattle.nj_dots.specs.Dots.{is_last_dot, dot_of, after_dots}
use Rattle.nj_dots.specs.Laws.{IsStart, frame_length}
use Rattle.nj_dots.proofs.Kept.{dot_of-fits}
use Rattle.nj_dots.proofs.Moving.{if-true, if-false, place_of-after, not-last, not-last-whole, is-last, is-last-odd, GoesOn, goes-on, Restarts, restarts}

-- the frame leaves its last dot out
abbrev pub skips : Screen → Bool
skips s = s.odd_frame && is_rendering s.mask

pub frame_length-odd : (s : Screen) → skips s ≡ true → frame_length s ≡ 89341
unfolding frame_length
frame_length-odd s h = if-true (skips s) 89341 89342 h

pub frame_length-whole : (s : Screen) → skips s ≡ false → frame_length s ≡ 89342
unfolding frame_length
frame_length-whole s h = if-false (skips s) 89341 89342 h

pub frame_length-positive : (s : Screen) → 0 < frame_length s
frame_length-positive s = elim (cases_Bool (skips s)) [
  | inl odd ↦ omega (arith, frame_length-odd s odd)
  | inr whole ↦ omega (arith, frame_length-whole s whole)
]

-- the picture at the k-th dot of a frame
pub record InFrame (k : ℕ) (s e : Screen) : Type 0 where
  pub fits : IsScreen e
  pub place : place_of e.position ≡ k
  pub odd_frame : e.odd_frame ≡ s.odd_frame
  pub mask : e.mask ≡ s.mask

-- it skips as the frame does
skips-same : (k : ℕ) (s e : Screen) → InFrame k s e → skips e ≡ skips s
skips-same k s e h = ap (λ b. b && is_rendering e.mask) h.odd_frame ∙ ap (λ m. s.odd_frame && is_rendering m) h.mask

-- before the last one its dot is not the last
early : (k : ℕ) (s e : Screen) → InFrame k s e → suc k < frame_length s → is_last_dot e ≡ false
early k s e h below = elim (cases_Bool (skips s)) [
  | inl odd ↦ not-last e (omega (arith, h.place, below, frame_length-odd s odd))
  | inr whole ↦
      not-last-whole e (omega (arith, h.place, below, frame_length-whole s whole)) (skips-same k s e h ∙ whole)
]

pub in-frame : (k : ℕ) (p : List ℕ) (s : Screen) → IsScreen s → IsStart s → k < frame_length s
    → InFrame k s (after_dots k p s)
unfolding after_dots
in-frame zero p s fits start below =
    record { fits = fits; place = omega (arith, start.line, start.dot); odd_frame = refl; mask = refl }
in-frame (suc k) p s fits start below =
    let e : Screen = after_dots k p s in
    let here : InFrame k s e = in-frame k p s fits start (omega (arith, below)) in
    let next : GoesOn e (dot_of p e) = goes-on p e (early k s e here below) in
    record {
      fits = dot_of-fits p e here.fits;
      place = ap place_of next.position ∙ place_of-after e.position here.fits.placed.dot ∙ omega (arith, here.place);
      odd_frame = next.odd_frame ∙ here.odd_frame;
      mask = next.mask ∙ here.mask;
    }

-- at the last one it is
late : (k : ℕ) (s e : Screen) → InFrame k s e → suc k ≡ frame_length s → is_last_dot e ≡ true
late k s e h at = elim (cases_Bool (skips s)) [
  | inl odd ↦
      is-last-odd e h.fits.placed (omega (arith, h.place, at, frame_length-odd s odd)) (skips-same k s e h ∙ odd)
  | inr whole ↦ is-last e h.fits.placed (omega (arith, h.place, at, frame_length-whole s whole))
]

-- then the next frame begins
pub record Follows (s e : Screen) : Type 0 where
  pub start : IsStart e
  pub odd_frame : e.odd_frame ≡ not s.odd_frame

follows-suc : (k : ℕ) (p : List ℕ) (s : Screen) → IsScreen s → IsStart s → suc k ≡ frame_length s
    → Follows s (after_dots (suc k) p s)
unfolding after_dots
follows-suc k p s fits start at =
    let e : Screen = after_dots k p s in
    let here : InFrame k s e = in-frame k p s fits start (omega (arith, at)) in
    let next : Restarts e (dot_of p e) = restarts p e (late k s e here at) in
    record { start = next.start; odd_frame = next.odd_frame ∙ ap not here.odd_frame }

pub frame-follows : (p : List ℕ) (s : Screen) → IsScreen s → IsStart s → Follows s (after_dots (frame_length s) p s)
frame-follows p s fits start =
    let at : suc (frame_length s - 1) ≡ frame_length s = omega (arith, frame_length-positive s) in
    subst (λ n. Follows s (after_dots n p s)) at (follows-suc (frame_length s - 1) p s fits start at)

-- and no sooner
pub no-start : (k : ℕ) (p : List ℕ) (s : Screen) → IsScreen s → IsStart s → 0 < k → k < frame_length s
    → IsStart (after_dots k p s) → ⊥
no-start k p s fits start some below again =
    let here : InFrame k s (after_dots k p s) = in-frame k p s fits start below in
    absurd (omega (arith, here.place, again.line, again.dot, some))
