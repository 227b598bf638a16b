-- The steps of a movie, and where one of them is left.
use Rattle.std.proofs.Common.{◌≡◌, ◌≢◌, ℕ, zero, suc, ◌+◌, ◌-◌, ◌<◌, ◌≤◌, Option, Some, None, List, [], ◌∷◌, ◌++◌, length, drop, replicate, get_or, refl, ap, ap₂, sym, ◌∙◌, arith, add-zero}
use Rattle.std.proofs.lemmas.List.{drop_all}
use Rattle.std.proofs.Math.Seq.{drop-cons}
use Rattle.nj_game.specs.Plan.{held_pads}
use Rattle.nj_replay.specs.Reading.{moved, first_left, first_from}
use Rattle.nj_replay.proofs.Leaving.{moved-moved, left_same, left_other}

-- where frames leave the steps that their first pads make, and before them so many frames of a pad
abbrev pub unheld : ℕ → ℕ → ℕ → List ℕ → Option ℕ
unheld hold left pad pads = first_left (replicate left pad ++ held_pads hold (first_from hold left pads)) pads

one_less : (n : ℕ) → suc n - 1 ≡ n
one_less n = omega arith

-- a step begins
pub begins :
    (hold held pad : ℕ) (pads : List ℕ) → 1 ≤ hold →
    unheld hold 0 held (pad ∷ pads) ≡ moved 1 (unheld hold (hold - 1) pad pads)
begins zero held pad pads h = absurd (omega arith)
begins (suc n) held pad pads h =
    rw (one_less n) (left_same pad pad (replicate n pad ++ held_pads (suc n) (first_from (suc n) n pads)) pads refl)

-- a step goes on with its pad
pub goes_on :
    (hold left held pad : ℕ) (pads : List ℕ) → 0 < left → pad ≡ held →
    unheld hold left held (pad ∷ pads) ≡ moved 1 (unheld hold (left - 1) held pads)
goes_on hold zero held pad pads h e = absurd (omega arith)
goes_on hold (suc n) held pad pads h e =
    rw (one_less n) (left_same held pad (replicate n held ++ held_pads hold (first_from hold n pads)) pads e)

-- a step is left by another pad
pub breaks :
    (hold left held pad : ℕ) (pads : List ℕ) → 0 < left → pad ≢ held → unheld hold left held (pad ∷ pads) ≡ Some 0
breaks hold zero held pad pads h e = absurd (omega arith)
breaks hold (suc n) held pad pads h e =
    left_other held pad (replicate n held ++ held_pads hold (first_from hold n pads)) pads e

-- a step is short
pub ends_short : (hold left held : ℕ) → 0 < left → unheld hold left held [] ≡ Some 0
ends_short hold zero held h = absurd (omega arith)
ends_short hold (suc n) held h = refl

-- ---- a loop over the frames

-- the frames from one on
drop-next :
    (pads : List ℕ) (frame pad : ℕ) → frame < length pads → pad ≡ get_or pads frame pad →
    drop frame pads ≡ pad ∷ drop (frame + 1) pads
drop-next pads frame pad h e =
    drop-cons pads frame pad h
    ∙ ap₂ (λ x n. x ∷ drop n pads) (sym e) (let next : suc frame ≡ frame + 1 = omega arith in next)

-- one more frame, whatever it does
by_next :
    (whole : Option ℕ) (hold left held hold_left held_pad : ℕ) (pads : List ℕ) (frame pad : ℕ) → frame < length pads →
    pad ≡ get_or pads frame pad →
    unheld hold left held (pad ∷ drop (frame + 1) pads)
    ≡ moved 1 (unheld hold hold_left held_pad (drop (frame + 1) pads)) →
    whole ≡ moved frame (unheld hold left held (drop frame pads)) →
    whole ≡ moved (frame + 1) (unheld hold hold_left held_pad (drop (frame + 1) pads))
by_next whole hold left held hold_left held_pad pads frame pad h item step so_far =
    so_far
    ∙ ap (λ rest. moved frame (unheld hold left held rest)) (drop-next pads frame pad h item)
    ∙ ap (moved frame) step
    ∙ moved-moved frame 1 (unheld hold hold_left held_pad (drop (frame + 1) pads))

pub step_begins :
    (whole : Option ℕ) (hold held : ℕ) (pads : List ℕ) (frame pad : ℕ) → 1 ≤ hold → frame < length pads →
    pad ≡ get_or pads frame pad →
    whole ≡ moved frame (unheld hold 0 held (drop frame pads)) →
    whole ≡ moved (frame + 1) (unheld hold (hold - 1) pad (drop (frame + 1) pads))
step_begins whole hold held pads frame pad some h item so_far =
    by_next whole hold 0 held (hold - 1) pad pads frame pad h item (begins hold held pad (drop (frame + 1) pads) some)
    so_far

pub step_goes_on :
    (whole : Option ℕ) (hold left held : ℕ) (pads : List ℕ) (frame pad : ℕ) → 0 < left → pad ≡ held →
    frame < length pads → pad ≡ get_or pads frame pad →
    whole ≡ moved frame (unheld hold left held (drop frame pads)) →
    whole ≡ moved (frame + 1) (unheld hold (left - 1) held (drop (frame + 1) pads))
step_goes_on whole hold left held pads frame pad some same h item so_far =
    by_next whole hold left held (left - 1) held pads frame pad h item
    (goes_on hold left held pad (drop (frame + 1) pads) some same) so_far

pub step_breaks :
    (whole : Option ℕ) (hold left held : ℕ) (pads : List ℕ) (frame pad : ℕ) → 0 < left → pad ≢ held →
    frame < length pads → pad ≡ get_or pads frame pad →
    whole ≡ moved frame (unheld hold left held (drop frame pads)) → Some frame ≡ whole
step_breaks whole hold left held pads frame pad some other h item so_far =
    sym (so_far
    ∙ ap (λ rest. moved frame (unheld hold left held rest)) (drop-next pads frame pad h item)
    ∙ ap (moved frame) (breaks hold left held pad (drop (frame + 1) pads) some other)
    ∙ ap Some (add-zero frame))

pub steps_are_short :
    (whole : Option ℕ) (hold left held : ℕ) (pads : List ℕ) (frame : ℕ) → 0 < left → frame ≡ length pads →
    whole ≡ moved frame (unheld hold left held (drop frame pads)) → Some (length pads) ≡ whole
steps_are_short whole hold left held pads frame some e so_far =
    sym (so_far
    ∙ ap (λ rest. moved frame (unheld hold left held rest)) (drop_all frame pads (omega arith))
    ∙ ap (moved frame) (ends_short hold left held some)
    ∙ ap Some (add-zero frame ∙ e))

pub steps_are_whole : (whole : Option ℕ) (hold held : ℕ) (pads : List ℕ) (frame : ℕ) → frame ≡ length pads →
    whole ≡ moved frame (unheld hold 0 held (drop frame pads)) → None ≡ whole
steps_are_whole whole hold held pads frame e so_far =
    sym (so_far ∙ ap (λ rest. moved frame (unheld hold 0 held rest)) (drop_all frame pads (omega arith)))
