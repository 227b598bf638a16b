-- The frame where a step is left, in its own words.
use Rattle.std.proofs.Common.{◌≡◌, ◌≢◌, ◌==◌, ℕ, zero, suc, ◌+◌, ◌-◌, ◌<◌, ◌≤◌, Bool, true, false, Some, List, [], ◌∷◌, ◌++◌, length, take, replicate, slice_get, refl, ap, sym, ◌∙◌, subst, arith, append_assoc, length-append}
use Rattle.std.proofs.lemmas.Bool.Decides.{nat_tests}
use Rattle.std.proofs.lemmas.List.{length-replicate, replicate_more, take_at}
use Rattle.std.proofs.Math.Seq.{take-append-add}
use Rattle.nj_search_defs.specs.Game.{Word}
use Rattle.nj_game.specs.Plan.{held_pads}
use Rattle.nj_replay.specs.Reading.{first_left, first_pads, LeavesStep}
use Rattle.nj_replay.proofs.Leaving.{moved_some}
use Rattle.nj_replay.proofs.Holding.{unheld, begins, goes_on, breaks}

-- the frames are whole steps and a part of another up to this one, where they have another pad than that step's, or end
pub record IsBroken (hold : ℕ) (pads : List ℕ) (frame : ℕ) : Type 0 where
  pub steps : Word
  pub pad : ℕ
  pub place : ℕ
  pub begun : 0 < place
  pub short : place < hold
  pub counted : frame ≡ length (held_pads hold steps) + place
  pub before : take frame pads ≡ held_pads hold steps ++ replicate place pad
  pub differs : slice_get pads frame ≢ Some pad

-- what stands behind a list
slice_get-append-add : (xs ys : List ℕ) (k : ℕ) → slice_get (xs ++ ys) (length xs + k) ≡ slice_get ys k
slice_get-append-add [] ys k = ap (slice_get ys) (let e : 0 + k ≡ k = omega arith in e)
slice_get-append-add (x ∷ xs) ys k =
    ap (slice_get ((x ∷ xs) ++ ys)) (let e : length (x ∷ xs) + k ≡ suc (length xs + k) = omega arith in e)
    ∙ slice_get-append-add xs ys k

-- the same behind a list of this length
get_behind : (n : ℕ) (xs ys : List ℕ) (k : ℕ) → length xs ≡ n → slice_get (xs ++ ys) (n + k) ≡ slice_get ys k
get_behind n xs ys k e = ap (λ m. slice_get (xs ++ ys) (m + k)) (sym e) ∙ slice_get-append-add xs ys k

take_behind : (n : ℕ) (xs ys : List ℕ) (k : ℕ) → length xs ≡ n → take (n + k) (xs ++ ys) ≡ xs ++ take k ys
take_behind n xs ys k e = ap (λ m. take (m + k) (xs ++ ys)) (sym e) ∙ take-append-add xs ys k

-- a step breaks at its next frame
broken_here :
    (hold place pad : ℕ) (pads : List ℕ) → 0 < place → place < hold → slice_get pads 0 ≢ Some pad →
    IsBroken hold (replicate place pad ++ pads) (place + 0)
broken_here hold place pad pads begun short differs = record {
  steps = [];
  pad = pad;
  place = place;
  begun = begun;
  short = short;
  counted = omega arith;
  before =
      take_at (replicate place pad) pads (place + 0)
      (length-replicate place pad ∙ (let e : place ≡ place + 0 = omega arith in e));
  differs = λ e. differs (sym (get_behind place (replicate place pad) pads 0 (length-replicate place pad)) ∙ e);
}

-- a whole step before
behind_a_step :
    (hold pad : ℕ) (pads : List ℕ) (frame : ℕ) → IsBroken hold pads frame →
    IsBroken hold (replicate hold pad ++ pads) (hold + frame)
behind_a_step hold pad pads frame b =
    let size = length-append (replicate hold pad) (held_pads hold b.steps) in
    record {
      steps = pad ∷ b.steps;
      pad = b.pad;
      place = b.place;
      begun = b.begun;
      short = b.short;
      counted = omega (arith, b.counted, size, length-replicate hold pad);
      before =
          take_behind hold (replicate hold pad) pads frame (length-replicate hold pad)
          ∙ ap (λ m. replicate hold pad ++ m) b.before
          ∙ sym (append_assoc (replicate hold pad) (held_pads hold b.steps) (replicate b.place b.pad));
      differs = λ e. b.differs (sym (get_behind hold (replicate hold pad) pads frame (length-replicate hold pad)) ∙ e);
    }

-- the same at other frames
at_frames :
    (hold : ℕ) (pads others : List ℕ) (frame other : ℕ) → pads ≡ others → frame ≡ other → IsBroken hold pads frame →
    IsBroken hold others other
at_frames hold pads others frame other e f b =
    let P : List ℕ → Type 0 = λ xs. IsBroken hold xs other in
    subst P e (subst (IsBroken hold pads) f b)

one_pad_on :
    (done pad shown : ℕ) (pads : List ℕ) → shown ≡ pad →
    replicate (done + 1) pad ++ pads ≡ replicate done pad ++ (shown ∷ pads)
one_pad_on done pad shown pads e =
    ap (λ m. m ++ pads) (sym (replicate_more done pad))
    ∙ append_assoc (replicate done pad) (pad ∷ []) pads
    ∙ ap (λ x. replicate done pad ++ (x ∷ pads)) (sym e)

-- a step of which frames are done and some are left
Breaks : ℕ → List ℕ → Type 0
Breaks hold pads =
    (done left pad frame : ℕ) → 0 < done → done + left ≡ hold → unheld hold left pad pads ≡ Some frame →
    IsBroken hold (replicate done pad ++ pads) (done + frame)

-- the next frame begins a step
first_broken :
    (hold held pad : ℕ) (pads : List ℕ) (frame : ℕ) → 1 ≤ hold → Breaks hold pads →
    unheld hold 0 held (pad ∷ pads) ≡ Some frame → IsBroken hold (pad ∷ pads) frame
unfolding Breaks
first_broken hold held pad pads frame some rest e =
    let found = moved_some 1 (unheld hold (hold - 1) pad pads) frame (sym (begins hold held pad pads some) ∙ e) in
    let further : IsBroken hold (replicate 1 pad ++ pads) (1 + found.0) =
    rest 1 (hold - 1) pad found.0 (omega arith) (omega (arith, some)) found.1.0 in
    at_frames hold (replicate 1 pad ++ pads) (pad ∷ pads) (1 + found.0) frame refl (sym found.1.1) further

-- the next frame goes on with a step, or not
next_broken :
    (b : Bool) (hold done left pad shown : ℕ) (pads : List ℕ) (frame : ℕ) → (shown == pad) ≡ b → 0 < done → 0 < left →
    done + left ≡ hold →
    Breaks hold pads → unheld hold left pad (shown ∷ pads) ≡ Some frame →
    IsBroken hold (replicate done pad ++ (shown ∷ pads)) (done + frame)
unfolding Breaks
next_broken true hold done left pad shown pads frame test begun some whole rest e =
    let same : shown ≡ pad = grind (arith, nat_tests) in
    let found =
    moved_some 1 (unheld hold (left - 1) pad pads) frame (sym (goes_on hold left pad shown pads some same) ∙ e) in
    let further : IsBroken hold (replicate (done + 1) pad ++ pads) ((done + 1) + found.0) =
    rest (done + 1) (left - 1) pad found.0 (omega arith) (omega (arith, some, whole)) found.1.0 in
    at_frames hold (replicate (done + 1) pad ++ pads) (replicate done pad ++ (shown ∷ pads)) ((done + 1) + found.0)
    (done + frame)
    (one_pad_on done pad shown pads same) (omega (arith, found.1.1)) further
next_broken false hold done left pad shown pads frame test begun some whole rest e =
    let other : shown ≢ pad = grind (arith, nat_tests) in
    let now : Some 0 ≡ Some frame = sym (breaks hold left pad shown pads some other) ∙ e in
    at_frames hold _ _ (done + 0) (done + frame) refl (let first : 0 ≡ frame = cc in ap (λ n. done + n) first)
    (broken_here hold done pad (shown ∷ pads) begun (omega arith) (λ f. other cc))

-- the frames end in a step
ends_broken :
    (hold done left pad frame : ℕ) → 0 < done → done + left ≡ hold → unheld hold left pad [] ≡ Some frame →
    IsBroken hold (replicate done pad ++ []) (done + frame)
ends_broken hold done zero pad frame begun whole e = cc
ends_broken hold done (suc n) pad frame begun whole e =
    at_frames hold _ _ (done + 0) (done + frame) refl (let first : 0 ≡ frame = cc in ap (λ m. done + m) first)
    (broken_here hold done pad [] begun (omega arith) (λ f. cc))

breaks_from : (hold : ℕ) (pads : List ℕ) → 1 ≤ hold → Breaks hold pads
unfolding Breaks
breaks_from hold [] some done left pad frame begun whole e = ends_broken hold done left pad frame begun whole e
breaks_from hold (shown ∷ pads) some done zero pad frame begun whole e =
    let all : done ≡ hold = omega (arith, whole) in
    at_frames hold (replicate hold pad ++ (shown ∷ pads)) (replicate done pad ++ (shown ∷ pads)) (hold + frame)
    (done + frame)
    (ap (λ n. replicate n pad ++ (shown ∷ pads)) (sym all)) (ap (λ n. n + frame) (sym all))
    (behind_a_step hold pad (shown ∷ pads) frame
    (first_broken hold pad shown pads frame some (breaks_from hold pads some) e))
breaks_from hold (shown ∷ pads) some done (suc n) pad frame begun whole e =
    next_broken (shown == pad) hold done (suc n) pad shown pads frame refl begun (omega arith) whole
    (breaks_from hold pads some) e

-- where frames leave the steps that their first pads make, a step is broken
pub broken :
    (hold : ℕ) (pads : List ℕ) (frame : ℕ) → 1 ≤ hold →
    first_left (held_pads hold (first_pads hold pads)) pads ≡ Some frame → IsBroken hold pads frame
broken hold [] frame some e = cc
broken hold (pad ∷ pads) frame some e = first_broken hold 0 pad pads frame some (breaks_from hold pads some) e

-- behind the start
pub broken_behind :
    (hold : ℕ) (start pads : List ℕ) (frame : ℕ) → IsBroken hold pads frame →
    LeavesStep hold start (start ++ pads) (length start + frame)
broken_behind hold start pads frame b =
    let size = length-append start (held_pads hold b.steps) in
    record {
      steps = b.steps;
      pad = b.pad;
      place = b.place;
      begun = b.begun;
      short = b.short;
      counted = omega (arith, b.counted, size);
      before =
          take-append-add start pads frame
          ∙ ap (λ m. start ++ m) b.before
          ∙ sym (append_assoc start (held_pads hold b.steps) (replicate b.place b.pad));
      differs = λ e. b.differs (sym (slice_get-append-add start pads frame) ∙ e);
    }
