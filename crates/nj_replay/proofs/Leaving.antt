-- Where a movie leaves another.
use Rattle.std.proofs.Common.{◌≡◌, ◌≢◌, ◌==◌, ℕ, suc, ◌+◌, ◌<◌, ◌≤◌, Bool, true, false, Option, Some, None, List, [], ◌∷◌, ◌++◌, length, drop, refl, ap, ap₂, sym, ◌∙◌, subst, arith, if◌then◌else◌, get_or, zero-add, add-zero, length-append}
use Rattle.std.proofs.lemmas.Bool.Decides.{nat_tests}
use Rattle.std.proofs.lemmas.List.{drop_all}
use Rattle.std.proofs.Math.Seq.{drop-cons}
use Rattle.nj_replay.specs.Reading.{moved, first_left, LeavesStart}

pub moved-moved : (m n : ℕ) (o : Option ℕ) → moved m (moved n o) ≡ moved (m + n) o
moved-moved m n None = refl
moved-moved m n (Some k) = ap Some (omega arith)

pub moved-zero : (o : Option ℕ) → moved 0 o ≡ o
moved-zero None = refl
moved-zero (Some k) = ap Some (zero-add k)

pub moved_none : (n : ℕ) (o : Option ℕ) → moved n o ≡ None → o ≡ None
moved_none n None e = refl
moved_none n (Some k) e = cc

pub moved_some :
    (n : ℕ) (o : Option ℕ) (frame : ℕ) → moved n o ≡ Some frame → (k : ℕ) × ((o ≡ Some k) × (frame ≡ n + k))
moved_some n None frame e = cc
moved_some n (Some k) frame e = (k, (refl, cc))

-- ---- one frame

pub left_same :
    (pad shown : ℕ) (whole movie : List ℕ) → shown ≡ pad →
    first_left (pad ∷ whole) (shown ∷ movie) ≡ moved 1 (first_left whole movie)
left_same pad shown whole movie e = let same : (shown == pad) ≡ true = grind (arith, nat_tests) in rw same refl

pub left_other :
    (pad shown : ℕ) (whole movie : List ℕ) → shown ≢ pad → first_left (pad ∷ whole) (shown ∷ movie) ≡ Some 0
left_other pad shown whole movie h = let other : (shown == pad) ≡ false = grind (arith, nat_tests) in rw other refl

-- ---- movies that begin as another

-- what is not left begins the movie
none_by : (b : Bool) (pad shown : ℕ) (whole movie : List ℕ) → (shown == pad) ≡ b →
    (if b then moved 1 (first_left whole movie) else Some 0) ≡ None →
    (first_left whole movie ≡ None → movie ≡ whole ++ drop (length whole) movie) →
    shown ∷ movie ≡ pad ∷ whole ++ drop (length whole) movie
none_by true pad shown whole movie test e rest =
    let same : shown ≡ pad = grind (arith, nat_tests) in
    ap₂ (λ x xs. x ∷ xs) same (rest (moved_none 1 (first_left whole movie) e))
none_by false pad shown whole movie test e rest = cc

pub left_none : (whole movie : List ℕ) → first_left whole movie ≡ None → movie ≡ whole ++ drop (length whole) movie
left_none [] movie e = refl
left_none (pad ∷ whole) [] e = cc
left_none (pad ∷ whole) (shown ∷ movie) e = none_by (shown == pad) pad shown whole movie refl e (left_none whole movie)

-- a beginning is not left
pub left_prefix : (whole more : List ℕ) → first_left whole (whole ++ more) ≡ None
left_prefix [] more = refl
left_prefix (pad ∷ whole) more = left_same pad pad whole (whole ++ more) refl ∙ ap (moved 1) (left_prefix whole more)

-- behind a beginning that both have
pub left-append :
    (begun whole movie : List ℕ) →
    first_left (begun ++ whole) (begun ++ movie) ≡ moved (length begun) (first_left whole movie)
left-append [] whole movie = sym (moved-zero (first_left whole movie))
left-append (pad ∷ begun) whole movie =
    left_same pad pad (begun ++ whole) (begun ++ movie) refl
    ∙ ap (moved 1) (left-append begun whole movie)
    ∙ moved-moved 1 (length begun) (first_left whole movie)
    ∙ ap (λ n. moved n (first_left whole movie)) (let e : 1 + length begun ≡ length (pad ∷ begun) = omega arith in e)

-- behind the start, where the movie does not leave it
pub left_behind : (start whole movie : List ℕ) → first_left start movie ≡ None →
    first_left (start ++ whole) movie ≡ moved (length start) (first_left whole (drop (length start) movie))
left_behind start whole movie e =
    ap (first_left (start ++ whole)) (left_none start movie e) ∙ left-append start whole (drop (length start) movie)

-- ---- the frame where a movie leaves another

some_by : (b : Bool) (pad shown : ℕ) (whole movie : List ℕ) (frame : ℕ) → (shown == pad) ≡ b →
    (if b then moved 1 (first_left whole movie) else Some 0) ≡ Some frame →
    ((k : ℕ) → first_left whole movie ≡ Some k → LeavesStart whole movie k) →
    LeavesStart (pad ∷ whole) (shown ∷ movie) frame
some_by true pad shown whole movie frame test e rest =
    let same : shown ≡ pad = grind (arith, nat_tests) in
    let found = moved_some 1 (first_left whole movie) frame e in
    let further : LeavesStart whole movie found.0 = rest found.0 found.1.0 in
    let here : LeavesStart (pad ∷ whole) (shown ∷ movie) (suc found.0) = record {
      within = omega (arith, further.within);
      before = ap₂ (λ x xs. x ∷ xs) same further.before;
      differs = further.differs;
    } in
    let next : suc found.0 ≡ frame = omega (arith, found.1.1) in
    subst (LeavesStart (pad ∷ whole) (shown ∷ movie)) next here
some_by false pad shown whole movie frame test e rest =
    let other : shown ≢ pad = grind (arith, nat_tests) in
    let here : LeavesStart (pad ∷ whole) (shown ∷ movie) 0 = record {
      within = omega arith;
      before = refl;
      differs = λ same. other (cc);
    } in
    let first : 0 ≡ frame = cc in
    subst (LeavesStart (pad ∷ whole) (shown ∷ movie)) first here

pub left_some : (whole movie : List ℕ) (frame : ℕ) → first_left whole movie ≡ Some frame → LeavesStart whole movie frame
left_some [] movie frame e = cc
left_some (pad ∷ whole) [] frame e =
    let here : LeavesStart (pad ∷ whole) [] 0 = record { within = omega arith; before = refl; differs = λ same. cc } in
    let first : 0 ≡ frame = cc in
    subst (LeavesStart (pad ∷ whole) []) first here
left_some (pad ∷ whole) (shown ∷ movie) frame e =
    some_by (shown == pad) pad shown whole movie frame refl e (λ k. left_some whole movie k)

-- a movie that does not leave another is as long
pub left_length : (whole movie : List ℕ) → first_left whole movie ≡ None → length whole ≤ length movie
left_length whole movie e =
    let size : length movie ≡ length (whole ++ drop (length whole) movie) = ap length (left_none whole movie e) in
    grind (arith, length-append)

-- ---- a loop over the frames

-- what is left of both, by the next frame
left_at : (whole movie : List ℕ) (frame pad shown : ℕ) → frame < length whole → frame < length movie →
    pad ≡ get_or whole frame pad → shown ≡ get_or movie frame shown →
    first_left (drop frame whole) (drop frame movie)
    ≡ first_left (pad ∷ drop (frame + 1) whole) (shown ∷ drop (frame + 1) movie)
left_at whole movie frame pad shown h k is_pad is_shown =
    ap₂ first_left
    (drop-cons whole frame pad h
    ∙ ap₂ (λ x n. x ∷ drop n whole) (sym is_pad) (let e : suc frame ≡ frame + 1 = omega arith in e))
    (drop-cons movie frame shown k
    ∙ ap₂ (λ x n. x ∷ drop n movie) (sym is_shown) (let e : suc frame ≡ frame + 1 = omega arith in e))

-- one more frame is the same
pub left_next : (whole movie : List ℕ) (frame pad shown : ℕ) → frame < length whole → frame < length movie →
    pad ≡ get_or whole frame pad → shown ≡ get_or movie frame shown → shown ≡ pad →
    first_left whole movie ≡ moved frame (first_left (drop frame whole) (drop frame movie)) →
    first_left whole movie ≡ moved (frame + 1) (first_left (drop (frame + 1) whole) (drop (frame + 1) movie))
left_next whole movie frame pad shown h k is_pad is_shown e so_far =
    so_far
    ∙ ap (moved frame)
    (left_at whole movie frame pad shown h k is_pad is_shown
    ∙ left_same pad shown (drop (frame + 1) whole) (drop (frame + 1) movie) e)
    ∙ moved-moved frame 1 (first_left (drop (frame + 1) whole) (drop (frame + 1) movie))

-- the next frame differs
pub left_here : (whole movie : List ℕ) (frame pad shown : ℕ) → frame < length whole → frame < length movie →
    pad ≡ get_or whole frame pad → shown ≡ get_or movie frame shown → shown ≢ pad →
    first_left whole movie ≡ moved frame (first_left (drop frame whole) (drop frame movie)) →
    Some frame ≡ first_left whole movie
left_here whole movie frame pad shown h k is_pad is_shown e so_far =
    sym (so_far
    ∙ ap (moved frame)
    (left_at whole movie frame pad shown h k is_pad is_shown
    ∙ left_other pad shown (drop (frame + 1) whole) (drop (frame + 1) movie) e)
    ∙ ap Some (add-zero frame))

-- the movie ends before the next frame
pub left_at_end : (whole movie : List ℕ) (frame : ℕ) → frame < length whole → length movie ≤ frame →
    first_left whole movie ≡ moved frame (first_left (drop frame whole) (drop frame movie)) →
    Some frame ≡ first_left whole movie
left_at_end whole movie frame h k so_far =
    sym (so_far
    ∙ ap (moved frame) (ap₂ first_left (drop-cons whole frame 0 h) (drop_all frame movie k))
    ∙ ap Some (add-zero frame))

-- nothing is left of the other
pub left_nowhere : (whole movie : List ℕ) (frame : ℕ) → length whole ≤ frame →
    first_left whole movie ≡ moved frame (first_left (drop frame whole) (drop frame movie)) →
    None ≡ first_left whole movie
left_nowhere whole movie frame h so_far =
    sym (so_far ∙ ap (λ xs. moved frame (first_left xs (drop frame movie))) (drop_all frame whole h))
