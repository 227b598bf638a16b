-- A movie read as a word.
use Rattle.std.proofs.Common.{◌≡◌, ◌⊎◌, ℕ, zero, suc, ◌+◌, ◌-◌, ◌≤◌, Option, Some, None, List, [], ◌∷◌, ◌++◌, length, drop, replicate, Ok, Err, refl, ap, ap₂, sym, ◌∙◌, subst, subst₂, inl, inr, arith, append-nil, length-append}
use Rattle.std.proofs.lemmas.List.{length-replicate, drop_all, drop_at}
use Rattle.nj_search_defs.specs.Game.{Word}
use Rattle.nj_game.specs.Plan.{held_pads}
use Rattle.nj_replay.specs.declared.ReplayRefused.{ReplayRefused}
use Rattle.nj_replay.specs.declared.ReplayRefused.TheVariants.{NotStart, NotHeld}
use Rattle.nj_replay.specs.Reading.{moved, first_left, first_from, first_pads, refused_or, word_of, LeavesStep, IsFirstRefusal}
use Rattle.nj_replay.proofs.Leaving.{moved_none, moved_some, left_none, left_some, left_prefix, left_behind}
use Rattle.nj_replay.proofs.Broken.{broken, broken_behind}

-- ---- steps and their first pads

-- the steps of the first pads have at least the frames
covers :
    (hold left : ℕ) (pads : List ℕ) → 1 ≤ hold →
    length pads ≤ length (held_pads hold (first_from hold left pads)) + left
covers hold left [] some = omega arith
covers hold zero (pad ∷ pads) some =
    omega (
      arith,
      some,
      covers hold (hold - 1) pads some,
      length-append (replicate hold pad) (held_pads hold (first_from hold (hold - 1) pads)),
      length-replicate hold pad,
    )
covers hold (suc left) (pad ∷ pads) some = omega (arith, covers hold left pads some)

-- frames that do not leave the steps of their first pads are these steps
pub whole_steps :
    (hold : ℕ) (pads : List ℕ) → 1 ≤ hold → first_left (held_pads hold (first_pads hold pads)) pads ≡ None →
    pads ≡ held_pads hold (first_pads hold pads)
whole_steps hold pads some e =
    let whole = held_pads hold (first_pads hold pads) in
    left_none whole pads e
    ∙ ap (λ m. whole ++ m) (drop_all (length whole) pads (omega (arith, covers hold 0 pads some)))
    ∙ append-nil whole

-- the first pads behind the rest of a step
first_behind : (hold n pad : ℕ) (pads : List ℕ) → first_from hold n (replicate n pad ++ pads) ≡ first_from hold 0 pads
first_behind hold zero pad pads = refl
first_behind hold (suc n) pad pads = first_behind hold n pad pads

-- the first pads of a word's steps are the word
pub first_pads-held : (hold : ℕ) (word : Word) → 1 ≤ hold → first_pads hold (held_pads hold word) ≡ word
first_pads-held zero word some = absurd (omega (arith, some))
first_pads-held (suc n) [] some = refl
first_pads-held (suc n) (pad ∷ word) some =
    let one_less : suc n - 1 ≡ n = omega arith in
    ap (λ m. pad ∷ m)
    (ap (λ left. first_from (suc n) left (replicate n pad ++ held_pads (suc n) word)) one_less
    ∙ first_behind (suc n) n pad (held_pads (suc n) word)
    ∙ first_pads-held (suc n) word some)

-- ---- what is read

-- a reading is one of three
read_ok :
    (a b : Option ℕ) (word read : Word) → refused_or a NotStart (refused_or b NotHeld (Ok word)) ≡ Ok read →
    (a ≡ None) × ((b ≡ None) × (word ≡ read))
read_ok None None word read e = (refl, (refl, cc))
read_ok None (Some k) word read e = cc
read_ok (Some k) b word read e = cc

read_err :
    (a b : Option ℕ) (word : Word) (refused : ReplayRefused) →
    refused_or a NotStart (refused_or b NotHeld (Ok word)) ≡ Err refused →
    ((k : ℕ) × ((a ≡ Some k) × (refused ≡ NotStart k)))
    ⊎ ((k : ℕ) × ((a ≡ None) × ((b ≡ Some k) × (refused ≡ NotHeld k))))
read_err None None word refused e = cc
read_err None (Some k) word refused e = inr (k, (refl, (refl, cc)))
read_err (Some k) b word refused e = inl (k, (refl, cc))

-- the movie leaves the start
pub not_start :
    (hold : ℕ) (start movie : List ℕ) (frame : ℕ) → first_left start movie ≡ Some frame →
    word_of hold start movie ≡ Err (NotStart frame)
unfolding word_of
not_start hold start movie frame e = rw e refl

-- the frames behind the start leave their steps
pub not_held : (hold : ℕ) (start movie : List ℕ) (frame : ℕ) → first_left start movie ≡ None →
    first_left (held_pads hold (first_pads hold (drop (length start) movie))) (drop (length start) movie) ≡ Some frame →
    word_of hold start movie ≡ Err (NotHeld (length start + frame))
unfolding word_of
not_held hold start movie frame e f =
    let word = first_pads hold (drop (length start) movie) in
    let left : first_left (start ++ held_pads hold word) movie ≡ Some (length start + frame) =
    left_behind start (held_pads hold word) movie e ∙ ap (moved (length start)) f in
    rw (e, left) refl

-- they do not
pub is_read : (hold : ℕ) (start movie : List ℕ) → first_left start movie ≡ None →
    first_left (held_pads hold (first_pads hold (drop (length start) movie))) (drop (length start) movie) ≡ None →
    word_of hold start movie ≡ Ok (first_pads hold (drop (length start) movie))
unfolding word_of
is_read hold start movie e f =
    let word = first_pads hold (drop (length start) movie) in
    let left : first_left (start ++ held_pads hold word) movie ≡ None =
    left_behind start (held_pads hold word) movie e ∙ ap (moved (length start)) f in
    rw (e, left) refl

-- ---- the laws

pub read_is_played :
    (hold : ℕ) (start movie : List ℕ) (word : Word) → 1 ≤ hold → word_of hold start movie ≡ Ok word →
    movie ≡ start ++ held_pads hold word
unfolding word_of
read_is_played hold start movie word some e =
    let behind = drop (length start) movie in
    let first = first_pads hold behind in
    let parts = read_ok (first_left start movie) (first_left (start ++ held_pads hold first) movie) first word e in
    let held : first_left (held_pads hold first) behind ≡ None =
    moved_none (length start) (first_left (held_pads hold first) behind)
    (sym (left_behind start (held_pads hold first) movie parts.0) ∙ parts.1.0) in
    left_none start movie parts.0
    ∙ ap (λ m. start ++ m) (whole_steps hold behind some held)
    ∙ ap (λ w. start ++ held_pads hold w) parts.1.1

pub played_is_read :
    (hold : ℕ) (start movie : List ℕ) (word : Word) → 1 ≤ hold → movie ≡ start ++ held_pads hold word →
    word_of hold start movie ≡ Ok word
played_is_read hold start movie word some e =
    let behind : drop (length start) movie ≡ held_pads hold word =
    ap (drop (length start)) e ∙ drop_at start (held_pads hold word) (length start) refl in
    let first : first_pads hold (drop (length start) movie) ≡ word =
    ap (first_pads hold) behind ∙ first_pads-held hold word some in
    let begun : first_left start movie ≡ None = ap (first_left start) e ∙ left_prefix start (held_pads hold word) in
    let held : first_left (held_pads hold (first_pads hold (drop (length start) movie))) (drop (length start) movie)
    ≡ None =
    ap₂ (λ w m. first_left (held_pads hold w) m) first behind
    ∙ ap (first_left (held_pads hold word)) (sym (append-nil (held_pads hold word)))
    ∙ left_prefix (held_pads hold word) [] in
    is_read hold start movie begun held ∙ ap Ok first

-- a refusal is that of the first frame that no word has
refused_by : (hold : ℕ) (start movie : List ℕ) (refused : ReplayRefused) → 1 ≤ hold →
    (let first = first_pads hold (drop (length start) movie) in
    ((k : ℕ) × ((first_left start movie ≡ Some k) × (refused ≡ NotStart k)))
    ⊎ ((k : ℕ)
    × ((first_left start movie ≡ None)
    × ((first_left (start ++ held_pads hold first) movie ≡ Some k) × (refused ≡ NotHeld k))))) →
    IsFirstRefusal hold start movie refused
refused_by hold start movie refused some (inl (k, (left, is))) =
    subst (IsFirstRefusal hold start movie) (sym is) (left_some start movie k left)
refused_by hold start movie refused some (inr (k, (begun, (left, is)))) =
    let behind = drop (length start) movie in
    let first = first_pads hold behind in
    let found =
    moved_some (length start) (first_left (held_pads hold first) behind) k
    (sym (left_behind start (held_pads hold first) movie begun) ∙ left) in
    let here : LeavesStep hold start (start ++ behind) (length start + found.0) =
    broken_behind hold start behind found.0 (broken hold behind found.0 some found.1.0) in
    let P : List ℕ → ℕ → Type 0 = λ m n. LeavesStep hold start m n in
    subst (IsFirstRefusal hold start movie) (sym is) (subst₂ P (sym (left_none start movie begun)) (sym found.1.1) here)

pub refused_first :
    (hold : ℕ) (start movie : List ℕ) (refused : ReplayRefused) → 1 ≤ hold → word_of hold start movie ≡ Err refused →
    IsFirstRefusal hold start movie refused
unfolding word_of
refused_first hold start movie refused some e =
    let first = first_pads hold (drop (length start) movie) in
    refused_by hold start movie refused some
    (read_err (first_left start movie) (first_left (start ++ held_pads hold first) movie) first refused e)
