-- The words of a piece, one after another.
use Rattle.std.proofs.Common.{◌≡◌, ℕ, ◌+◌, ◌-◌, ◌*◌, ◌<◌, ◌≤◌, min, Bool, true, false, leb, List, [], ◌∷◌, ◌++◌, length, take, drop, get_or, refl, sym, ap, ◌∙◌, subst, arith, append_assoc, append-nil}
use Rattle.std.proofs.Math.Nat.{mul-add, add-mul, mul-le-mul_right}
use Rattle.std.proofs.lemmas.List.{take_more, take_all, get_or-drop, length-take-le, length-drop}
use Rattle.std.proofs.lemmas.Bool.{leb-true, leb-false}
use Rattle.std.proofs.lemmas.List.Sums.{sum_by_push}
use Rattle.nj_search_defs.specs.Game.{Word}
use Rattle.nj_claims.specs.Passes.{PassView}
use Rattle.nj_machine.specs.State.{State, rom_of}
use Rattle.nj_game.specs.Words.{allowed_of}
use Rattle.nj_rows.specs.declared.Row.{Row}
use Rattle.nj_expand.specs.Held.{Held}
use Rattle.nj_expand.specs.Front.{rom_in}
use Rattle.nj_expand.specs.Children.{word_rows, rows_from, runs_from}
use Rattle.nj_hands.specs.Claimed.{AddsClaimed}
use Rattle.nj_hands.specs.Shares.{piece_rows, piece_runs}
use Rattle.nj_hands.proofs.Claims.{adds_none, adds_more}

-- the rows of words, and of words behind them
pub rows_append : (held : Held) (i : ℕ) (xs ys : List Word)
    → rows_from held i (xs ++ ys) ≡ rows_from held i xs ++ rows_from held (i + length xs) ys
rows_append held i [] ys = ap (λ n. rows_from held n ys) (let e : i ≡ i + 0 = omega arith in e)
rows_append held i (word ∷ xs) ys =
    ap (λ rows. word_rows held i word ++ rows) (rows_append held (i + 1) xs ys)
    ∙ sym (append_assoc (word_rows held i word) (rows_from held (i + 1) xs) (rows_from held (i + 1 + length xs) ys))
    ∙ ap (λ n. (word_rows held i word ++ rows_from held (i + 1) xs) ++ rows_from held n ys)
    (let e : i + 1 + length xs ≡ i + length (word ∷ xs) = omega arith in e)

-- of one word more
rows_next : (held : Held) (first n : ℕ) (words : List Word) → n < length words
    → rows_from held first (take (n + 1) words)
    ≡ rows_from held first (take n words) ++ word_rows held (first + n) (get_or words n [])
rows_next held first n words within =
    let long : length (take n words) ≡ n = length-take-le n words (omega arith) in
    ap (rows_from held first) (take_more words n [] within)
    ∙ rows_append held first (take n words) (get_or words n [] ∷ [])
    ∙ ap (λ rows. rows_from held first (take n words) ++ rows)
    (append-nil (word_rows held (first + length (take n words)) (get_or words n [])))
    ∙ ap (λ m. rows_from held first (take n words) ++ word_rows held (first + m) (get_or words n [])) long

-- the words of a piece from its first on, before a place
abbrev pub words_before : Held → ℕ → ℕ → List Word
words_before held first place = take (place - first) (drop first held.state.front)

-- the words before this place are done
pub record IsDone (held : Held) (first place : ℕ) (p q : PassView) (xs ys : List Row) (from to long now : ℕ)
    (machine : State) : Type 0 where
  pub rows : AddsClaimed (rows_from held first (words_before held first place)) p q xs ys
  pub frames : to ≤ from + held.plan.script.hold * runs_from held.plan (words_before held first place)
  pub rises : from ≤ to
  pub room : now ≤ long + (place - first) * held.bounds.inputs
  pub cartridge : rom_of machine ≡ rom_in held.plan

pub none_done : (held : Held) (first : ℕ) (p : PassView) (xs : List Row) (from long : ℕ) (machine : State)
    → rom_of machine ≡ rom_in held.plan
    → IsDone held first first p p xs xs from from long long machine
none_done held first p xs from long machine cartridge = record {
  rows = subst (λ (n : ℕ). AddsClaimed (rows_from held first (take n (drop first held.state.front))) p p xs xs)
      (let none : 0 ≡ first - first = omega arith in none) (adds_none p xs);
  frames = omega arith;
  rises = omega arith;
  room = omega arith;
  cartridge = cartridge;
}

-- one word more
pub one_done : (held : Held) (first place : ℕ) (p q s : PassView) (xs ys zs : List Row)
    (from to after long now then : ℕ) (machine next : State)
    → first ≤ place → place < length held.state.front
    → IsDone held first place p q xs ys from to long now machine
    → AddsClaimed (word_rows held place (get_or held.state.front place [])) q s ys zs
    → after ≤ to + held.plan.script.hold * length (allowed_of held.plan (get_or held.state.front place [])) → to ≤ after
    → then ≤ now + held.bounds.inputs → rom_of next ≡ rom_in held.plan
    → IsDone held first (place + 1) p s xs zs from after long then next
one_done held first place p q s xs ys zs from to after long now
    then machine next low within done claimed frames rises few cartridge =
    record {
      rows = subst (λ rows. AddsClaimed rows p s xs zs) (sym rows_are)
          (adds_more (rows_from held first (take n words)) (word_rows held place word) p q s xs ys zs done.rows
          claimed);
      frames =
          let hold = held.plan.script.hold in
          let runs : ℕ = runs_from held.plan (take n words) in
          let one : ℕ = length (allowed_of held.plan word) in
          let product : hold * (runs + one) ≡ hold * runs + hold * one = mul-add hold runs one in
          let was : to ≤ from + hold * runs = done.frames in
          let is : after ≤ to + hold * one = frames in
          let sum : after ≤ from + hold * (runs + one) = omega arith in
          subst (λ (m : ℕ). after ≤ from + hold * m) (sym runs_are) sum;
      rises = (let was = done.rises in omega arith);
      room =
          let inputs = held.bounds.inputs in
          let product : (n + 1) * inputs ≡ n * inputs + 1 * inputs = add-mul n 1 inputs in
          let was : now ≤ long + n * inputs = done.room in
          let sum : then ≤ long + (n + 1) * inputs = omega arith in
          subst (λ (m : ℕ). then ≤ long + m * inputs) count sum;
      cartridge = cartridge;
    } where
      n : ℕ
      n = place - first

      words : List Word
      words = drop first held.state.front

      word : Word
      word = get_or held.state.front place []

      count : n + 1 ≡ place + 1 - first
      count = omega arith

      here : first + n ≡ place
      here = omega arith

      long_enough : n < length words
      long_enough = let e = length-drop first held.state.front in omega arith

      same : get_or words n [] ≡ word
      same = get_or-drop first held.state.front n [] ∙ ap (λ m. get_or held.state.front m []) here

      rows_are : rows_from held first (words_before held first (place + 1))
          ≡ rows_from held first (take n words) ++ word_rows held place word
      rows_are = ap (λ m. rows_from held first (take m words)) (sym count) ∙ rows_next held first n words long_enough
          ∙ ap (λ m. rows_from held first (take n words) ++ word_rows held m (get_or words n [])) here
          ∙ ap (λ w. rows_from held first (take n words) ++ word_rows held place w) same

      runs_are : runs_from held.plan (words_before held first (place + 1))
          ≡ runs_from held.plan (take n words) + length (allowed_of held.plan word)
      runs_are = ap (λ m. runs_from held.plan (take m words)) (sym count)
          ∙ ap (runs_from held.plan) (take_more words n [] long_enough)
          ∙ sum_by_push (λ w. length (allowed_of held.plan w)) (take n words) (get_or words n [])
          ∙ ap (λ w. runs_from held.plan (take n words) + length (allowed_of held.plan w)) same

-- there is room for one word more
pub still_room : (first place inputs long now cap : ℕ) → place < first + 16 → first ≤ place
    → now ≤ long + (place - first) * inputs → long + 16 * inputs ≤ cap → now + inputs ≤ cap
still_room first place inputs long now cap below low so_far room =
    let most : (place - first + 1) * inputs ≤ 16 * inputs =
    mul-le-mul_right inputs (let e : place - first + 1 ≤ 16 = omega arith in e) in
    let product : (place - first + 1) * inputs ≡ (place - first) * inputs + 1 * inputs =
    add-mul (place - first) 1 inputs in
    omega arith

-- all words of the piece are done
pub all_done : (held : Held) (piece place : ℕ) (p q : PassView) (xs ys : List Row) (from to long now : ℕ)
    (machine : State)
    → min (length held.state.front) (16 * piece + 16) ≤ place → 16 * piece ≤ place → place ≤ 16 * piece + 16
    → IsDone held (16 * piece) place p q xs ys from to long now machine
    → AddsClaimed (piece_rows held piece) p q xs ys × (to ≤ from + held.plan.script.hold * piece_runs held piece)
unfolding piece_rows piece_runs
all_done held piece place p q xs ys from to long now machine end low high done = (
  subst (λ ws. AddsClaimed (rows_from held (16 * piece) ws) p q xs ys) whole done.rows,
  subst (λ ws. to ≤ from + held.plan.script.hold * runs_from held.plan ws) whole done.frames,
) where
  front : List Word
  front = held.state.front

  rest : List Word
  rest = drop (16 * piece) front

  many : length rest ≡ length front - 16 * piece
  many = length-drop (16 * piece) front

  by_test : (b : Bool) → leb (length front) place ≡ b → take (place - 16 * piece) rest ≡ take 16 rest
  by_test true e =
      let past = leb-true (length front) place e in
      take_all (place - 16 * piece) rest (omega (arith, many)) ∙ sym (take_all 16 rest (omega (arith, many)))
  by_test false e =
      let before = leb-false (length front) place e in
      ap (λ n. take n rest) (let is : place - 16 * piece ≡ 16 = omega arith in is)

  whole : take (place - 16 * piece) rest ≡ take 16 rest
  whole = by_test (leb (length front) place) refl
