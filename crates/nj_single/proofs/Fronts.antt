-- The live rows of a step, word by word, and their frames.
use Rattle.std.proofs.Common.{◌≡◌, ℕ, ◌+◌, ◌*◌, ◌<◌, ◌≤◌, List, [], ◌∷◌, ◌++◌, length, drop, get_or, sym, ap, ◌∙◌, arith}
use Rattle.std.proofs.Math.Nat.{mul-add}
use Rattle.std.proofs.lemmas.List.{at_drop_more, append_assoc, drop_all, append-nil}
use Rattle.std.proofs.lemmas.List.Sums.{sum_by-cons}
use Rattle.nj_search_defs.specs.Game.{Word}
use Rattle.nj_machine.specs.State.{State, rom_of, power_on}
use Rattle.nj_game.specs.Words.{allowed_of}
use Rattle.nj_rows.specs.declared.Row.{Row}
use Rattle.nj_expand.specs.Front.{rom_in, size_in}
use Rattle.nj_expand.specs.Held.{Held, live_rows, candidates_in}
use Rattle.nj_expand.specs.Children.{word_rows, rows_from, runs_from}

-- the frames of the candidates of these words
abbrev pub frames_from : Held → List Word → ℕ
frames_from held words = held.plan.script.hold * runs_from held.plan words

-- those of a word and of the words behind it
more_frames : (held : Held) (word : Word) (words : List Word)
    → frames_from held (word ∷ words) ≡ held.plan.script.hold * length (allowed_of held.plan word)
    + frames_from held words
more_frames held word words =
    ap (λ n. held.plan.script.hold * n) (sum_by-cons (λ (w : Word). length (allowed_of held.plan w)) word words)
    ∙ mul-add held.plan.script.hold (length (allowed_of held.plan word)) (runs_from held.plan words)

-- the words before a place are done: their live rows are added, their frames are counted, and machine and room are the
-- search's; what is left is what all bring but them
pub record AreDone (held : Held) (i : ℕ) (rows : List Row) (since steps : ℕ) (machine : State) (room : ℕ) : Type 0 where
  pub all : live_rows held ≡ rows ++ rows_from held i (drop i held.state.front)
  pub counted : steps + frames_from held (drop i held.state.front) ≤ since
      + held.plan.script.hold * length (candidates_in held)
  pub later : since ≤ steps
  pub cartridge : rom_of machine ≡ rom_in held.plan
  pub long : room ≡ size_in held.plan

-- none is done
pub none_done : ((held : Held) → live_rows held ≡ rows_from held 0 held.state.front)
    → ((held : Held) → length (candidates_in held) ≡ runs_from held.plan held.state.front)
    → (held : Held) (rows : List Row) (steps room : ℕ) (machine : State) → rows ≡ []
    → machine ≡ power_on held.plan.cartridge → room ≡ size_in held.plan
    → AreDone held 0 rows steps steps machine room
unfolding rom_in
none_done by_words runs held rows steps room machine empty is long = record {
  all = by_words held ∙ ap (λ xs. xs ++ rows_from held 0 held.state.front) (sym empty);
  counted = let same : held.plan.script.hold * length (candidates_in held) ≡ frames_from held held.state.front =
      ap (λ n. held.plan.script.hold * n) (runs held) in omega (arith, same);
  later = omega arith;
  cartridge = ap rom_of is;
  long = long;
}

-- one word more
pub one_done : (held : Held) (i : ℕ) (rows new : List Row) (since steps after : ℕ) (machine moved : State)
    (room room' : ℕ) → i < length held.state.front
    → AreDone held i rows since steps machine room
    → new ≡ rows ++ word_rows held i (get_or held.state.front i [])
    → after ≤ steps + held.plan.script.hold * length (allowed_of held.plan (get_or held.state.front i []))
    → steps ≤ after
    → rom_of moved ≡ rom_in held.plan → room' ≡ room → AreDone held (i + 1) new since after moved room'
one_done held i rows new since steps after machine moved room room' lt done is takes later keeps long = record {
  all =
      let word : Word = get_or held.state.front i [] in
      let rest : List Word = drop (i + 1) held.state.front in
      done.all
      ∙ ap (λ xs. rows ++ xs) (at_drop_more (rows_from held i) held.state.front i [] lt)
      ∙ sym (append_assoc rows (word_rows held i word) (rows_from held (i + 1) rest))
      ∙ ap (λ xs. xs ++ rows_from held (i + 1) rest) (sym is);
  counted =
      let word : Word = get_or held.state.front i [] in
      let rest : List Word = drop (i + 1) held.state.front in
      let cost : frames_from held (drop i held.state.front) ≡ held.plan.script.hold * length (allowed_of held.plan word)
      + frames_from held rest =
      at_drop_more (frames_from held) held.state.front i [] lt ∙ more_frames held word rest in
      omega (arith, done.counted, takes, cost);
  later = omega (arith, done.later, later);
  cartridge = keeps;
  long = long ∙ done.long;
}

-- all are done
pub all_done : (held : Held) (i : ℕ) (rows : List Row) (since steps : ℕ) (machine : State) (room : ℕ)
    → length held.state.front ≤ i
    → AreDone held i rows since steps machine room → rows ≡ live_rows held
all_done held i rows since steps machine room le done =
    sym (done.all ∙ ap (λ words. rows ++ rows_from held i words) (drop_all i held.state.front le) ∙ append-nil rows)

-- no more frames are counted than those of all
pub all_counted : (held : Held) (i : ℕ) (rows : List Row) (since steps : ℕ) (machine : State) (room : ℕ)
    → AreDone held i rows since steps machine room
    → steps ≤ since + held.plan.script.hold * length (candidates_in held)
all_counted held i rows since steps machine room done = omega (arith, done.counted)
