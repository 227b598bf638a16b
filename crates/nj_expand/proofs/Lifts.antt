-- What a step does with rows is what it does with their candidates.
use Rattle.std.proofs.Common.{◌≡◌, ◌≢◌, ℕ, ◌+◌, ◌<◌, Bool, true, false, cond, not, ◌&&◌, ◌||◌, ◌==◌, List, [], ◌∷◌, map, max, refl, ap, sym, ◌∙◌, arith}
use Rattle.std.specs.Prelude.{option_map, filter, slice_get, nat_lt}
use Rattle.std.specs.List.{All, list_any}
use Rattle.std.proofs.lemmas.List.Elements.{All-head, All-tail, All-weaker, filter_agree}
use Rattle.nj_search_defs.specs.Game.{Verdict, Go, Win, Fail, Game}
use Rattle.nj_search_defs.specs.Candidates.{Candidate, word_of, candidates}
use Rattle.nj_search_defs.specs.Outcome.{lives_of}
use Rattle.nj_game.specs.Words.{game_of}
use Rattle.nj_search_defs.specs.Order.{is_preferred, put_in, in_order}
use Rattle.nj_search_defs.specs.Pruning.{Seen, Mark, is_win, is_seen, is_live_judged, judged_of, key_of, is_before, is_alike, is_fresh, live, winner, fresh, kept, generation, top_level}
use Rattle.nj_search_defs.specs.Quota.{limited}
use Rattle.nj_search_defs.proofs.Orders.{All-in_order}
use Rattle.nj_search_defs.proofs.Limited.{limited-map}
use Rattle.nj_rows.specs.declared.Row.{Row}
use Rattle.nj_rows.specs.Order.{is_win as is_row_win, is_win_row, is_row_before, is_alike_row}
use Rattle.nj_seen.specs.Verdicts.{verdict_of}
use Rattle.nj_seen.specs.Rows.{is_live_row, is_fresh_row, winner_row, fresh_rows, kept_rows, generation_rows}
use Rattle.nj_candidate.specs.Rows.{row_verdict, row_of}
use Rattle.nj_expand.specs.Held.{Held, live_rows, candidates_in}
use Rattle.nj_expand.specs.Ending.{top_of_rows}
use Rattle.nj_expand.proofs.Buckets.{EvenBuckets, same_buckets}
use Rattle.nj_expand.proofs.Rising.{AreRising, filter_rises}

-- ---- lists

filter-map : {X Y : Type 0} (p : Y → Bool) (f : X → Y) (xs : List X)
    → filter p (map f xs) ≡ map f (filter (λ x. p (f x)) xs)
filter-map p f [] = refl
filter-map p f (x ∷ xs) =
    elim (p (f x)) as (λ b. cond b (f x ∷ filter p (map f xs)) (filter p (map f xs))
    ≡ map f (cond b (x ∷ filter (λ x. p (f x)) xs) (filter (λ x. p (f x)) xs))) [
      | true ↦ ap (λ l. f x ∷ l) (filter-map p f xs)
      | false ↦ filter-map p f xs
    ]

list_any-map : {X Y : Type 0} (p : Y → Bool) (f : X → Y) (xs : List X)
    → list_any p (map f xs) ≡ list_any (λ x. p (f x)) xs
list_any-map p f [] = refl
list_any-map p f (x ∷ xs) = ap (λ b. p (f x) || b) (list_any-map p f xs)

pub map-map : {X Y Z : Type 0} (g : Y → Z) (f : X → Y) (xs : List X) → map g (map f xs) ≡ map (λ x. g (f x)) xs
map-map g f [] = refl
map-map g f (x ∷ xs) = ap (λ l. g (f x) ∷ l) (map-map g f xs)

slice_get-map : {X Y : Type 0} (f : X → Y) (xs : List X) → slice_get (map f xs) 0 ≡ option_map f (slice_get xs 0)
slice_get-map f [] = refl
slice_get-map f (x ∷ xs) = refl

-- ---- one row

win_same : (v : Verdict) → is_row_win (row_verdict v) ≡ is_win v
win_same Go = refl
win_same Win = refl
win_same Fail = refl

verdict_same : (v : Verdict) → verdict_of (row_verdict v) ≡ v
verdict_same Go = refl
verdict_same Win = refl
verdict_same Fail = refl

-- a row is live exactly where its candidate is
live_same : (game : Game) (mark : Mark) (step : ℕ) (c : Candidate)
    → is_live_row mark step (row_of game c) ≡ is_live_judged mark step (judged_of game c)
unfolding row_of
live_same game mark step c =
    let j = judged_of game c in
    ap (λ v. is_live_judged mark step (record { verdict = v; reward = j.reward; level = j.level }))
    (verdict_same j.verdict)

-- the live rows are the rows of the live
pub live-map : (game : Game) (mark : Mark) (step : ℕ) (cs : List Candidate)
    → filter (is_live_row mark step) (map (row_of game) cs) ≡ map (row_of game) (live game mark step cs)
unfolding live
live-map game mark step cs =
    filter-map (is_live_row mark step) (row_of game) cs
    ∙ ap (map (row_of game)) (filter_agree (λ c. is_live_row mark step (row_of game c))
    (λ c. is_live_judged mark step (judged_of game c)) (live_same game mark step) cs)

-- the same of a search
pub rows_of_lives : (held : Held) → live_rows held
    ≡ filter (is_live_row held.state.mark (held.state.step + 1)) (map (row_of (game_of held.plan)) (candidates_in held))
unfolding live_rows candidates_in lives_of
rows_of_lives held =
    let game = game_of held.plan in
    sym (live-map game held.state.mark (held.state.step + 1) (candidates game held.state.front))

-- the law that rows of different numbers stand as their candidates are preferred
abbrev pub Prefers : Type 0
Prefers = (a b : Row) → a.number ≢ b.number → is_row_before a b ≡ is_preferred a.reward a.number b.reward b.number

module _ (game : Game) (law : Prefers) where
  before_same : (a b : Candidate) → a.number ≢ b.number
      → is_row_before (row_of game a) (row_of game b) ≡ is_before game a b
  unfolding row_of
  before_same a b differ = law (row_of game a) (row_of game b) differ

  put-map : (c : Candidate) (cs : List Candidate) → All (λ d. c.number ≢ d.number) cs
      → put_in is_row_before (row_of game c) (map (row_of game) cs) ≡ map (row_of game) (put_in (is_before game) c cs)
  put-map c [] differ = refl
  put-map c (d ∷ ds) differ =
      let row = row_of game in
      ap (λ b. cond b (row c ∷ row d ∷ map row ds) (row d ∷ put_in is_row_before (row c) (map row ds)))
      (before_same c d (All-head (λ d. c.number ≢ d.number) d ds differ))
      ∙ elim (is_before game c d) as (λ b.
      cond b (row c ∷ row d ∷ map row ds) (row d ∷ put_in is_row_before (row c) (map row ds))
      ≡ map row (cond b (c ∷ d ∷ ds) (d ∷ put_in (is_before game) c ds))) [
        | true ↦ refl
        | false ↦ ap (λ l. row d ∷ l) (put-map c ds (All-tail (λ d. c.number ≢ d.number) d ds differ))
      ]

  -- where numbers rise, the rows' order is the candidates'
  pub order-map : (cs : List Candidate) → AreRising cs
      → in_order is_row_before (map (row_of game) cs) ≡ map (row_of game) (in_order (is_before game) cs)
  order-map [] up = refl
  order-map (c ∷ cs) up =
      ap (put_in is_row_before (row_of game c)) (order-map cs up.1)
      ∙ put-map c (in_order (is_before game) cs)
      (All-in_order (is_before game) (λ d. c.number ≢ d.number) cs
      (All-weaker (λ later. c.number < later.number) (λ d. c.number ≢ d.number)
      (λ d less same. absurd (omega (arith, less, same))) cs up.0))

  wins-map : (cs : List Candidate) → filter is_win_row (map (row_of game) cs)
      ≡ map (row_of game) (filter (λ c. is_win (judged_of game c).verdict) cs)
  unfolding row_of
  wins-map cs =
      filter-map is_win_row (row_of game) cs
      ∙ ap (map (row_of game)) (filter_agree (λ c. is_win_row (row_of game c)) (λ c. is_win (judged_of game c).verdict)
      (λ c. win_same (judged_of game c).verdict) cs)

  -- the winner's row is the winner among rows
  pub winner-map : (cs : List Candidate) → AreRising cs
      → winner_row (map (row_of game) cs) ≡ option_map (row_of game) (winner game cs)
  unfolding winner_row winner
  winner-map cs up =
      ap (λ l. slice_get (in_order is_row_before l) 0) (wins-map cs)
      ∙ ap (λ l. slice_get l 0) (order-map (filter (λ c. is_win (judged_of game c).verdict) cs)
      (filter_rises (λ c. is_win (judged_of game c).verdict) cs up))
      ∙ slice_get-map (row_of game) (in_order (is_before game) (filter (λ c. is_win (judged_of game c).verdict) cs))

  -- rows have the same bucket where their candidates have it
  alike_same : EvenBuckets game → (a b : Candidate) → is_alike_row (row_of game a) (row_of game b) ≡ is_alike game a b
  unfolding row_of
  alike_same even a b = same_buckets (game.bucket (word_of a)) (game.bucket (word_of b)) (even (word_of a) (word_of b))

  -- the rows of the kept are the kept rows
  pub kept-map : EvenBuckets game → (most quota : ℕ) (cs : List Candidate) → AreRising cs
      → kept_rows most quota (map (row_of game) cs) ≡ map (row_of game) (kept game most quota cs)
  unfolding kept_rows kept
  kept-map even most quota cs up =
      ap (limited is_alike_row most quota) (order-map cs up)
      ∙ limited-map (row_of game) (is_alike game) is_alike_row most quota (alike_same even)
      (in_order (is_before game) cs)

module _ (game : Game) where
  fresh_same : (seen : Seen) (cs : List Candidate) (c : Candidate)
      → is_fresh_row seen (map (row_of game) cs) (row_of game c) ≡ is_fresh game seen cs c
  unfolding row_of
  fresh_same seen cs c =
      ap (λ b. not (is_seen seen (key_of game c)) && not b)
      (list_any-map (λ (other : Row). nat_lt other.number c.number && (other.key == key_of game c)) (row_of game) cs)

  -- the rows of the fresh are the fresh rows
  pub fresh-map : (seen : Seen) (cs : List Candidate)
      → fresh_rows seen (map (row_of game) cs) ≡ map (row_of game) (fresh game seen cs)
  unfolding fresh_rows fresh
  fresh-map seen cs =
      filter-map (is_fresh_row seen (map (row_of game) cs)) (row_of game) cs
      ∙ ap (map (row_of game)) (filter_agree (λ c. is_fresh_row seen (map (row_of game) cs) (row_of game c))
      (is_fresh game seen cs) (fresh_same seen cs) cs)

  -- the keys of rows, in order, are the candidates' generation
  pub generation-map : (cs : List Candidate) → generation_rows (map (row_of game) cs) ≡ generation game cs
  unfolding generation_rows generation row_of
  generation-map cs = ap (in_order nat_lt) (map-map (λ (row : Row). row.key) (row_of game) cs)

  -- the greatest level of rows is the candidates'
  pub top-map : (cs : List Candidate) → top_of_rows (map (row_of game) cs) ≡ top_level game cs
  unfolding row_of
  top-map [] = refl
  top-map (c ∷ cs) = ap (λ n. max (judged_of game c).level n) (top-map cs)
