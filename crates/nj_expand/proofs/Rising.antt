-- The numbers of candidates: they rise, and tell the parents' places.
use Rattle.std.proofs.Common.{◌≡◌, ℕ, zero, suc, ◌+◌, ◌*◌, ◌/◌, ◌<◌, ◌≤◌, Bool, true, false, cond, List, [], ◌∷◌, ◌++◌, length, map, get_or, ap, ◌∙◌, arith}
use Rattle.std.specs.Prelude.{Some, filter, slice_get}
use Rattle.std.specs.List.{All}
use Rattle.std.proofs.lemmas.List.Elements.{All-nil, All-cons, All-head, All-tail, All-weaker, All-append, All-filter, All-map}
use Rattle.nj_search_defs.specs.Game.{Word, Game}
use Rattle.nj_search_defs.specs.Candidates.{Candidate, extensions, candidates_from, candidates}
use Rattle.nj_search_defs.specs.Order.{in_order}
use Rattle.nj_search_defs.specs.Pruning.{live, fresh, kept, is_before, is_alike}
use Rattle.nj_search_defs.specs.Outcome.{State, lives_of, fresh_of, kept_of}
use Rattle.nj_search_defs.proofs.Orders.{All-in_order}
use Rattle.nj_search_defs.proofs.Limited.{All-limited}
use Rattle.nj_search_defs.specs.Game.{Bounds}
use Rattle.nj_rows.specs.declared.Row.{Row}
use Rattle.nj_seen.specs.Rows.{IsRising}
use Rattle.nj_candidate.specs.Rows.{row_of}

-- ---- numbers rise

-- numbers rise from each candidate to every later one
abbrev pub AreRising : List Candidate → Type 0
AreRising [] = Unit {0}
AreRising (c ∷ cs) = All (λ later. c.number < later.number) cs × AreRising cs

rising_append : (xs ys : List Candidate) (m : ℕ) → AreRising xs → AreRising ys → All (λ c. c.number < m) xs
    → All (λ c. m ≤ c.number) ys → AreRising (xs ++ ys)
rising_append [] ys m up down below above = down
rising_append (x ∷ xs) ys m up down below above =
    let less : x.number < m = All-head (λ c. c.number < m) x xs below in (
      All-append (λ later. x.number < later.number) xs ys up.0
          (All-weaker (λ c. m ≤ c.number) (λ later. x.number < later.number) (λ c h. omega (arith, less, h)) ys above),
      rising_append xs ys m up.1 down (All-tail (λ c. c.number < m) x xs below) above,
    )

from : (n : ℕ) (word : Word) (pads : List ℕ) → All (λ c. n ≤ c.number) (extensions n word pads)
from n word [] = All-nil (λ c. n ≤ c.number)
from n word (pad ∷ pads) =
    All-cons (λ c. n ≤ c.number) (record { number = n; parent = word; pad = pad })
    (extensions (n + 1) word pads) (omega arith)
    (All-weaker (λ c. n + 1 ≤ c.number) (λ c. n ≤ c.number) (λ c h. omega (arith, h)) (extensions (n + 1) word pads)
    (from (n + 1) word pads))

pub below : (n m : ℕ) (word : Word) (pads : List ℕ) → n + length pads ≤ m
    → All (λ c. c.number < m) (extensions n word pads)
below n m word [] h = All-nil (λ c. c.number < m)
below n m word (pad ∷ pads) h =
    All-cons (λ c. c.number < m) (record { number = n; parent = word; pad = pad })
    (extensions (n + 1) word pads) (omega (arith, h))
    (below (n + 1) m word pads (omega (arith, h)))

extensions_rise : (n : ℕ) (word : Word) (pads : List ℕ) → AreRising (extensions n word pads)
extensions_rise n word [] = tt
extensions_rise n word (pad ∷ pads) = (
  All-weaker (λ c. n + 1 ≤ c.number) (λ later. n < later.number) (λ c h. omega (arith, h))
      (extensions (n + 1) word pads) (from (n + 1) word pads),
  extensions_rise (n + 1) word pads,
)

candidates_start : (game : Game) (i : ℕ) (words : List Word)
    → All (λ c. 256 * i ≤ c.number) (candidates_from game i words)
candidates_start game i [] = All-nil (λ c. 256 * i ≤ c.number)
candidates_start game i (word ∷ words) =
    All-append (λ c. 256 * i ≤ c.number) (extensions (256 * i) word (game.allowed word))
    (candidates_from game (i + 1) words)
    (from (256 * i) word (game.allowed word))
    (All-weaker (λ c. 256 * (i + 1) ≤ c.number) (λ c. 256 * i ≤ c.number) (λ c h. omega (arith, h))
    (candidates_from game (i + 1) words) (candidates_start game (i + 1) words))

candidates_rise : (game : Game) → ((word : Word) → length (game.allowed word) ≤ 256) → (i : ℕ) (words : List Word)
    → AreRising (candidates_from game i words)
candidates_rise game few i [] = tt
candidates_rise game few i (word ∷ words) =
    let most : length (game.allowed word) ≤ 256 = few word in
    rising_append (extensions (256 * i) word (game.allowed word)) (candidates_from game (i + 1) words) (256 * (i + 1))
    (extensions_rise (256 * i) word (game.allowed word)) (candidates_rise game few (i + 1) words)
    (below (256 * i) (256 * (i + 1)) word (game.allowed word) (omega (arith, most)))
    (candidates_start game (i + 1) words)

-- a part of candidates whose numbers rise
pub filter_rises : (p : Candidate → Bool) (cs : List Candidate) → AreRising cs → AreRising (filter p cs)
filter_rises p [] up = tt
filter_rises p (c ∷ cs) up =
    elim (p c) as (λ b. AreRising (cond b (c ∷ filter p cs) (filter p cs))) [
      | true ↦ (All-filter p (λ later. c.number < later.number) cs up.0, filter_rises p cs up.1)
      | false ↦ filter_rises p cs up.1
    ]

-- the live candidates' numbers rise
pub lives_rise : (game : Game) (state : State) → ((word : Word) → length (game.allowed word) ≤ 256)
    → AreRising (lives_of game state)
unfolding lives_of live candidates
lives_rise game state few = filter_rises _ (candidates game state.front) (candidates_rise game few 0 state.front)

-- and so do their rows'
pub rows_rise : (game : Game) (cs : List Candidate) → AreRising cs → IsRising (map (row_of game) cs)
unfolding row_of
rows_rise game [] up = tt
rows_rise game (c ∷ cs) up =
    (All-map (λ (later : Row). c.number < later.number) (row_of game) cs up.0, rows_rise game cs up.1)

-- ---- places

-- a candidate's number tells its parent's place in the front
abbrev pub IsPlaced : List Word → Candidate → Type 0
IsPlaced front c = slice_get front (c.number / 256) ≡ Some c.parent

place_of : (i k : ℕ) → k < 256 → (256 * i + k) / 256 ≡ i
place_of i k h = omega arith

extended : (front : List Word) (i k number : ℕ) (word : Word) (pads : List ℕ) → slice_get front i ≡ Some word
    → number ≡ 256 * i + k → k + length pads ≤ 256
    → All (IsPlaced front) (extensions number word pads)
extended front i k number word [] stood is most = All-nil (IsPlaced front)
extended front i k number word (pad ∷ pads) stood is most =
    let here : number / 256 ≡ i = ap (λ n. n / 256) is ∙ place_of i k (omega (arith, most)) in
    All-cons (IsPlaced front) (record { number = number; parent = word; pad = pad }) (extensions (number + 1) word pads)
    (ap (slice_get front) here ∙ stood)
    (extended front i (k + 1) (number + 1) word pads stood (omega (arith, is)) (omega (arith, most)))

made : (game : Game) (front : List Word) (i : ℕ) (words : List Word)
    → ((word : Word) → length (game.allowed word) ≤ 256)
    → ((j : ℕ) → slice_get front (i + j) ≡ slice_get words j) → All (IsPlaced front) (candidates_from game i words)
made game front i [] most rest = All-nil (IsPlaced front)
made game front i (word ∷ words) most rest =
    let here : slice_get front i ≡ Some word = ap (slice_get front) (omega arith) ∙ rest 0 in
    All-append (IsPlaced front) (extensions (256 * i) word (game.allowed word)) (candidates_from game (i + 1) words)
    (extended front i 0 (256 * i) word (game.allowed word) here (omega arith)
    (let m : length (game.allowed word) ≤ 256 = most word in omega (arith, m)))
    (made game front (i + 1) words most (λ j. ap (slice_get front) (omega arith) ∙ rest (suc j)))

-- the kept candidates' parents stand in the front where their numbers tell
pub kept_are_placed : (game : Game) (bounds : Bounds) (state : State)
    → ((word : Word) → length (game.allowed word) ≤ 256) → All (IsPlaced state.front) (kept_of game bounds state)
unfolding kept_of kept fresh_of fresh lives_of live candidates
kept_are_placed game bounds state few =
    All-limited (is_alike game) bounds.most bounds.quota (IsPlaced state.front)
    (in_order (is_before game) (fresh_of game bounds state))
    (All-in_order (is_before game) (IsPlaced state.front) (fresh_of game bounds state)
    (All-filter _ (IsPlaced state.front) (lives_of game state)
    (All-filter _ (IsPlaced state.front) (candidates game state.front)
    (made game state.front 0 state.front few (λ j. ap (slice_get state.front) (omega arith))))))

-- what a place tells
pub record Stands (front : List Word) (place : ℕ) (word : Word) : Type 0 where
  pub within : place < length front
  pub here : get_or front place [] ≡ word

pub stands : (front : List Word) (place : ℕ) (word : Word) → slice_get front place ≡ Some word → Stands front place word
stands [] place word h = absurd (cc)
stands (w ∷ ws) zero word h = record { within = omega arith; here = cc }
stands (w ∷ ws) (suc place) word h =
    let rest = stands ws place word h in
    let lt : place < length ws = rest.within in
    record { within = omega (arith, lt); here = rest.here }
