-- The numbers of candidates rise.
use Rattle.std.proofs.Common.{ℕ, ◌+◌, ◌*◌, ◌<◌, ◌≤◌, Bool, true, false, cond, List, [], ◌∷◌, ◌++◌, length, arith}
use Rattle.std.specs.Prelude.{filter}
use Rattle.std.specs.List.{All}
use Rattle.std.proofs.lemmas.List.Elements.{All-nil, All-cons, All-head, All-tail, All-weaker, All-append, All-filter}
use Rattle.nj_search_defs.specs.Game.{Word, Game}
use Rattle.nj_search_defs.specs.Candidates.{Candidate, extensions, candidates_from, candidates}
use Rattle.nj_search_defs.specs.Pruning.{live}
use Rattle.nj_search_defs.specs.Outcome.{State, lives_of}

-- numbers rise from each candidate to every later one
abbrev pub AreRising : List Candidate → Type 0
AreRising [] = Unit {0}
AreRising (c ∷ cs) = All (λ later. c.number < later.number) cs × AreRising cs

rising_append : (xs ys : List Candidate) (m : ℕ) → AreRising xs → AreRising ys → All (λ c. c.number < m) xs
    → All (λ c. m ≤ c.number) ys → AreRising (xs ++ ys)
rising_append [] ys m up down below above = down
rising_append (x ∷ xs) ys m up down below above =
    let less : x.number < m = All-head (λ c. c.number < m) x xs below in (
      All-append (λ later. x.number < later.number) xs ys up.0
          (All-weaker (λ c. m ≤ c.number) (λ later. x.number < later.number) (λ c h. omega (arith, less, h)) ys above),
      rising_append xs ys m up.1 down (All-tail (λ c. c.number < m) x xs below) above,
    )

from : (n : ℕ) (word : Word) (pads : List ℕ) → All (λ c. n ≤ c.number) (extensions n word pads)
from n word [] = All-nil (λ c. n ≤ c.number)
from n word (pad ∷ pads) =
    All-cons (λ c. n ≤ c.number) (record { number = n; parent = word; pad = pad })
    (extensions (n + 1) word pads) (omega arith)
    (All-weaker (λ c. n + 1 ≤ c.number) (λ c. n ≤ c.number) (λ c h. omega (arith, h)) (extensions (n + 1) word pads)
    (from (n + 1) word pads))

pub below : (n m : ℕ) (word : Word) (pads : List ℕ) → n + length pads ≤ m
    → All (λ c. c.number < m) (extensions n word pads)
below n m word [] h = All-nil (λ c. c.number < m)
below n m word (pad ∷ pads) h =
    All-cons (λ c. c.number < m) (record { number = n; parent = word; pad = pad })
    (extensions (n + 1) word pads) (omega (arith, h))
    (below (n + 1) m word pads (omega (arith, h)))

extensions_rise : (n : ℕ) (word : Word) (pads : List ℕ) → AreRising (extensions n word pads)
extensions_rise n word [] = tt
extensions_rise n word (pad ∷ pads) = (
  All-weaker (λ c. n + 1 ≤ c.number) (λ later. n < later.number) (λ c h. omega (arith, h))
      (extensions (n + 1) word pads) (from (n + 1) word pads),
  extensions_rise (n + 1) word pads,
)

candidates_start : (game : Game) (i : ℕ) (words : List Word)
    → All (λ c. 256 * i ≤ c.number) (candidates_from game i words)
candidates_start game i [] = All-nil (λ c. 256 * i ≤ c.number)
candidates_start game i (word ∷ words) =
    All-append (λ c. 256 * i ≤ c.number) (extensions (256 * i) word (game.allowed word))
    (candidates_from game (i + 1) words)
    (from (256 * i) word (game.allowed word))
    (All-weaker (λ c. 256 * (i + 1) ≤ c.number) (λ c. 256 * i ≤ c.number) (λ c h. omega (arith, h))
    (candidates_from game (i + 1) words) (candidates_start game (i + 1) words))

candidates_rise : (game : Game) → ((word : Word) → length (game.allowed word) ≤ 256) → (i : ℕ) (words : List Word)
    → AreRising (candidates_from game i words)
candidates_rise game few i [] = tt
candidates_rise game few i (word ∷ words) =
    let most : length (game.allowed word) ≤ 256 = few word in
    rising_append (extensions (256 * i) word (game.allowed word)) (candidates_from game (i + 1) words) (256 * (i + 1))
    (extensions_rise (256 * i) word (game.allowed word)) (candidates_rise game few (i + 1) words)
    (below (256 * i) (256 * (i + 1)) word (game.allowed word) (omega (arith, most)))
    (candidates_start game (i + 1) words)

-- a part of candidates whose numbers rise
pub filter_rises : (p : Candidate → Bool) (cs : List Candidate) → AreRising cs → AreRising (filter p cs)
filter_rises p [] up = tt
filter_rises p (c ∷ cs) up =
    elim (p c) as (λ b. AreRising (cond b (c ∷ filter p cs) (filter p cs))) [
      | true ↦ (All-filter p (λ later. c.number < later.number) cs up.0, filter_rises p cs up.1)
      | false ↦ filter_rises p cs up.1
    ]

-- the live candidates' numbers rise
pub lives_rise : (game : Game) (state : State) → ((word : Word) → length (game.allowed word) ≤ 256)
    → AreRising (lives_of game state)
unfolding lives_of live candidates
lives_rise game state few = filter_rises _ (candidates game state.front) (candidates_rise game few 0 state.front)
