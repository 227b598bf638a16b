-- The laws of the search, in its own words.
use Rattle.std.specs.Prelude.{◌≡◌, ℕ, ◌+◌, ◌/◌, ◌≤◌, false, List, [], ◌∷◌, ◌++◌, length, All, Contains, Some, slice_get, take, count_by}
use Rattle.nj_search_defs.specs.Game.{Word, Win, Game, Bounds}
use Rattle.nj_search_defs.specs.Candidates.{Candidate}
use Rattle.nj_search_defs.specs.Order.{in_order}
use Rattle.nj_search_defs.specs.Pruning.{judged_of, is_before, is_alike, winner}
use Rattle.nj_search_defs.specs.Outcome.{State, Won, Goes, fresh_of, kept_of, next, Outcome, WonAt, LimitAt, searched, outcome}

-- a search of a + b steps is one of a steps that goes on for b more where it came to its limit
abbrev pub gone_on : Outcome → (State → Outcome) → Outcome
gone_on (LimitAt state) go_on = go_on state
gone_on ended go_on = ended

-- so the first a steps of a longer search are those of the shorter one
abbrev pub LimitsAdd : Type 0
LimitsAdd = (game : Game) (bounds : Bounds) (a b : ℕ) (state : State)
    → searched game bounds (a + b) state ≡ gone_on (searched game bounds a state) (searched game bounds b)

-- a front has at most as many words as its bound
abbrev pub FrontIsBounded : Type 0
FrontIsBounded = (game : Game) (bounds : Bounds) (state new : State)
    → next game bounds state ≡ Goes new → length new.front ≤ bounds.most

-- each word of a new front is a word of the front before, and one allowed pad more
pub record IsChild (game : Game) (front : List Word) (word : Word) : Type 0 where
  pub parent : Word
  pub pad : ℕ
  pub stood : Contains front parent
  pub is_allowed : Contains (game.allowed parent) pad
  pub is : word ≡ parent ++ pad ∷ []

-- the front after a step is made of such words
abbrev pub ParentsStoodBefore : Type 0
ParentsStoodBefore = (game : Game) (bounds : Bounds) (state new : State)
    → next game bounds state ≡ Goes new → All (IsChild game state.front) new.front

-- the words of a front are equally long: as long as the steps that were made
abbrev pub WordsAreEquallyLong : Type 0
WordsAreEquallyLong = (game : Game) (bounds : Bounds) (state new : State)
    → All (λ word. length word ≡ state.step) state.front
    → next game bounds state ≡ Goes new → All (λ word. length word ≡ new.step) new.front

-- the winner is a live win, and no live win is preferred to it
pub record IsBestWin (game : Game) (lives : List Candidate) (best : Candidate) : Type 0 where
  pub is_live : Contains lives best
  pub wins : (judged_of game best).verdict ≡ Win
  pub no_better : All (λ c. (judged_of game c).verdict ≡ Win → is_before game c best ≡ false) lives

-- the winner of a step is the best of its live wins
abbrev pub WinnerIsBest : Type 0
WinnerIsBest = (game : Game) (lives : List Candidate) (best : Candidate)
    → winner game lives ≡ Some best → IsBestWin game lives best

-- the word of a search that is won wins
abbrev pub WonWins : Type 0
WonWins = (game : Game) (bounds : Bounds) (limit step : ℕ) (word : Word)
    → outcome game bounds limit ≡ WonAt step word → (game.judged word).verdict ≡ Win

-- the word of a search that is won is as long as the steps that were made, and these are within the limit
pub record IsWonWithin (limit step : ℕ) (word : Word) : Type 0 where
  pub long : length word ≡ step
  pub within : step ≤ limit

-- so is that of each search that is won
abbrev pub WonWordsAreAsLong : Type 0
WonWordsAreAsLong = (game : Game) (bounds : Bounds) (limit step : ℕ) (word : Word)
    → outcome game bounds limit ≡ WonAt step word → IsWonWithin limit step word

-- at its limit a search has made all its steps, and its front has words, each as long as they are
pub record IsAtLimit (limit : ℕ) (state : State) : Type 0 where
  pub step : state.step ≡ limit
  pub some : 1 ≤ length state.front
  pub long : All (λ word. length word ≡ limit) state.front

-- so is each search that comes to its limit
abbrev pub LimitsHaveFronts : Type 0
LimitsHaveFronts = (game : Game) (bounds : Bounds) (limit : ℕ) (state : State)
    → outcome game bounds limit ≡ LimitAt state → IsAtLimit limit state

-- a step that goes on is one more
abbrev pub StepsAreCounted : Type 0
StepsAreCounted = (game : Game) (bounds : Bounds) (state new : State)
    → next game bounds state ≡ Goes new → new.step ≡ state.step + 1

-- where at most 256 pads may follow a word, the number of the winner of a step tells its parent's place in the front
abbrev pub WinnersTellParents : Type 0
WinnersTellParents = (game : Game) (bounds : Bounds) (state : State) (c : Candidate)
    → ((word : Word) → length (game.allowed word) ≤ 256)
    → next game bounds state ≡ Won c → slice_get state.front (c.number / 256) ≡ Some c.parent

-- of the candidates that a step keeps no more than the quota have one bucket
abbrev pub BucketsAreBounded : Type 0
BucketsAreBounded = (game : Game) (bounds : Bounds) (state : State) (c : Candidate)
    → count_by (is_alike game c) (kept_of game bounds state) ≤ bounds.quota

-- a quota that is no less than the words of a front keeps the first of the fresh candidates, as many as these
abbrev pub LargeQuotasKeepTheFirst : Type 0
LargeQuotasKeepTheFirst = (game : Game) (bounds : Bounds) (state : State) → bounds.most ≤ bounds.quota
    → kept_of game bounds state ≡ take bounds.most (in_order (is_before game) (fresh_of game bounds state))
