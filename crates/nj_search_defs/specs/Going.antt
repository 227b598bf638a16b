-- The laws of a search that goes on from a state.
use Rattle.std.specs.Prelude.{◌≡◌, ℕ, ◌+◌, ◌≤◌, length}
use Rattle.nj_search_defs.specs.Game.{Word, Win, Game, Bounds}
use Rattle.nj_search_defs.specs.Outcome.{State, seen_of, WonAt, LimitAt, searched, opening}
use Rattle.nj_search_defs.specs.Laws.{IsWonWithin, IsAtLimit}
use Rattle.nj_search_defs.specs.Sound.{IsEven, IsWellMade, IsSound}

-- a state without what the step after it forgets
abbrev pub forgetful : Bounds → State → State
forgetful bounds state = record state { seen = seen_of bounds state }

-- a state that has forgotten before its next step goes on as it would have
abbrev pub AForgottenStateGoesOnAlike : Type 0
AForgottenStateGoesOnAlike = (game : Game) (bounds : Bounds) (limit : ℕ) (state : State)
    → searched game bounds (limit + 1) (forgetful bounds state) ≡ searched game bounds (limit + 1) state

-- the state before the first step is sound
abbrev pub OpeningsAreSound : Type 0
OpeningsAreSound = (game : Game) (bounds : Bounds) (levels latest : ℕ) → IsWellMade game bounds levels
    → IsSound bounds.most bounds.slots levels latest (opening game)

-- so is a state at a limit of steps from a sound one
abbrev pub LimitsAreSound : Type 0
LimitsAreSound = (game : Game) (bounds : Bounds) (levels latest limit : ℕ) (from state : State)
    → IsWellMade game bounds levels → from.step + limit + bounds.tolerance ≤ latest
    → IsSound bounds.most bounds.slots levels latest from
    → searched game bounds limit from ≡ LimitAt state → IsSound bounds.most bounds.slots levels latest state

-- and a sound state, its keys in any slots, that has forgotten what its next step forgets
abbrev pub ForgettingIsSound : Type 0
ForgettingIsSound = (bounds : Bounds) (slots levels latest : ℕ) (state : State)
    → IsSound bounds.most slots levels latest state
    → IsSound bounds.most bounds.slots levels latest (forgetful bounds state)

-- behind a step some keys are seen
abbrev pub LimitsHaveSeen : Type 0
LimitsHaveSeen = (game : Game) (bounds : Bounds) (limit : ℕ) (from state : State)
    → searched game bounds (limit + 1) from ≡ LimitAt state → 1 ≤ length state.seen

-- a search that goes on to its limit has made all its steps there, and its front has words, each as long as they are
abbrev pub LimitsHaveFrontsFrom : Type 0
LimitsHaveFrontsFrom = (game : Game) (bounds : Bounds) (limit : ℕ) (from state : State) → IsEven from
    → searched game bounds limit from ≡ LimitAt state → IsAtLimit (from.step + limit) state

-- the word that a search wins by which goes on is as long as its step, which is within the limit
abbrev pub WonWordsAreAsLongFrom : Type 0
WonWordsAreAsLongFrom =
    (game : Game) (bounds : Bounds) (limit : ℕ) (from : State) (step : ℕ) (word : Word) → IsEven from
    → searched game bounds limit from ≡ WonAt step word → IsWonWithin (from.step + limit) step word

-- that word wins
abbrev pub WonWinsFrom : Type 0
WonWinsFrom = (game : Game) (bounds : Bounds) (limit : ℕ) (from : State) (step : ℕ) (word : Word)
    → searched game bounds limit from ≡ WonAt step word → (game.judged word).verdict ≡ Win
