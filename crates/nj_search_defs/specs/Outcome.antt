-- The search as steps between states, and its outcome.
use Rattle.std.specs.Prelude.{ℕ, zero, suc, List, [], ◌∷◌, ◌++◌, ◌+◌, ◌*◌, length, map, Option, Some, None}
use Rattle.nj_search_defs.specs.Game.{Word, Verdict, Go, Win, Fail, Game, Bounds}
use Rattle.nj_search_defs.specs.Candidates.{Candidate, word_of, candidates}
use Rattle.nj_search_defs.specs.Pruning.{Mark, Seen, live, winner, forgotten, fresh, kept, generation, raised}

-- a search between two steps
pub record State : Type 0 where
  pub step : ℕ
  pub front : List Word
  pub seen : Seen
  pub mark : Mark

-- what a step leads to: a winner, nothing that is kept, or the next state
pub data Next : Type 0 where
  Won : Candidate → Next
  Exhausted : Next
  Goes : State → Next

-- the live candidates of the step after a state
unfoldable pub lives_of : Game → State → List Candidate
lives_of game state = live game state.mark (state.step + 1) (candidates game state.front)

-- the seen keys that the step after a state compares with
unfoldable pub seen_of : Bounds → State → Seen
seen_of bounds state = forgotten bounds.slots (length state.front * bounds.inputs) state.seen

-- the live candidates of the step whose keys are new
unfoldable pub fresh_of : Game → Bounds → State → List Candidate
fresh_of game bounds state = fresh game (seen_of bounds state) (lives_of game state)

-- the fresh candidates that the step keeps, the most preferred first
unfoldable pub kept_of : Game → Bounds → State → List Candidate
kept_of game bounds state = kept game bounds.most bounds.quota (fresh_of game bounds state)

-- the state after a step that keeps these candidates
unfoldable pub state_after : Game → Bounds → State → List Candidate → State
state_after game bounds state kept = record {
  step = state.step + 1;
  front = map word_of kept;
  seen = seen_of bounds state ++ generation game (fresh_of game bounds state) ∷ [];
  mark = raised game (state.step + 1) bounds.tolerance kept state.mark;
}

-- won by the winner where there is one
abbrev pub won_or : Option Candidate → Next → Next
won_or (Some c) next = Won c
won_or None next = next

-- exhausted where nothing is kept
abbrev pub exhausted_or : List Candidate → (List Candidate → State) → Next
exhausted_or [] goes = Exhausted
exhausted_or (c ∷ cs) goes = Goes (goes (c ∷ cs))

-- one step: won where there is a winner, else exhausted where nothing is kept, else the next state
unfoldable pub next : Game → Bounds → State → Next
next game bounds state =
    won_or (winner game (lives_of game state))
    (exhausted_or (kept_of game bounds state) (state_after game bounds state))

-- how a search ends: won at a step by a word, exhausted at a step, or at its limit with a state
pub data Outcome : Type 0 where
  WonAt : ℕ → Word → Outcome
  ExhaustedAt : ℕ → Outcome
  LimitAt : State → Outcome

-- what a step ends the search with, or what the rest of it ends with
abbrev pub then_go_on : ℕ → Next → (State → Outcome) → Outcome
then_go_on step (Won c) go_on = WonAt step (word_of c)
then_go_on step Exhausted go_on = ExhaustedAt step
then_go_on step (Goes state) go_on = go_on state

-- the outcome of at most so many steps from a state
unfoldable pub searched : Game → Bounds → ℕ → State → Outcome
searched game bounds zero state = LimitAt state
searched game bounds (suc limit) state =
    then_go_on (state.step + 1) (next game bounds state) (searched game bounds limit)

-- the state before the first step: the empty word alone, its key seen, its level the mark
unfoldable pub opening : Game → State
opening game = record {
  step = 0;
  front = [] ∷ [];
  seen = (game.key [] ∷ []) ∷ [];
  mark = record { level = (game.judged []).level; until = 0 };
}

-- a start that wins or fails ends the search before its first step
abbrev pub judged_first : Verdict → Outcome → Outcome
judged_first Win searched = WonAt 0 []
judged_first Fail searched = ExhaustedAt 0
judged_first Go searched = searched

-- the outcome of a search: the empty word is judged first
unfoldable pub outcome : Game → Bounds → ℕ → Outcome
outcome game bounds limit = judged_first (game.judged []).verdict (searched game bounds limit (opening game))
