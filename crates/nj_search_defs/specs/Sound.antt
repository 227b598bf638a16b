-- What holds of each state that a search comes to, so that it can be saved and gone on from.
use Rattle.std.specs.Prelude.{◌≡◌, ◌≢◌, ℕ, ◌+◌, ◌*◌, ◌^◌, ◌<◌, ◌≤◌, ◌∷◌, length}
use Rattle.std.specs.List.{All, AllPairs, concat}
use Rattle.std.specs.List.Sorted.{IsStrictlyIncreasing}
use Rattle.nj_search_defs.specs.Game.{Word, Game, Bounds}
use Rattle.nj_search_defs.specs.Pruning.{key_count}
use Rattle.nj_search_defs.specs.Outcome.{State}

-- a front has words, each as long as the steps that were made
pub record IsEven (state : State) : Type 0 where
  pub some : 1 ≤ length state.front
  pub long : All (λ word. length word ≡ state.step) state.front

-- a game and bounds are as a search needs them: a front may have a word, its candidates' keys have slots, at most
-- `inputs` pads may follow a word, keys are numbers of 64 bits other than 0, and no level is above `levels`
pub record IsWellMade (game : Game) (bounds : Bounds) (levels : ℕ) : Type 0 where
  pub some : 1 ≤ bounds.most
  pub slots : 1 ≤ bounds.slots
  pub room : bounds.most * bounds.inputs ≤ bounds.slots
  pub inputs : bounds.inputs ≤ 256
  pub allowed : (word : Word) → length (game.allowed word) ≤ bounds.inputs
  pub keyed : (word : Word) → game.key word ≢ 0
  pub fit : (word : Word) → game.key word < 2 ^ 64
  pub level : (word : Word) → (game.judged word).level ≤ levels

-- the front of a state has at least one word and at most `most`, each as long as its steps; its seen keys, at most as
-- many as the slots, are numbers of 64 bits other than 0 in generations that have keys, rise and share none, one for
-- each step and one more at most; its mark has at most this level and this bound
pub record IsSound (most slots levels latest : ℕ) (state : State) : Type 0 where
  pub some : 1 ≤ length state.front
  pub few : length state.front ≤ most
  pub long : All (λ word. length word ≡ state.step) state.front
  pub generations : length state.seen ≤ state.step + 1
  pub filled : All (λ keys. 1 ≤ length keys) state.seen
  pub rising : All (λ keys. IsStrictlyIncreasing (0 ∷ keys)) state.seen
  pub once : AllPairs (λ a b. a ≢ b) (concat state.seen)
  pub fit : All (All (λ key. key < 2 ^ 64)) state.seen
  pub room : key_count state.seen ≤ slots
  pub level : state.mark.level ≤ levels
  pub until : state.mark.until ≤ latest
