-- What a search saves of its state, and the search that goes on from a saved one. All of it is this project's own.
use Rattle.std.specs.Prelude.{◌≡◌, ◌≤◌, false, length}
use Rattle.std.specs.List.{All, concat}
use Rattle.nj_search_defs.specs.Game.{Bounds}
use Rattle.nj_search_defs.specs.Outcome.{State, seen_of}
use Rattle.nj_saved.specs.declared.saved.Saved.{Saved}
use Rattle.nj_game.specs.Plan.{Plan}
use Rattle.nj_expand.specs.Held.{Held}
pub use Rattle.nj_candidate.specs.SavedFront.{word_at, front_in}

-- what a search saves of its state, its words one behind the other; the numbers of the two files are put in later
unfoldable pub saved_of : State → Saved
saved_of state = record {
  cart = 0;
  script = 0;
  step = state.step;
  level = state.mark.level;
  until = state.mark.until;
  words = concat state.front;
  generations = state.seen;
}

-- the state that a saved search says
unfoldable pub state_in : Saved → State
state_in saved = record {
  step = saved.step;
  front = front_in saved;
  seen = saved.generations;
  mark = record { level = saved.level; until = saved.until };
}

-- the state from which it goes on under these bounds: what they forget is forgotten at once
unfoldable pub state_from : Bounds → Saved → State
state_from bounds saved = record (state_in saved) { seen = seen_of bounds (state_in saved) }

-- the search that goes on from it
unfoldable pub resumed : Plan → Bounds → Saved → Held
resumed plan bounds saved = record { plan = plan; bounds = bounds; state = state_from bounds saved; spent = false }

-- a state of which nothing is lost when it is saved: each word is as long as its steps, which are some
pub record CanBeSaved (state : State) : Type 0 where
  pub some : 1 ≤ state.step
  pub long : All (λ word. length word ≡ state.step) state.front
