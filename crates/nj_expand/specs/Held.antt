-- A search between two steps, and what its next step comes to. All of it is this project's own.
use Rattle.std.specs.Prelude.{Bool, false, List, ◌^◌, map}
use Rattle.nj_search_defs.specs.Game.{Bounds}
use Rattle.nj_search_defs.specs.Candidates.{Candidate, candidates}
use Rattle.nj_search_defs.specs.Outcome.{State, Next, lives_of, kept_of, next, opening}
use Rattle.nj_script.specs.Script.{Record}
use Rattle.nj_game.specs.Plan.{Plan}
use Rattle.nj_game.specs.Words.{game_of}
use Rattle.nj_rows.specs.declared.Row.{Row}
use Rattle.nj_candidate.specs.Rows.{row_of}
use Rattle.nj_expand.specs.declared.Bounds.{Bounds as Given}

-- a search between two steps: what is played, its bounds, its state, and whether it is spent
pub record Held : Type 0 where
  pub plan : Plan
  pub bounds : Bounds
  pub state : State
  pub spent : Bool

-- the bounds of a search of a script: the most words of a front, the script's quota of a bucket, 2 to the exponent
-- slots, the number of different pads, and the script's tolerance
abbrev pub bounds_of : Given → Record → Bounds
bounds_of given script = record {
  most = given.front;
  quota = script.quota;
  slots = 2 ^ given.exponent;
  inputs = given.inputs;
  tolerance = script.tolerance;
}

-- the search before its first step
unfoldable pub opened : Plan → Bounds → Held
opened plan bounds = record { plan = plan; bounds = bounds; state = opening (game_of plan); spent = false }

-- the rows of the live candidates of the next step, by rising number
unfoldable pub live_rows : Held → List Row
live_rows held = map (row_of (game_of held.plan)) (lives_of (game_of held.plan) held.state)

-- the candidates of the next step
unfoldable pub candidates_in : Held → List Candidate
candidates_in held = candidates (game_of held.plan) held.state.front

-- the candidates that the next step keeps, the most preferred first
unfoldable pub kept_in : Held → List Candidate
kept_in held = kept_of (game_of held.plan) held.bounds held.state

-- what the next step leads to
unfoldable pub next_in : Held → Next
next_in held = next (game_of held.plan) held.bounds held.state
