-- What is left of a search between two steps. All of it is this project's own.
use Rattle.std.specs.Prelude.{◌≡◌, ℕ, ◌+◌, ◌*◌, false}
use Rattle.nj_search_defs.specs.Outcome.{Outcome, searched}
use Rattle.nj_game.specs.Words.{game_of}
use Rattle.nj_expand.specs.Held.{Held}

-- the outcome of at most so many more steps
unfoldable pub rest_of : Held → ℕ → Outcome
rest_of held steps = searched (game_of held.plan) held.bounds steps held.state

-- the most frames of a step
abbrev pub frames_a_step : Held → ℕ
frames_a_step held = held.plan.script.hold * (held.bounds.most * (held.bounds.inputs + 1))

-- a search that is not spent, one step further on the same plan within the same bounds
pub record IsFurther (old new : Held) : Type 0 where
  pub plan : new.plan ≡ old.plan
  pub bounds : new.bounds ≡ old.bounds
  pub unspent : new.spent ≡ false
  pub step : new.state.step ≡ old.state.step + 1
  pub rest : (steps : ℕ) → rest_of old (steps + 1) ≡ rest_of new steps
