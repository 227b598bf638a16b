-- The kept rows of a step in runs of neighbours, each run again by a worker. All of it is this project's own.
use Rattle.std.specs.Prelude.{◌≡◌, ℕ, ◌+◌, ◌*◌, ◌<◌, ◌≤◌, List, [], ◌∷◌, ◌++◌, length, IfOk}
use Rattle.std.specs.List.{All}
use Rattle.nj_rows.specs.declared.Row.{Row}
use Rattle.nj_expand.specs.Again.{parent_of}
use Rattle.nj_expand.specs.Held.{Held}
use Rattle.nj_expand.specs.Kept.{IsAgain}
use Rattle.nj_workers.specs.declared.runs.Run.{Run}

-- the rows of runs, one run behind the other
abbrev pub rows_in : List Run → List Row
rows_in [] = []
rows_in (run ∷ runs) = run.rows.now ++ rows_in runs

-- rows may be run again: their parents stand in the front, and they are no more than it may have
pub record MayRunAgain (held : Held) (rows : List Row) : Type 0 where
  pub parents : All (λ row. parent_of row < length held.state.front) rows
  pub few : length rows ≤ held.bounds.most

-- a run's states are those of its rows, unless memory was wanted
abbrev pub WasRun : Held → Run → Type 0
WasRun held run = IfOk run.again (IsAgain held run.rows.now)

-- a run after a worker was at it: its rows, their states unless memory was wanted, and the counter
pub record HasRun (held : Held) (before after : Run) (from to : ℕ) : Type 0 where
  pub rows : after.rows.now ≡ before.rows.now
  pub again : IfOk after.again (IsAgain held before.rows.now)
  pub frames : to ≤ from + held.plan.script.hold * length before.rows.now
  pub rises : from ≤ to
