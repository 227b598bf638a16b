-- What the workers of a step are given: a table of the step's own. All of it is this project's own.
use Rattle.std.specs.Prelude.{◌+◌, ◌*◌, ◌≤◌, ℕ, List, [], length}
use Rattle.nj_claims.specs.Tables.{IsTable, entries_in, slot_count}
use Rattle.nj_seen.specs.Held.{HoldsSeen}
use Rattle.nj_expand.specs.Held.{Held}

-- a table with room for the claims of the step of a search, which holds no seen key
pub record IsOpenFor (held : Held) (words : List ℕ) : Type 0 where
  pub table : IsTable words
  pub seen : HoldsSeen words [] held.state.step
  pub room : length (entries_in words) + length held.state.front * held.bounds.inputs ≤ slot_count words
