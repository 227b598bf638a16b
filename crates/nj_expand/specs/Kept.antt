-- What a step keeps, and its states that were run again. All of it is this project's own.
use Rattle.std.specs.Prelude.{◌≡◌, ◌+◌, ◌*◌, ◌<◌, ◌≤◌, List, [], ◌∷◌, ◌++◌, length, None}
use Rattle.std.specs.List.{All}
use Rattle.nj_rows.specs.declared.Row.{Row}
use Rattle.nj_seen.specs.Rows.{winner_row}
pub use Rattle.nj_candidate.specs.declared.again.Again.{Again}
use Rattle.nj_candidate.specs.Front.{size_in, image_at}
use Rattle.nj_candidate.specs.Again.{parent_of, before_of, AreRunFrom}
use Rattle.nj_expand.specs.declared.kept.Kept.{Kept}
use Rattle.nj_expand.specs.declared.kept.Chosen.{Chosen}
use Rattle.nj_expand.specs.declared.kept.Chosen.TheVariants.{Ended, Keeps}
use Rattle.nj_expand.specs.Held.{Held, live_rows, kept_in}
use Rattle.nj_expand.specs.Step.{IsStep}
use Rattle.nj_expand.specs.Ending.{IsKeptOf, IsNewTable, AreNextKeys}

-- the states of rows, run again from the front of a search, in a pool over the start's image within what a full front
-- needs at most; and they are judged
unfoldable pub IsAgain : Held → List Row → Again → Type 0
IsAgain held rows again =
    AreRunFrom (before_of held.plan held.state.front) (image_at held.plan [])
    (held.bounds.most * (size_in held.plan + 16)) rows again.pool again.judged.items

-- the states of rows in parts, each of a run of neighbours, in their order
abbrev pub ArePartsOf : Held → List Row → List Again → Type 0
ArePartsOf held rows [] = rows ≡ []
ArePartsOf held rows (part ∷ parts) =
    (run : List Row) × (rest : List Row) × (rows ≡ run ++ rest) × IsAgain held run part × ArePartsOf held rest parts

-- nobody wins, and these are what the next step keeps: the rows, the most preferred first, which are as many as the
-- candidates that are kept and whose parents stand in the front; and the table and the seen keys after the step
pub record IsKept (held : Held) (kept : Kept) : Type 0 where
  pub none_wins : winner_row (live_rows held) ≡ None
  pub rows : IsKeptOf held kept.rows.items
  pub count : length kept.rows.items ≡ length (kept_in held)
  pub few : length kept.rows.items ≤ held.bounds.most
  pub parents : All (λ row. parent_of row < length held.state.front) kept.rows.items
  pub table : IsNewTable held kept.table
  pub keys : AreNextKeys held kept.keys

-- the step has ended so, with the search as it was; or these are what it keeps
abbrev pub IsChosen : Held → Chosen → Type 0
IsChosen held (Ended stepped) = IsStep held stepped held
IsChosen held (Keeps kept) = IsKept held kept
