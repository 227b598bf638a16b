-- What a step of a search tells and leaves. All of it is this project's own.
use Rattle.std.specs.Prelude.{◌≡◌}
use Rattle.nj_search_defs.specs.Outcome.{Next, Won as NextWon, Exhausted as NextExhausted, Goes}
use Rattle.nj_game.specs.Words.{game_of}
use Rattle.nj_candidate.specs.Rows.{row_of}
use Rattle.nj_expand.specs.declared.Stepped.{Stepped}
use Rattle.nj_expand.specs.declared.Stepped.TheVariants.{Won, Exhausted, Go}
use Rattle.nj_expand.specs.Held.{Held, next_in}

-- the answer and the search that is left, by what the step leads to: the winner's row or nothing, with the search as it
-- was; else the search in its next state
abbrev pub IsStepBy : Next → Held → Stepped → Held → Type 0
IsStepBy (NextWon c) old (Won row) new = (row ≡ row_of (game_of old.plan) c) × (new ≡ old)
IsStepBy NextExhausted old Exhausted new = new ≡ old
IsStepBy (Goes state) old Go new = new ≡ record old { state = state }
IsStepBy _ old _ new = ⊥

-- the answer and the search that is left are those of the next step
unfoldable pub IsStep : Held → Stepped → Held → Type 0
IsStep old stepped new = IsStepBy (next_in old) old stepped new
