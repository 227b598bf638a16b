-- What a worker has, and what it has done. All of it is this project's own.
use Rattle.std.specs.Prelude.{◌≡◌, ℕ, false, ◌+◌, ◌*◌, ◌≤◌, List, ◌++◌, drop, length}
use Rattle.nj_claims.specs.Passes.{TableView}
use Rattle.nj_pieces.specs.declared.parts.Pieces.{Pieces}
use Rattle.nj_pieces.specs.Takers.{count_of, number_of, taken_of, IsTakerOf}
use Rattle.nj_machine.specs.State.{rom_of}
use Rattle.nj_rows.specs.declared.Row.{Row}
use Rattle.nj_expand.specs.Front.{rom_in}
use Rattle.nj_hands.specs.declared.hand.Hand.{Hand}
use Rattle.nj_hands.specs.Claimed.{AddsClaimed}
use Rattle.nj_hands.specs.Shares.{pieces_in, rows_of, runs_of}

-- a hand may work: its search is not spent, its machine is of the search's cartridge, its pass is of the table, and its
-- taker is one of these pieces, which are those of the search's front
pub record MayWork (table : TableView) (pieces : Pieces) (hand : Hand) : Type 0 where
  pub spent : hand.search.now.spent ≡ false
  pub cartridge : rom_of hand.machine ≡ rom_in hand.search.now.plan
  pub own : hand.pass.table ≡ table.id
  pub taker : IsTakerOf pieces hand.taker
  pub pieces_are : count_of pieces ≡ pieces_in hand.search.now

-- the pieces that a taker has taken between two moments
abbrev pub taken_between : Hand → Hand → List ℕ
taken_between before after = drop (length (taken_of before.taker)) (taken_of after.taker)

-- the rows of the live candidates of the pieces that were taken between two moments
abbrev pub rows_between : Hand → Hand → List Row
rows_between before after = rows_of before.search.now (taken_between before after)

-- the most frames that the candidates of these pieces cost
abbrev pub frames_between : Hand → Hand → ℕ
frames_between before after =
    before.search.now.plan.script.hold * runs_of before.search.now (taken_between before after)

-- the hand of the same worker after these pieces too: it may go on; the keys of their live candidates were claimed, and
-- their rows kept; and each of their candidates cost at most the frames of a step
pub record HasWorked (table : TableView) (pieces : Pieces) (before after : Hand) (old new : List Row) (from to : ℕ)
    : Type 0 where
  pub took : List ℕ
  pub taken : taken_of after.taker ≡ taken_of before.taker ++ took
  pub worker : after.worker ≡ before.worker
  pub search : after.search.now ≡ before.search.now
  pub may : MayWork table pieces after
  pub number : number_of after.taker ≡ number_of before.taker
  pub rows : AddsClaimed (rows_of before.search.now took) before.pass after.pass old new
  pub frames : to ≤ from + before.search.now.plan.script.hold * runs_of before.search.now took
  pub rises : from ≤ to
