-- All workers of a step when their work is done. All of it is this project's own.
use Rattle.std.specs.Prelude.{◌≡◌, ℕ, List, [], map}
use Rattle.std.specs.List.{All}
use Rattle.nj_claims.specs.Passes.{TableView}
use Rattle.nj_pieces.specs.declared.parts.Pieces.{Pieces}
use Rattle.nj_pieces.specs.declared.parts.Taker.{Taker}
use Rattle.nj_pieces.specs.Takers.{count_of, workers_of, taken_of, AreTakersOf}
use Rattle.nj_expand.specs.Held.{Held}
use Rattle.nj_hands.specs.declared.hand.WorkEnd.{WorkEnd}
use Rattle.nj_hands.specs.Shares.{pieces_in}
use Rattle.nj_workers.specs.Desks.{IsSeated, AllServed}

-- so many workers, to whom the pieces of the front were dealt, and who had taken none of them when they were seated,
-- have worked
pub record HaveMet (table : TableView) (pieces : Pieces) (held : Held) (workers : ℕ) (news : List WorkEnd)
    (counts afters : List ℕ) : Type 0 where
  pub olds : List WorkEnd
  pub takers : List Taker
  pub count : count_of pieces ≡ pieces_in held
  pub many : workers_of pieces ≡ workers
  pub are : AreTakersOf pieces takers
  pub none : All (λ taker. taken_of taker ≡ []) takers
  pub seated : All (IsSeated table held) olds
  pub same : map (λ end. end.hand.taker) olds ≡ takers
  pub served : AllServed table pieces olds news counts afters
