use Rattle.std.proofs.Common.{◌≡◌}
use Rattle.crossbeam_deque.specs.Handles.{worker_flavor, worker_port, worker_view}
use Rattle.nj_pieces.specs.Tallies.{opening}
use Rattle.nj_pieces.specs.Dealing.{dealt_to}
use Rattle.nj_pieces.proofs.deal.filled.Given as goal

abbrev pub invariant-loop-piece : goal.invariant-loop-piece
invariant-loop-piece l =
    (worker_flavor l.owner ≡ 0) × (worker_port l.owner ≡ 0)
    × (worker_view l.owner ≡ opening (dealt_to l.fn.number l.fn.workers l.piece) 0)
