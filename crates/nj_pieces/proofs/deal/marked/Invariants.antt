use Rattle.std.proofs.Common.{◌≡◌}
use Rattle.crossbeam_deque.specs.Handles.{worker_view, SameWorker}
use Rattle.nj_pieces.specs.Tallies.{opening}
use Rattle.nj_pieces.proofs.deal.marked.Given as goal

abbrev pub invariant-loop : goal.invariant-loop
invariant-loop l =
    SameWorker l.fn.owner l.owner × (worker_view l.owner ≡ opening (worker_view l.fn.owner).dealt l.counter)
