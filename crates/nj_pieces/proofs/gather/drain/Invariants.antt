use Rattle.std.proofs.Common.{◌-◌, length}
use Rattle.crossbeam_deque.specs.Handles.{worker_view}
use Rattle.nj_pieces.proofs.Drainings.{IsDraining}
use Rattle.nj_pieces.proofs.gather.drain.Given as goal

abbrev pub invariant-loop-piece : goal.invariant-loop-piece
invariant-loop-piece l = IsDraining l.fn.owner l.owner l.initial.left l.left

abbrev pub decreases-loop-piece : goal.decreases-loop-piece
decreases-loop-piece l = length (worker_view l.owner).dealt - length (worker_view l.owner).taken
