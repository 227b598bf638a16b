use Rattle.std.proofs.Common.{◌≡◌}
use Rattle.crossbeam_deque.specs.Handles.{view, SamePass}
use Rattle.nj_pieces.proofs.take.steal.Given as goal

abbrev pub invariant-loop : goal.invariant-loop
invariant-loop g l =
    SamePass l.initial.access.ticket l.access.ticket × (view l.access.ticket ≡ view l.initial.access.ticket)
    × (l.access.ended ≡ l.initial.access.ended)
