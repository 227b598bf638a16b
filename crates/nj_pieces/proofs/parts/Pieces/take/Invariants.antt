use Rattle.std.proofs.Common.{◌≡◌, ℕ, ◌<◌, true, length, slice_index_or}
use Rattle.crossbeam_deque.specs.Handles.{worker_view}
use Rattle.nj_pieces.specs.declared.parts.Access.{Access}
use Rattle.nj_pieces.specs.Takers.{IsTakerOf}
use Rattle.nj_pieces.proofs.parts.Pieces.take.Given as goal

abbrev pub invariant-loop-at : goal.invariant-loop-at
invariant-loop-at g l =
    IsTakerOf l.self l.taker
    × (l.taker.number ≡ l.fn.taker.number)
    × ((worker_view l.taker.owner).log ≡ (worker_view l.fn.taker.owner).log)
    × ((worker_view l.taker.owner).dealt ≡ (worker_view l.fn.taker.owner).dealt)
    × ((k : ℕ) (d : Access) → k < l.at → (slice_index_or l.taker.accesses.items k d).ended ≡ true)
    × ((k : ℕ) (d : Access) → k < length l.self.thieves.items
    → (slice_index_or l.fn.taker.accesses.items k d).ended ≡ true
    → (slice_index_or l.taker.accesses.items k d).ended ≡ true)
    × ((d : Access) → (slice_index_or l.taker.accesses.items l.fn.taker.number d).ended ≡ true)
