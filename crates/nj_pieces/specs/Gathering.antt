-- How the owners of the deques take back what the accesses have.
use Rattle.std.specs.Prelude.{◌≡◌, ℕ, ◌+◌, if◌then◌else◌}
use Rattle.std.specs.List.{sum_by}
use Rattle.crossbeam_deque.specs.Handles.{IsPassOf, worker_deque, worker_view, SameWorker}
use Rattle.nj_pieces.specs.declared.parts.Access.{Access}
use Rattle.nj_pieces.specs.declared.parts.Taker.{Taker}
use Rattle.nj_pieces.specs.Tallies.{both}
use Rattle.nj_pieces.specs.Takers.{seen, weight_of}

-- an access to the deque of this taker's worker, with one right, which it has used where it has met the end
pub record IsReturn (to : Taker) (access : Access) : Type 0 where
  pub deque : IsPassOf (worker_deque to.owner) access.ticket
  pub seats : (seen access).seats ≡ 1
  pub ends : (seen access).ends ≡ (if access.ended then 1 else 0)

-- the weights of the pieces in the list of an owner's pass
abbrev pub weight_back : (ℕ → ℕ) → Taker → ℕ
weight_back h taker = sum_by h (worker_view taker.owner).taken

-- the weights of the pieces in the lists of a taker's accesses
abbrev pub weight_out : (ℕ → ℕ) → Taker → ℕ
weight_out h taker = weight_of h taker.accesses.items

-- the owner has what the access had
pub record IsGiven (old : Taker) (access : Access) (new : Taker) : Type 0 where
  pub same : SameWorker old.owner new.owner
  pub view_is : worker_view new.owner ≡ both (worker_view old.owner) (seen access)
  pub kept : new.accesses ≡ old.accesses

-- the owner has so many rights more, of the same deque
pub record IsGathered (times : ℕ) (old new : Taker) : Type 0 where
  pub same : SameWorker old.owner new.owner
  pub seats : (worker_view new.owner).seats ≡ (worker_view old.owner).seats + times
  pub marks : (worker_view new.owner).marks ≡ (worker_view old.owner).marks
  pub dealt : (worker_view new.owner).dealt ≡ (worker_view old.owner).dealt
