-- What is known of the takers of a dealing, and what contracts see of them.
use Rattle.std.specs.Prelude.{◌≡◌, ℕ, Bool, true, ◌<◌, List, [], length, slice_index_or, if◌then◌else◌}
use Rattle.std.specs.Global.{Global}
use Rattle.std.specs.List.{sum_by, list_all}
use Rattle.crossbeam_deque.specs.declared.handles.Worker.{Worker}
use Rattle.crossbeam_deque.specs.declared.handles.Stealer.{Stealer}
use Rattle.crossbeam_deque.specs.Handles.{view, IsPassOf, worker_deque, stealer_deque, worker_flavor, stealer_flavor, worker_port, worker_view}
use Rattle.nj_pieces.specs.declared.rule.Tally.{Tally}
use Rattle.nj_pieces.specs.declared.rule.Task.{Task}
use Rattle.nj_pieces.specs.declared.rule.Fair.{Fair}
use Rattle.nj_pieces.specs.declared.parts.Access.{Access}
use Rattle.nj_pieces.specs.declared.parts.Taker.{Taker}
use Rattle.nj_pieces.specs.declared.parts.Pieces.{Pieces}
use Rattle.nj_pieces.specs.Dealing.{dealt_to}

-- the owner's end of a deque
abbrev pub Owner : Type 0
Owner = Worker Task Global Tally Fair

-- a handle that takes from a deque
abbrev pub Thief : Type 0
Thief = Stealer Task Global Tally Fair

-- what an access may do and has done
abbrev pub seen : Access → Tally
seen access = view access.ticket

-- how many pieces were dealt
unfoldable pub count_of : Pieces → ℕ
count_of pieces = pieces.count

-- to how many workers
unfoldable pub workers_of : Pieces → ℕ
workers_of pieces = length pieces.thieves.items

-- the number of a taker's worker
unfoldable pub number_of : Taker → ℕ
number_of taker = taker.number

-- the pieces that were dealt to its worker's own deque
unfoldable pub dealt_of : Taker → List ℕ
dealt_of taker = (worker_view taker.owner).dealt

-- the pieces that it has taken, in the order in which it took them
unfoldable pub taken_of : Taker → List ℕ
taken_of taker = (worker_view taker.owner).log

-- whether it has found each deque without a piece
unfoldable pub is_done : Taker → Bool
is_done taker = list_all (λ a. a.ended) taker.accesses.items

-- whether it has found its worker's own deque without a piece
unfoldable pub HasMetOwnEnd : Taker → Type 0
HasMetOwnEnd taker = (d : Access) → (slice_index_or taker.accesses.items taker.number d).ended ≡ true

-- an access to the deque of this thief, which is the worker's of this number. It may take one mark, has taken it where
-- it has met the end, and knows which pieces were dealt to that worker
pub record IsAccess (count workers number : ℕ) (thief : Thief) (access : Access) : Type 0 where
  pub fifo : stealer_flavor thief ≡ 0
  pub deque : IsPassOf (stealer_deque thief) access.ticket
  pub seats : (seen access).seats ≡ 1
  pub ends : (seen access).ends ≡ (if access.ended then 1 else 0)
  pub dealt : (seen access).dealt ≡ dealt_to number workers count

-- the owner's end of the deque of this thief, which is the worker's of this number. Its pass may take so many marks
pub record IsOwner (count workers number seats : ℕ) (thief : Thief) (owner : Owner) : Type 0 where
  pub deque : worker_deque owner ≡ stealer_deque thief
  pub fifo : worker_flavor owner ≡ 0
  pub port : worker_port owner ≡ 0
  pub seats_are : (worker_view owner).seats ≡ seats
  pub marks : (worker_view owner).marks ≡ workers
  pub dealt : (worker_view owner).dealt ≡ dealt_to number workers count

-- accesses to the deques of these thieves, in their order
pub record AreAccesses (count : ℕ) (thieves : List (Thief)) (accesses : List Access) : Type 0 where
  pub many : length accesses ≡ length thieves
  pub each : (k : ℕ) (s : Thief) (a : Access) → k < length thieves
      → IsAccess count (length thieves) k (slice_index_or thieves k s) (slice_index_or accesses k a)

-- the weights of the pieces that were taken by these accesses
abbrev pub weight_of : (ℕ → ℕ) → List Access → ℕ
weight_of h accesses = sum_by (λ a. sum_by h (seen a).taken) accesses

-- a taker of these pieces
pub record IsTakerOf (pieces : Pieces) (taker : Taker) : Type 0 where
  pub within : taker.number < length pieces.thieves.items
  pub owner : (s : Thief) → IsOwner pieces.count (length pieces.thieves.items) taker.number 0
      (slice_index_or pieces.thieves.items taker.number s) taker.owner
  pub none_ended : (worker_view taker.owner).ends ≡ 0
  pub none_taken : (worker_view taker.owner).taken ≡ []
  pub accesses : AreAccesses pieces.count pieces.thieves.items taker.accesses.items
  pub noted : (h : ℕ → ℕ) → sum_by h (worker_view taker.owner).log ≡ weight_of h taker.accesses.items

-- all takers of these pieces, in the order of their workers
pub record AreTakersOf (pieces : Pieces) (takers : List Taker) : Type 0 where
  pub many : length takers ≡ workers_of pieces
  pub each : (k : ℕ) (d : Taker) → k < length takers → IsTakerOf pieces (slice_index_or takers k d)
  pub numbers : (k : ℕ) (d : Taker) → k < length takers → number_of (slice_index_or takers k d) ≡ k
