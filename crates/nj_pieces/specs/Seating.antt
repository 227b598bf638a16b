-- How the takers of a dealing get their accesses.
use Rattle.std.specs.Prelude.{◌≡◌, ℕ, ◌-◌, ◌≤◌, false, []}
use Rattle.crossbeam_deque.specs.Handles.{IsPassOf, worker_deque, worker_flavor, worker_port, worker_view, stealer_deque, stealer_flavor, SameWorker}
use Rattle.nj_pieces.specs.declared.parts.Access.{Access}
use Rattle.nj_pieces.specs.declared.parts.Taker.{Taker}
use Rattle.nj_pieces.specs.Tallies.{opening, guest}
use Rattle.nj_pieces.specs.Dealing.{dealt_to}
use Rattle.nj_pieces.specs.Takers.{Thief, seen}

-- the taker of the worker of this number has the owner's end of a deque with its pieces and so many marks, and the
-- thief takes from that deque
pub record IsOpened (count workers number : ℕ) (taker : Taker) (thief : Thief) : Type 0 where
  pub numbered : taker.number ≡ number
  pub fifo : worker_flavor taker.owner ≡ 0
  pub port : worker_port taker.owner ≡ 0
  pub view_is : worker_view taker.owner ≡ opening (dealt_to number workers count) workers
  pub deque : stealer_deque thief ≡ worker_deque taker.owner
  pub thief_fifo : stealer_flavor thief ≡ 0

-- the owner's pass can give so many rights away
pub record MayCut (times : ℕ) (taker : Taker) : Type 0 where
  pub port : worker_port taker.owner ≡ 0
  pub seats : times ≤ (worker_view taker.owner).seats
  pub none_ended : (worker_view taker.owner).ends ≡ 0
  pub none_taken : (worker_view taker.owner).taken ≡ []

-- the owner's pass has given so many rights away
pub record IsCut (times : ℕ) (old new : Taker) : Type 0 where
  pub numbered : new.number ≡ old.number
  pub same : SameWorker old.owner new.owner
  pub view_is : worker_view new.owner ≡ record (worker_view old.owner) { seats = (worker_view old.owner).seats - times }

-- an access to the deque of this taker's worker, with one right
pub record IsSeat (from : Taker) (access : Access) : Type 0 where
  pub deque : IsPassOf (worker_deque from.owner) access.ticket
  pub seen_is : seen access ≡ guest (worker_view from.owner)
  pub not_ended : access.ended ≡ false
