-- The interleaving machine: workers that take pieces from one another's lists and claim keys, one event at a time.
-- The form is our own.
use Rattle.std.specs.Prelude.{◌≡◌, ℕ, zero, suc, ◌+◌, ◌%◌, ◌==◌, Bool, false, List, [], ◌∷◌, ◌++◌, map, filter, drop, flat_map, Option, None, Some, is_none, option_map, option_and_then, slice_get, All, if◌then◌else◌}
use Rattle.std.specs.List.{enumerate_from, range_with_len}
use Rattle.nj_core.specs.declared.claim.Claim.{Claim}
use Rattle.nj_core.specs.declared.claim.Hand.{Hand}
use Rattle.nj_core.specs.declared.event.Event.{Event}
use Rattle.nj_core.specs.declared.event.Event.TheVariants.{Pop, Steal, ClaimNext, Finish}
use Rattle.nj_core.specs.declared.event.Applied.{Applied}
use Rattle.nj_core.specs.declared.event.Applied.TheVariants.{Done, NotEnabled}
use Rattle.nj_core.specs.Owners.{claimed}

-- a piece is a list of claims
abbrev pub Piece : Type 0
Piece = List Claim

-- what a worker has: a list of pieces, a hand, empty or with a piece and a place in it, and the pieces it finished
pub record WorkerState : Type 0 where
  pub waiting : List Piece
  pub hand : Option Hand
  pub finished : List Piece

-- a state of the machine: the workers by their numbers, and the owners of keys
pub record State : Type 0 where
  pub workers : List WorkerState
  pub owners : List Claim

-- whether a worker of this number exists and its hand is empty
abbrev pub is_idle : Option WorkerState → Bool
is_idle None = false
is_idle (Some worker) = is_none worker.hand

-- the first piece of a worker's list, if there is one
abbrev pub first_piece : WorkerState → Option Piece
first_piece worker = slice_get worker.waiting 0

-- the claim at the place of a worker's hand, if there is one
abbrev pub next_claim : WorkerState → Option Claim
next_claim worker = option_and_then (λ hand. slice_get hand.piece hand.place) worker.hand

-- the piece in a worker's hand, if there is one and no claim at its place
abbrev pub done_piece : WorkerState → Option Piece
done_piece worker =
    option_and_then (λ hand. if is_none (slice_get hand.piece hand.place) then Some hand.piece else None) worker.hand

-- a worker without the first piece of its list
abbrev pub without_first : WorkerState → WorkerState
without_first worker = record worker { waiting = drop 1 worker.waiting }

-- a worker with this piece in its hand, at place 0
abbrev pub holding : Piece → WorkerState → WorkerState
holding piece worker = record worker { hand = Some (record { piece = piece; place = 0 }) }

-- a hand at the next place
abbrev pub next_place : Hand → Hand
next_place hand = record hand { place = hand.place + 1 }

-- a worker whose hand's place is one more
abbrev pub moved_on : WorkerState → WorkerState
moved_on worker = record worker { hand = option_map next_place worker.hand }

-- a worker that has finished this piece, with an empty hand
abbrev pub finishing : Piece → WorkerState → WorkerState
finishing piece worker = record worker { hand = None; finished = worker.finished ++ piece ∷ [] }

-- a list with the member at a place changed; past its end nothing changes
abbrev pub changed : {X : Type 0} → (X → X) → ℕ → List X → List X
changed change place [] = []
changed change zero (x ∷ xs) = change x ∷ xs
changed change (suc place) (x ∷ xs) = x ∷ changed change place xs

-- the workers after the first piece of v's list came into w's hand, where the hand is empty and the list is not
abbrev pub taken : ℕ → ℕ → List WorkerState → Option (List WorkerState)
taken w v workers =
    if is_idle (slice_get workers w)
    then option_map (λ piece. changed (holding piece) w (changed without_first v workers))
    (option_and_then first_piece (slice_get workers v))
    else None

-- the workers after the piece in w's hand is finished, where it has no claim at its place
abbrev pub finished_by : ℕ → List WorkerState → Option (List WorkerState)
finished_by w workers =
    option_map (λ piece. changed (finishing piece) w workers) (option_and_then done_piece (slice_get workers w))

-- the state after the claim at the place of w's hand is made, where there is one; the place rises
abbrev pub claimed_next : ℕ → State → Option State
claimed_next w state =
    option_map (λ claim. record { workers = changed moved_on w state.workers; owners = claimed claim state.owners })
    (option_and_then next_claim (slice_get state.workers w))

-- the state with other workers, if there are such
abbrev pub with_workers : State → Option (List WorkerState) → Option State
with_workers state workers = option_map (λ others. record state { workers = others }) workers

-- the state after an event, if it is enabled: a worker pops its own list, steals from another's, claims or finishes
unfoldable pub step : State → Event → Option State
step state (Pop w) = with_workers state (taken w w state.workers)
step state (Steal w v) = if w == v then None else with_workers state (taken w v state.workers)
step state (ClaimNext w) = claimed_next w state
step state (Finish w) = with_workers state (finished_by w state.workers)

-- the answer to an event: done where there is a state after it
abbrev pub answer : {A : Type 0} → Option A → Applied
answer None = NotEnabled
answer (Some after) = Done

-- a run: each event is enabled where its turn comes
abbrev pub Runs : State → List Event → State → Type 0
Runs start [] end = start ≡ end
Runs start (event ∷ events) end = (next : State) × (step start event ≡ Some next) × Runs next events end

-- the pieces dealt to worker w: in rising order those whose place mod the number of workers is w
abbrev pub dealt_to : ℕ → List Piece → ℕ → List Piece
dealt_to workers pieces w = map (λ entry. entry.1) (filter (λ entry. entry.0 % workers == w) (enumerate_from 0 pieces))

-- a worker that has these pieces before it, and has done nothing
abbrev pub beginning : List Piece → WorkerState
beginning pieces = record { waiting = pieces; hand = None; finished = [] }

-- the state in which these pieces are dealt, no hand holds one and none is finished
unfoldable pub opening : List Claim → List Piece → ℕ → State
opening owners pieces workers = record {
  workers = map (λ w. beginning (dealt_to workers pieces w)) (range_with_len 0 workers);
  owners = owners;
}

-- the lists and the hands of all workers are empty
abbrev pub IsSpent : State → Type 0
IsSpent state = All (λ worker. (worker.waiting ≡ []) × (worker.hand ≡ None)) state.workers

-- the pieces that the workers finished, together
abbrev pub finished_pieces : State → List Piece
finished_pieces state = flat_map (λ worker. worker.finished) state.workers

-- the claims of pieces, together
abbrev pub claims_of : List Piece → List Claim
claims_of pieces = flat_map (λ piece. piece) pieces
