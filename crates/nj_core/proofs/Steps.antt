-- What an event keeps: each weight of all pieces, in lists, hands and among the finished ones; and it makes no claim,
-- or one, after which each key's owner is the least of its owner before and the claim's number.
use Rattle.std.proofs.Common.{◌≡◌, ℕ, zero, suc, ◌+◌, Bool, true, false, cond, eqb, List, [], ◌∷◌, ◌++◌, take, drop, refl, sym, ◌∙◌, ap, subst, add-zero, arith, if◌then◌else◌, Option, Some, None, is_none}
use Rattle.std.specs.Prelude.{sum_by, filter, map, option_map, option_and_then, slice_get}
use Rattle.std.proofs.lemmas.List.{map-append}
use Rattle.std.proofs.lemmas.List.Sums.{sum_by-cons, sum_by-append, sum_by_push, sum_by_more}
use Rattle.std.proofs.lemmas.List.Elements.{filter-append}
use Rattle.std.proofs.lemmas.Option.{same_Some, slice_get_within, get_or_from_slice_get}
use Rattle.nj_core.specs.declared.claim.Claim.{Claim}
use Rattle.nj_core.specs.declared.claim.Hand.{Hand}
use Rattle.nj_core.specs.declared.event.Event.{Event}
use Rattle.nj_core.specs.declared.event.Event.TheVariants.{Pop, Steal, ClaimNext, Finish}
use Rattle.nj_core.specs.Owners.{owner, lesser, claimed, least, numbers_of}
use Rattle.nj_core.specs.Machine.{Piece, WorkerState, State, is_idle, first_piece, next_claim, done_piece, without_first, holding, next_place, moved_on, finishing, changed, taken, claimed_next, finished_by, with_workers, step, Runs}
use Rattle.nj_core.proofs.Ownership.{takes_lesser}

-- the weight of what a hand holds
abbrev in_hand : (Piece → ℕ) → Option Hand → ℕ
in_hand h None = 0
in_hand h (Some hand) = h hand.piece

-- the weight of all pieces of a worker
abbrev pub weigh : (Piece → ℕ) → WorkerState → ℕ
weigh h worker = sum_by h worker.waiting + in_hand h worker.hand + sum_by h worker.finished

-- the weight of the claims made of the piece in hand
abbrev made_in_hand : (Claim → ℕ) → Option Hand → ℕ
made_in_hand f None = 0
made_in_hand f (Some hand) = sum_by f (take hand.place hand.piece)

-- the weight of all claims that a worker made of the pieces that it has
abbrev pub made_by : (Claim → ℕ) → WorkerState → ℕ
made_by f worker = made_in_hand f worker.hand + sum_by (sum_by f) worker.finished

-- between two states these claims are made, and nothing else changes
pub record Makes (start end : State) (claims : List Claim) : Type 0 where
  pub pieces : (h : Piece → ℕ) → sum_by (weigh h) end.workers ≡ sum_by (weigh h) start.workers
  pub made : (f : Claim → ℕ) → sum_by (made_by f) end.workers ≡ sum_by (made_by f) start.workers + sum_by f claims
  pub owners : (key : ℕ) → owner end.owners key ≡ least (owner start.owners key) (numbers_of key claims)

-- a sum after a change of one member
sum_changed : {X : Type 0} (f : X → ℕ) (change : X → X) (xs : List X) (w : ℕ) (x : X) → slice_get xs w ≡ Some x
    → sum_by f (changed change w xs) + f x ≡ sum_by f xs + f (change x)
sum_changed f change [] w x is = absurd (cc)
sum_changed f change (y ∷ ys) zero x is =
    let same : y ≡ x = same_Some y x is in
    let left = sum_by-cons f y ys in
    let right = sum_by-cons f (change y) ys in
    let e : f y ≡ f x = ap f same in
    let e' : f (change y) ≡ f (change x) = ap (λ z. f (change z)) same in
    omega arith
sum_changed f change (y ∷ ys) (suc w) x is =
    omega (arith, sum_by-cons f y ys, sum_by-cons f y (changed change w ys), sum_changed f change ys w x is)

-- a change that keeps each member's weight keeps the sum
sum_kept : {X : Type 0} (f : X → ℕ) (change : X → X) (xs : List X) (w : ℕ) → ((x : X) → f (change x) ≡ f x)
    → sum_by f (changed change w xs) ≡ sum_by f xs
sum_kept f change [] w kept = refl
sum_kept f change (y ∷ ys) zero kept = omega (arith, sum_by-cons f y ys, sum_by-cons f (change y) ys, kept y)
sum_kept f change (y ∷ ys) (suc w) kept =
    omega (arith, sum_by-cons f y ys, sum_by-cons f y (changed change w ys), sum_kept f change ys w kept)

-- the worker of which something is read
was_read : {A : Type 0} (read : WorkerState → Option A) (o : Option WorkerState) (a : A)
    → option_and_then read o ≡ Some a
    → (worker : WorkerState) × (o ≡ Some worker) × (read worker ≡ Some a)
was_read read None a is = absurd (cc)
was_read read (Some worker) a is = (worker, refl, is)

-- a worker with an empty hand, if its hand is found empty
idle_worker : (o : Option WorkerState) → is_idle o ≡ true → (worker : WorkerState) × (o ≡ Some worker)
    × (worker.hand ≡ None)
idle_worker None idle = absurd (cc)
idle_worker (Some worker) idle = (worker, refl, empty worker.hand idle) where
  empty : (hand : Option Hand) → is_none hand ≡ true → hand ≡ None
  empty None h = refl
  empty (Some hand) h = absurd (cc)

-- a piece taken from a list leaves hands as they are
idle_kept : (workers : List WorkerState) (w v : ℕ)
    → is_idle (slice_get (changed without_first v workers) w) ≡ is_idle (slice_get workers w)
idle_kept [] w v = refl
idle_kept (worker ∷ workers) zero zero = refl
idle_kept (worker ∷ workers) zero (suc v) = refl
idle_kept (worker ∷ workers) (suc w) zero = refl
idle_kept (worker ∷ workers) (suc w) (suc v) = idle_kept workers w v

-- a list's first piece and the rest weigh what the list weighs
first_weight : (h : Piece → ℕ) (pieces : List Piece) (piece : Piece) → slice_get pieces 0 ≡ Some piece
    → sum_by h pieces ≡ h piece + sum_by h (drop 1 pieces)
first_weight h [] piece is = absurd (cc)
first_weight h (p ∷ ps) piece is =
    sum_by-cons h p ps ∙ ap (λ n. n + sum_by h ps) (ap h (same_Some p piece is))

-- nothing was claimed
no_claims : (start end : State) → ((h : Piece → ℕ) → sum_by (weigh h) end.workers ≡ sum_by (weigh h) start.workers)
    → ((f : Claim → ℕ) → sum_by (made_by f) end.workers ≡ sum_by (made_by f) start.workers)
    → end.owners ≡ start.owners → Makes start end []
no_claims start end pieces made owners = record {
  pieces = pieces;
  made = λ f. made f ∙ sym (add-zero (sum_by (made_by f) start.workers));
  owners = λ key. ap (λ os. owner os key) owners;
}

-- a piece that is taken from a list into an empty hand
take_pieces : (h : Piece → ℕ) (workers : List WorkerState) (w v : ℕ) (piece : Piece)
    → is_idle (slice_get workers w) ≡ true → option_and_then first_piece (slice_get workers v) ≡ Some piece
    → sum_by (weigh h) (changed (holding piece) w (changed without_first v workers)) ≡ sum_by (weigh h) workers
take_pieces h workers w v piece idle first =
    let from = was_read first_piece (slice_get workers v) piece first in
    let rest : List WorkerState = changed without_first v workers in
    let to = idle_worker (slice_get rest w) (idle_kept workers w v ∙ idle) in
    let out = sum_changed (weigh h) without_first workers v from.0 from.1 in
    let into = sum_changed (weigh h) (holding piece) rest w to.0 to.1 in
    let left = first_weight h from.0.waiting piece from.2 in
    let empty : in_hand h to.0.hand ≡ 0 = ap (in_hand h) to.2 in
    omega arith

take_made : (f : Claim → ℕ) (workers : List WorkerState) (w v : ℕ) (piece : Piece)
    → is_idle (slice_get workers w) ≡ true
    → sum_by (made_by f) (changed (holding piece) w (changed without_first v workers)) ≡ sum_by (made_by f) workers
take_made f workers w v piece idle =
    let rest : List WorkerState = changed without_first v workers in
    let to = idle_worker (slice_get rest w) (idle_kept workers w v ∙ idle) in
    let out = sum_kept (made_by f) without_first workers v (λ x. refl) in
    let into = sum_changed (made_by f) (holding piece) rest w to.0 to.1 in
    let empty : made_in_hand f to.0.hand ≡ 0 = ap (made_in_hand f) to.2 in
    let none : sum_by f (take 0 piece) ≡ 0 = refl in
    omega arith

-- the state with other workers
abbrev among : State → List WorkerState → State
among state workers = record state { workers = workers }

taken_makes : (w v : ℕ) (start end : State) → with_workers start (taken w v start.workers) ≡ Some end
    → Makes start end []
taken_makes w v start end is =
    go (is_idle (slice_get start.workers w)) refl (option_and_then first_piece (slice_get start.workers v)) refl
    is where
      go : (b : Bool) → is_idle (slice_get start.workers w) ≡ b → (o : Option Piece)
          → option_and_then first_piece (slice_get start.workers v) ≡ o
          → with_workers start (if b
          then option_map (λ piece. changed (holding piece) w (changed without_first v start.workers)) o else None)
          ≡ Some end → Makes start end []
      go false idle o first is = absurd (cc)
      go true idle None first is = absurd (cc)
      go true idle (Some piece) first is =
          subst (λ (s : State). Makes start s [])
          (same_Some (among start (changed (holding piece) w (changed without_first v start.workers))) end is)
          (no_claims start (among start (changed (holding piece) w (changed without_first v start.workers)))
          (λ h. take_pieces h start.workers w v piece idle first) (λ f. take_made f start.workers w v piece idle) refl)

-- the piece of a hand that has no claim at its place
done_hand : (hand : Option Hand) (piece : Piece)
    → option_and_then (λ (h : Hand). if is_none (slice_get h.piece h.place) then Some h.piece else None) hand
    ≡ Some piece
    → (h : Hand) × (hand ≡ Some h) × (h.piece ≡ piece) × (slice_get h.piece h.place ≡ None)
done_hand None piece is = absurd (cc)
done_hand (Some h) piece is = go (slice_get h.piece h.place) refl is where
  go : (o : Option Claim) → slice_get h.piece h.place ≡ o → (if is_none o then Some h.piece else None) ≡ Some piece
      → (g : Hand) × (Some h ≡ Some g) × (g.piece ≡ piece) × (slice_get g.piece g.place ≡ None)
  go None at is = (h, refl, same_Some h.piece piece is, at)
  go (Some claim) at is = absurd (cc)

-- all claims of such a piece are made
all_made : (xs : List Claim) (n : ℕ) → slice_get xs n ≡ None → take n xs ≡ xs
all_made [] zero is = refl
all_made [] (suc n) is = refl
all_made (x ∷ xs) zero is = absurd (cc)
all_made (x ∷ xs) (suc n) is = ap (λ ys. x ∷ ys) (all_made xs n is)

finish_pieces : (h : Piece → ℕ) (worker : WorkerState) (piece : Piece) → done_piece worker ≡ Some piece
    → weigh h (finishing piece worker) ≡ weigh h worker
finish_pieces h worker piece is =
    let done = done_hand worker.hand piece is in
    let held : in_hand h worker.hand ≡ h piece = ap (in_hand h) done.1 ∙ ap h done.2 in
    let more = sum_by_push h worker.finished piece in
    omega arith

finish_made : (f : Claim → ℕ) (worker : WorkerState) (piece : Piece) → done_piece worker ≡ Some piece
    → made_by f (finishing piece worker) ≡ made_by f worker
finish_made f worker piece is =
    let done = done_hand worker.hand piece is in
    let held : made_in_hand f worker.hand ≡ sum_by f piece =
    ap (made_in_hand f) done.1 ∙ ap (sum_by f) (all_made done.0.piece done.0.place done.3 ∙ done.2) in
    let more = sum_by_push (sum_by f) worker.finished piece in
    omega arith

-- a change of a worker that keeps its weight keeps the sum
change_kept : (f : WorkerState → ℕ) (change : WorkerState
    → WorkerState) (workers : List WorkerState) (w : ℕ) (worker : WorkerState)
    → slice_get workers w ≡ Some worker → f (change worker) ≡ f worker
    → sum_by f (changed change w workers) ≡ sum_by f workers
change_kept f change workers w worker there kept = omega (arith, sum_changed f change workers w worker there)

finished_makes : (w : ℕ) (start end : State) → with_workers start (finished_by w start.workers) ≡ Some end
    → Makes start end []
finished_makes w start end is = go (option_and_then done_piece (slice_get start.workers w)) refl is where
  go : (o : Option Piece) → option_and_then done_piece (slice_get start.workers w) ≡ o
      → with_workers start (option_map (λ piece. changed (finishing piece) w start.workers) o) ≡ Some end
      → Makes start end []
  go None read is = absurd (cc)
  go (Some piece) read is =
      let worker = was_read done_piece (slice_get start.workers w) piece read in
      subst (λ (s : State).
      Makes start s []) (same_Some (among start (changed (finishing piece) w start.workers)) end is)
      (no_claims start (among start (changed (finishing piece) w start.workers))
      (λ h. change_kept (weigh h) (finishing piece) start.workers w worker.0 worker.1
      (finish_pieces h worker.0 piece worker.2))
      (λ f. change_kept (made_by f) (finishing piece) start.workers w worker.0 worker.1
      (finish_made f worker.0 piece worker.2)) refl)

claim_pieces : (h : Piece → ℕ) (worker : WorkerState) → weigh h (moved_on worker) ≡ weigh h worker
claim_pieces h worker =
    ap (λ n. sum_by h worker.waiting + n + sum_by h worker.finished) (go worker.hand) where
      go : (hand : Option Hand) → in_hand h (option_map next_place hand) ≡ in_hand h hand
      go None = refl
      go (Some hand) = refl

-- one claim more is made of a hand
claim_made : (f : Claim → ℕ) (worker : WorkerState) (claim : Claim) → next_claim worker ≡ Some claim
    → made_by f (moved_on worker) ≡ made_by f worker + f claim
claim_made f worker claim is =
    let more : made_in_hand f (option_map next_place worker.hand) ≡ made_in_hand f worker.hand + f claim =
    go worker.hand is in
    omega arith where
      go : (hand : Option Hand) → option_and_then (λ (h : Hand). slice_get h.piece h.place) hand ≡ Some claim
          → made_in_hand f (option_map next_place hand) ≡ made_in_hand f hand + f claim
      go None is = absurd (cc)
      go (Some hand) is =
          sum_by_more f hand.piece hand.place claim (slice_get_within hand.piece hand.place claim is)
          ∙ ap (λ c. sum_by f (take hand.place hand.piece) + f c)
          (get_or_from_slice_get hand.piece hand.place claim claim is)

one_claim : (f : Claim → ℕ) (claim : Claim) → sum_by f (claim ∷ []) ≡ f claim
one_claim f claim = sum_by-cons f claim [] ∙ add-zero (f claim)

-- a claim's owner is the least of the owner before and this claim's number
claim_least : (claim : Claim) (owners : List Claim) (key : ℕ)
    → owner (claimed claim owners) key ≡ least (owner owners key) (numbers_of key (claim ∷ []))
claim_least claim owners key = takes_lesser claim owners key ∙ go (eqb claim.key key) where
  go : (b : Bool) → (if b then Some (lesser (owner owners key) claim.number) else owner owners key)
      ≡ least (owner owners key) (map (λ (c : Claim). c.number) (cond b (claim ∷ []) []))
  go true = refl
  go false = refl

claim_makes : (w : ℕ) (start end : State) → claimed_next w start ≡ Some end
    → (claims : List Claim) × Makes start end claims
claim_makes w start end is = go (option_and_then next_claim (slice_get start.workers w)) refl is where
  go : (o : Option Claim) → option_and_then next_claim (slice_get start.workers w) ≡ o
      → option_map (λ claim.
      record { workers = changed moved_on w start.workers; owners = claimed claim start.owners }) o ≡ Some end
      → (claims : List Claim) × Makes start end claims
  go None read is = absurd (cc)
  go (Some claim) read is =
      let worker = was_read next_claim (slice_get start.workers w) claim read in
      let after : State =
      record { workers = changed moved_on w start.workers; owners = claimed claim start.owners } in (
        claim ∷ [],
        subst (λ (s : State). Makes start s (claim ∷ [])) (same_Some after end is) (record {
          pieces = λ h. sum_kept (weigh h) moved_on start.workers w (claim_pieces h);
          made = λ f. (
              let sum = sum_changed (made_by f) moved_on start.workers w worker.0 worker.1 in
              let more = claim_made f worker.0 claim worker.2 in
              let one = one_claim f claim in
              omega arith
              );
          owners = claim_least claim start.owners;
        }),
      )

steal_makes : (w v : ℕ) (start end : State) (same : Bool)
    → (if same then None else with_workers start (taken w v start.workers)) ≡ Some end → Makes start end []
steal_makes w v start end true is = absurd (cc)
steal_makes w v start end false is = taken_makes w v start end is

step_makes : (start end : State) (event : Event) → step start event ≡ Some end
    → (claims : List Claim) × Makes start end claims
unfolding step
step_makes start end (Pop w) is = ([], taken_makes w w start end is)
step_makes start end (Steal w v) is = ([], steal_makes w v start end (eqb w v) is)
step_makes start end (ClaimNext w) is = claim_makes w start end is
step_makes start end (Finish w) is = ([], finished_makes w start end is)

least_append : (o : Option ℕ) (xs ys : List ℕ) → least o (xs ++ ys) ≡ least (least o xs) ys
least_append o [] ys = refl
least_append o (x ∷ xs) ys = least_append (Some (lesser o x)) xs ys

numbers_append : (key : ℕ) (xs ys : List Claim) → numbers_of key (xs ++ ys) ≡ numbers_of key xs ++ numbers_of key ys
numbers_append key xs ys =
    ap (map (λ (c : Claim). c.number)) (filter-append (λ (c : Claim). eqb c.key key) xs ys)
    ∙ map-append (λ (c : Claim). c.number) (filter (λ (c : Claim). eqb c.key key) xs)
    (filter (λ (c : Claim). eqb c.key key) ys)

-- claims made one after the other
makes_both : (start middle end : State) (xs ys : List Claim) → Makes start middle xs → Makes middle end ys
    → Makes start end (xs ++ ys)
makes_both start middle end xs ys first second = record {
  pieces = λ h. second.pieces h ∙ first.pieces h;
  made = λ f. omega (arith, second.made f, first.made f, sum_by-append f xs ys);
  owners = λ key.
      second.owners key
      ∙ ap (λ o. least o (numbers_of key ys)) (first.owners key)
      ∙ sym (least_append (owner start.owners key) (numbers_of key xs) (numbers_of key ys))
      ∙ ap (least (owner start.owners key)) (sym (numbers_append key xs ys));
}

makes_none : (start end : State) → start ≡ end → Makes start end []
makes_none start end is =
    no_claims start end (λ h. ap (λ (s : State). sum_by (weigh h) s.workers) (sym is))
    (λ f. ap (λ (s : State). sum_by (made_by f) s.workers) (sym is))
    (ap (λ (s : State). s.owners) (sym is))

-- a run makes some claims, in the order of its events
pub run_makes : (start : State) (events : List Event) (end : State) → Runs start events end
    → (claims : List Claim) × Makes start end claims
run_makes start [] end run = ([], makes_none start end run)
run_makes start (event ∷ events) end run =
    let first = step_makes start run.0 event run.1 in
    let rest = run_makes run.0 events end run.2 in
    (first.0 ++ rest.0, makes_both start run.0 end first.0 rest.0 first.1 rest.1)
