-- Every order of events ends as one thread would.
use Rattle.std.proofs.Common.{◌≡◌, ℕ, ◌≤◌, Bool, cond, List, [], ◌∷◌, refl, sym, ◌∙◌, ap, arith, None}
use Rattle.std.specs.Prelude.{sum_by, filter, flat_map, All}
use Rattle.std.proofs.lemmas.List.Sums.{sum_by-cons, sum_by-append}
use Rattle.std.proofs.lemmas.List.Elements.{All-head, All-tail}
use Rattle.nj_core.specs.declared.claim.Claim.{Claim}
use Rattle.nj_core.specs.Owners.{owner, least, numbers_of, is_owned, is_first, by_number}
use Rattle.nj_core.specs.Machine.{Piece, WorkerState, State, opening, IsSpent, finished_pieces, claims_of}
use Rattle.nj_core.specs.Laws.{HaveDistinctNumbers, AreBelow, AreLeast, OwnedClaimsAreFirst, IsOneThread, AnyOrderIsOneThread}
use Rattle.nj_core.proofs.Counts.{SameSums, sums_moved, moved_from_sums, same_claim, claim_tells, same_piece, piece_tells, sum_flat, filter_sums}
use Rattle.nj_core.proofs.Numbers.{apart, apart_filter, by_number_same}
use Rattle.nj_core.proofs.Ownership.{least_moved, owned_first}
use Rattle.nj_core.proofs.Steps.{weigh, made_by, Makes, run_makes}
use Rattle.nj_core.proofs.Dealt.{opening_weight, opening_made, opening_owners}

-- two tests that agree on a list's members keep the same
agree_on : {X : Type 0} (p q : X → Bool) (xs : List X) → All (λ x. p x ≡ q x) xs → filter p xs ≡ filter q xs
agree_on p q [] all = refl
agree_on p q (x ∷ xs) all =
    let first = All-head (λ y. p y ≡ q y) x xs all in
    let rest = agree_on p q xs (All-tail (λ y. p y ≡ q y) x xs all) in
    λ i. cond (first i) (x ∷ rest i) (rest i)

-- the claims whose key is owned by their number are the first ones of new keys
pub owned_claims : OwnedClaimsAreFirst
owned_claims opening owners dealt made distinct below moved least_is =
    let on_dealt : AreLeast opening dealt owners =
    λ key. (least_is key ∙ sym (least_moved (opening key) key dealt made moved)) in
    sym (by_number_same (filter (is_owned owners) dealt) (filter (is_owned owners) made)
    (apart_filter (is_owned owners) dealt (apart dealt distinct))
    (filter_sums (is_owned owners) dealt made (sums_moved dealt made moved)))
    ∙ ap by_number
    (agree_on (is_owned owners) (is_first opening dealt) dealt (owned_first opening owners dealt below on_dealt))

-- lists and hands are empty
abbrev AreSpent : List WorkerState → Type 0
AreSpent workers = All (λ worker. (worker.waiting ≡ []) × (worker.hand ≡ None)) workers

-- a worker with an empty list and hand has its finished pieces alone
spent_worker : (worker other : WorkerState) → worker.waiting ≡ other.waiting → worker.hand ≡ other.hand
    → worker.finished ≡ other.finished → worker ≡ other
spent_worker worker other waiting hand finished =
    λ i. record { waiting = waiting i; hand = hand i; finished = finished i }

abbrev only_finished : List Piece → WorkerState
only_finished pieces = record { waiting = []; hand = None; finished = pieces }

-- then all pieces are finished
all_finished : (h : Piece → ℕ) (workers : List WorkerState) → AreSpent workers
    → sum_by (weigh h) workers ≡ sum_by h (flat_map (λ worker. worker.finished) workers)
all_finished h [] all = refl
all_finished h (worker ∷ workers) all =
    let spent = All-head (λ w. (w.waiting ≡ []) × (w.hand ≡ None)) worker workers all in
    let same = spent_worker worker (only_finished worker.finished) spent.0 spent.1 refl in
    let here : weigh h worker ≡ sum_by h worker.finished = ap (weigh h) same ∙ omega arith in
    let rest = all_finished h workers (All-tail (λ w. (w.waiting ≡ []) × (w.hand ≡ None)) worker workers all) in
    let left = sum_by-cons (weigh h) worker workers in
    let right = sum_by-append h worker.finished (flat_map (λ (w : WorkerState). w.finished) workers) in
    omega arith

-- and all their claims are made
all_claimed : (f : Claim → ℕ) (workers : List WorkerState) → AreSpent workers
    → sum_by (made_by f) workers ≡ sum_by (sum_by f) (flat_map (λ worker. worker.finished) workers)
all_claimed f [] all = refl
all_claimed f (worker ∷ workers) all =
    let spent = All-head (λ w. (w.waiting ≡ []) × (w.hand ≡ None)) worker workers all in
    let same = spent_worker worker (only_finished worker.finished) spent.0 spent.1 refl in
    let here : made_by f worker ≡ sum_by (sum_by f) worker.finished = ap (made_by f) same ∙ omega arith in
    let rest = all_claimed f workers (All-tail (λ w. (w.waiting ≡ []) × (w.hand ≡ None)) worker workers all) in
    let left = sum_by-cons (made_by f) worker workers in
    let right = sum_by-append (sum_by f) worker.finished (flat_map (λ (w : WorkerState). w.finished) workers) in
    omega arith

-- pieces with the same sums have claims with the same sums
claims_same : (xs ys : List Piece) → SameSums xs ys → SameSums (claims_of xs) (claims_of ys)
claims_same xs ys same f = sum_flat (λ piece. piece) f xs ∙ same (sum_by f) ∙ sym (sum_flat (λ piece. piece) f ys)

-- the end of a run that made these claims
ends : (owners : List Claim) (pieces : List Piece) (workers : ℕ) (final : State) (claims : List Claim)
    → HaveDistinctNumbers (claims_of pieces) → AreBelow (owner owners) (claims_of pieces) → 1 ≤ workers
    → Makes (opening owners pieces workers) final claims → IsSpent final → IsOneThread owners pieces final
ends owners pieces workers final claims distinct below some makes spent =
    let fin : List Piece = finished_pieces final in
    let same : SameSums pieces fin = λ h.
    (sym (opening_weight h owners pieces workers some) ∙ sym (makes.pieces h) ∙ all_finished h final.workers spent) in
    let claims_fin : SameSums (claims_of pieces) (claims_of fin) = claims_same pieces fin same in
    let claims_made : SameSums (claims_of pieces) claims = λ f.
    (let none = opening_made f owners pieces workers in
    let made = makes.made f in
    let all = all_claimed f final.workers spent in
    let flat = sum_flat (λ (piece : Piece). piece) f fin in
    let both = claims_fin f in
    omega arith) in
    let to_fin = moved_from_sums same_claim claim_tells (claims_of pieces) (claims_of fin) claims_fin in
    let to_made = moved_from_sums same_claim claim_tells (claims_of pieces) claims claims_made in
    let least_is : AreLeast (owner owners) (claims_of pieces) (owner final.owners) = λ key.
    (makes.owners key
    ∙ ap (λ os. least (owner os key) (numbers_of key claims)) (opening_owners owners pieces workers)
    ∙ sym (least_moved (owner owners key) key (claims_of pieces) claims to_made)) in
    record {
      each_once = moved_from_sums same_piece piece_tells pieces fin same;
      least = least_is;
      first = owned_claims (owner owners) (owner final.owners) (claims_of pieces) (claims_of fin) distinct below to_fin
          (λ key. (least_is key ∙ least_moved (owner owners key) key (claims_of pieces) (claims_of fin) to_fin));
    }

-- every order of events ends as one thread would
pub any_order : AnyOrderIsOneThread
any_order owners pieces workers events final distinct below some run spent =
    let made = run_makes (opening owners pieces workers) events final run in
    ends owners pieces workers final made.0 distinct below some made.1 spent
