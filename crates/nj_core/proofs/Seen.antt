-- What the machine's code does to its lists, as the definitions say it.
use Rattle.std.proofs.Common.{◌≡◌, ℕ, zero, suc, ◌<◌, ◌≤◌, min, Bool, true, false, cond, ltb, List, [], ◌∷◌, ◌++◌, length, get_or, set, drop, refl, sym, ◌∙◌, ap, arith, if◌then◌else◌, Option, Some, None}
use Rattle.std.specs.List.{position_or_len}
use Rattle.std.proofs.lemmas.List.{set-get_or}
use Rattle.std.proofs.lemmas.List.Sums.{fails_before_first}
use Rattle.std.proofs.lemmas.List.Quantifiers.{position-Some}
use Rattle.std.proofs.lemmas.Bool.{ltb-false}
use Rattle.std.proofs.lemmas.Option.{slice_get-get_or}
use Rattle.std.specs.Prelude.{option_map, option_and_then, slice_get, unwrap_or, position}
use Rattle.nj_core.specs.declared.claim.Claim.{Claim}
use Rattle.nj_core.specs.Owners.{claimed, of_key}
use Rattle.nj_core.specs.Machine.{Piece, WorkerState, is_idle, first_piece, done_piece, without_first, holding, finishing, changed, taken, finished_by}

-- a member written is a member changed
pub set_changed : {X : Type 0} (change : X → X) (xs : List X) (i : ℕ) (d new : X) → i < length xs
    → new ≡ change (get_or xs i d)
    → set xs i new ≡ changed change i xs
set_changed change [] i d new lt is = absurd (omega arith)
set_changed change (y ∷ ys) zero d new lt is = ap (λ z. z ∷ ys) is
set_changed change (y ∷ ys) (suc i) d new lt is = ap (λ zs. y ∷ zs) (set_changed change ys i d new (omega arith) is)

-- past the end nothing changes
pub past_changed : {X : Type 0} (change : X → X) (xs : List X) (i : ℕ) → length xs ≤ i → xs ≡ changed change i xs
past_changed change [] i le = refl
past_changed change (y ∷ ys) zero le = absurd (omega arith)
past_changed change (y ∷ ys) (suc i) le = ap (λ zs. y ∷ zs) (past_changed change ys i (omega arith))

-- what is read of a worker that exists
pub read_at : {A : Type 0} (read : WorkerState → Option A) (workers : List WorkerState) (w : ℕ) (d : WorkerState)
    → w < length workers
    → option_and_then read (slice_get workers w) ≡ read (get_or workers w d)
read_at read workers w d lt = ap (option_and_then read) (slice_get-get_or workers w d lt)

-- a worker that finishes, among the workers
pub finish_set : (ok : Bool) (workers : List WorkerState) (w : ℕ) (d new : WorkerState) → w < length workers
    → new ≡ (if ok then unwrap_or (option_map (λ piece. finishing piece (get_or workers w d))
    (done_piece (get_or workers w d))) (get_or workers w d) else get_or workers w d)
    → set workers w new ≡ (if ok then unwrap_or (finished_by w workers) workers else workers)
finish_set false workers w d new lt is = ap (set workers w) is ∙ set-get_or workers w d
finish_set true workers w d new lt is =
    go (done_piece (get_or workers w d)) is
    ∙ ap (λ o. unwrap_or (option_map (λ piece. changed (finishing piece) w workers) o) workers)
    (sym (read_at done_piece workers w d lt)) where
      go : (o : Option Piece)
          → new ≡ unwrap_or (option_map (λ piece. finishing piece (get_or workers w d)) o) (get_or workers w d)
          → set workers w new ≡ unwrap_or (option_map (λ piece. changed (finishing piece) w workers) o) workers
      go None is = ap (set workers w) is ∙ set-get_or workers w d
      go (Some piece) is = set_changed (finishing piece) workers w d new lt is

no_first : (pieces : List Piece) → slice_get pieces 0 ≡ None → pieces ≡ drop 1 pieces
no_first [] none = refl
no_first (piece ∷ pieces) none = absurd (cc)

-- where a list has no first piece nothing is taken from it
nothing_first : (workers : List WorkerState) (v : ℕ) → option_and_then first_piece (slice_get workers v) ≡ None
    → changed without_first v workers ≡ workers
nothing_first [] v none = refl
nothing_first (worker ∷ workers) zero none =
    λ i. record worker { waiting = sym (no_first worker.waiting none) i } ∷ workers
nothing_first (worker ∷ workers) (suc v) none = ap (λ ws. worker ∷ ws) (nothing_first workers v none)

-- then the event is not enabled
pub nothing_taken : (workers new : List WorkerState) (w v : ℕ) → is_idle (slice_get workers w) ≡ true
    → option_and_then first_piece (slice_get workers v) ≡ None → new ≡ changed without_first v workers
    → new ≡ unwrap_or (taken w v workers) workers
nothing_taken workers new w v idle none is =
    is ∙ nothing_first workers v none
    ∙ sym (λ i. unwrap_or (if idle i then option_map (λ piece.
    changed (holding piece) w (changed without_first v workers)) (none i) else None) workers)

absent_more : (claim : Claim) (owners : List Claim)
    → ((k : ℕ) (d : Claim) → k < length owners → of_key claim.key (get_or owners k d) ≡ false)
    → owners ++ claim ∷ [] ≡ claimed claim owners
absent_more claim [] absent = refl
absent_more claim (o ∷ os) absent =
    ap (λ es. o ∷ es) (absent_more claim os (λ k d lt. absent (suc k) d (omega arith)))
    ∙ sym (ap (λ (b : Bool). if b then record { key = o.key; number = min o.number claim.number } ∷ os
    else o ∷ claimed claim os) (absent 0 claim (omega arith)))

not_found : (p : Claim → Bool) (owners : List Claim) → position p owners ≡ None
    → length owners ≤ position_or_len p owners
not_found p owners is =
    ltb-false (position_or_len p owners) (length owners) (go (ltb (position_or_len p owners) (length owners)) is) where
      go : (b : Bool) → cond b (Some (position_or_len p owners)) None ≡ None → b ≡ false
      go true is = absurd (cc)
      go false is = refl

-- the claim of a key without an owner stands behind the others
pub claim_new : (claim : Claim) (owners : List Claim) → position (of_key claim.key) owners ≡ None
    → owners ++ claim ∷ [] ≡ claimed claim owners
claim_new claim owners none =
    let all = not_found (of_key claim.key) owners none in
    absent_more claim owners (λ k d lt. fails_before_first (of_key claim.key) owners k d (omega arith))

first_claimed : (claim : Claim) (owners : List Claim) (i : ℕ) (x : Claim) (n : ℕ) → i < length owners
    → of_key claim.key (get_or owners i x) ≡ true → ((k : ℕ) → k < i → of_key claim.key (get_or owners k x) ≡ false)
    → x ≡ get_or owners i x → n ≡ min x.number claim.number
    → set owners i (record { key = x.key; number = n }) ≡ claimed claim owners
first_claimed claim [] i x n lt here before read is = absurd (omega arith)
first_claimed claim (o ∷ os) zero x n lt here before read is =
    (λ j. record { key = (read j).key; number = (is ∙ ap (λ (c : Claim). min c.number claim.number) read) j } ∷ os)
    ∙ sym (ap (λ (b : Bool). if b then record { key = o.key; number = min o.number claim.number } ∷ os
    else o ∷ claimed claim os) here)
first_claimed claim (o ∷ os) (suc i) x n lt here before read is =
    ap (λ es. o ∷ es)
    (first_claimed claim os i x n (omega arith) here (λ k below. before (suc k) (omega arith)) read is)
    ∙ sym (ap (λ (b : Bool). if b then record { key = o.key; number = min o.number claim.number } ∷ os
    else o ∷ claimed claim os) (before 0 (omega arith)))

-- the claim of a key with an owner makes it the lesser
pub claim_old : (claim : Claim) (owners : List Claim) (i : ℕ) (x : Claim) (n : ℕ)
    → position (of_key claim.key) owners ≡ Some i
    → x ≡ get_or owners i x → n ≡ min x.number claim.number
    → set owners i (record { key = x.key; number = n }) ≡ claimed claim owners
claim_old claim owners i x n found read is =
    let first = position-Some (of_key claim.key) owners i x found in
    first_claimed claim owners i x n first.0 first.1 first.2 read is
