-- A taker stays one of its pieces when it takes a piece or meets a mark.
use Rattle.std.proofs.Common.{◌≡◌, ℕ, ◌+◌, ◌<◌, ◌≤◌, ◌==◌, ◌%◌, suc, Bool, true, false, List, [], ◌∷◌, ◌++◌, length, get_or, set, sym, refl, ap, ◌∙◌, subst, arith, length-set, if◌then◌else◌, Global}
use mathlib.Core.Logic.{dite}
use native.Mathlib.Decide.{ℕ_discrete}
use Rattle.std.specs.List.{sum_by, All, Contains, range_with_len}
use Rattle.std.specs.Prelude.{Vec}
use Rattle.std.proofs.lemmas.Bool.{eqb-true, eq-eqb}
use Rattle.std.proofs.lemmas.List.{get_or-set_same, get_or-set_other}
use Rattle.std.proofs.lemmas.List.Elements.{All-filter}
use Rattle.std.proofs.lemmas.List.FromFn.{get_or-range_with_len, length-range_with_len}
use Rattle.std.proofs.lemmas.List.Sums.{sum_by_push, sum_by-cons, sum_by-set, list_all-from_AllPass, AllPass-from_list_all}
use Rattle.crossbeam_deque.specs.Handles.{SamePass, SameWorker, worker_view}
use Rattle.nj_pieces.specs.declared.parts.Access.{Access}
use Rattle.nj_pieces.specs.declared.parts.Taker.{Taker}
use Rattle.nj_pieces.specs.declared.parts.Pieces.{Pieces}
use Rattle.nj_pieces.specs.Tallies.{with_piece, with_end, noted, IsOf}
use Rattle.nj_pieces.specs.Dealing.{dealt_to, times}
use Rattle.nj_pieces.specs.Takers.{Owner, Thief, seen, IsAccess, IsOwner, AreAccesses, weight_of, dealt_of, is_done, IsTakerOf}

-- what is counted among pieces is one of them
pub is_counted : (p : ℕ) (dealt : List ℕ) → 1 ≤ times p dealt → Contains dealt p
is_counted p [] some = absurd (omega arith)
is_counted p (y ∷ ys) some = by_test (y == p) refl (λ more. is_counted p ys more) where
  one : ℕ
  one = if y == p then 1 else 0

  parts : times p (y ∷ ys) ≡ one + times p ys
  parts = sum_by-cons (λ x. if x == p then 1 else 0) y ys

  by_test : (b : Bool) → (y == p) ≡ b → (1 ≤ times p ys → Contains ys p) → Contains (y ∷ ys) p
  by_test true e in_rest = (0, omega arith, eqb-true y p e)
  by_test false e in_rest =
      let none : one ≡ 0 = ap (λ (b : Bool). if b then 1 else 0) e in
      let behind = in_rest (omega (arith, parts)) in (suc behind.0, omega (arith, behind.1), behind.2)

-- a piece of theirs
pub is_dealt : (p : ℕ) (dealt : List ℕ) → IsOf dealt p → Contains dealt p
is_dealt p dealt is_of = is_counted p dealt (subst (λ (b : Bool). (if b then 1 else 0) ≤ times p dealt)
    (eq-eqb p p refl) (is_of (λ y. if y == p then 1 else 0)))

-- an access of a taker
pub access_at : (pieces : Pieces) (taker : Taker) (at : ℕ) (a : Access) → IsTakerOf pieces taker
    → at < length pieces.thieves.items
    → a ≡ get_or taker.accesses.items at a → (s : Thief)
    → IsAccess pieces.count (length pieces.thieves.items) at (get_or pieces.thieves.items at s) a
access_at pieces taker at a is within same s =
    subst (IsAccess pieces.count (length pieces.thieves.items) at (get_or pieces.thieves.items at s)) (sym same)
    (is.accesses.each at s a within)

-- an access stays one of its deque
pub after_piece : (count workers number : ℕ) (thief : Thief) (a b : Access) (p : ℕ)
    → IsAccess count workers number thief a → SamePass a.ticket b.ticket
    → seen b ≡ with_piece (seen a) p → b.ended ≡ a.ended → IsAccess count workers number thief b
after_piece count workers number thief a b p is same now ended = record {
  fifo = is.fifo;
  deque = (same.0 ∙ is.deque.0, same.1 ∙ is.deque.1, same.3, same.4);
  seats = ap (λ v. v.seats) now ∙ is.seats;
  ends = ap (λ v. v.ends) now ∙ is.ends ∙ ap (λ (e : Bool). if e then 1 else 0) (sym ended);
  dealt = ap (λ v. v.dealt) now ∙ is.dealt;
}

pub after_mark : (count workers number : ℕ) (thief : Thief) (a b : Access) → IsAccess count workers number thief a
    → SamePass a.ticket b.ticket
    → seen b ≡ with_end (seen a) → a.ended ≡ false → b.ended ≡ true → IsAccess count workers number thief b
after_mark count workers number thief a b is same now not_ended ended = record {
  fifo = is.fifo;
  deque = (same.0 ∙ is.deque.0, same.1 ∙ is.deque.1, same.3, same.4);
  seats = ap (λ v. v.seats) now ∙ is.seats;
  ends =
      let was : (seen a).ends ≡ 0 = is.ends ∙ ap (λ (e : Bool). if e then 1 else 0) not_ended in
      ap (λ v. v.ends) now ∙ ap (λ (n : ℕ). n + 1) was ∙ sym (ap (λ (e : Bool). if e then 1 else 0) ended);
  dealt = ap (λ v. v.dealt) now ∙ is.dealt;
}

-- accesses after a change of one
accesses_set : (count : ℕ) (thieves : List Thief) (accesses : List Access) (at : ℕ) (b : Access)
    → AreAccesses count thieves accesses → at < length thieves
    → ((s : Thief) → IsAccess count (length thieves) at (get_or thieves at s) b)
    → AreAccesses count thieves (set accesses at b)
accesses_set count thieves accesses at b are within is = record {
  many = length-set accesses at b ∙ are.many;
  each = λ k s d k_within. dite (ℕ_discrete k at)
      (λ e. subst (λ j. IsAccess count (length thieves) j (get_or thieves j s) (get_or (set accesses at b) j d)) (sym e)
      (subst (IsAccess count (length thieves) at (get_or thieves at s))
      (sym (get_or-set_same accesses at b d (let many = are.many in omega arith))) (is s)))
      (λ other. subst (IsAccess count (length thieves) k (get_or thieves k s))
      (sym (get_or-set_other accesses at k b d other)) (are.each k s d k_within));
}

-- the owner's end stays the worker's when it notes a piece
owner_noted : (count workers number seats : ℕ) (thief : Thief) (o q : Owner) (p : ℕ)
    → IsOwner count workers number seats thief o → SameWorker o q
    → worker_view q ≡ noted (worker_view o) p → IsOwner count workers number seats thief q
owner_noted count workers number seats thief o q p is same now = record {
  deque = same.0 ∙ is.deque;
  fifo = same.1 ∙ is.fifo;
  port = same.2 ∙ is.port;
  seats_are = ap (λ v. v.seats) now ∙ is.seats_are;
  marks = ap (λ v. v.marks) now ∙ is.marks;
  dealt = ap (λ v. v.dealt) now ∙ is.dealt;
}

-- the taker after a piece
pub piece_taken : (pieces : Pieces) (taker : Taker) (at : ℕ) (a b : Access) (p : ℕ) (owner : Owner)
    (accesses : Vec Access Global) → IsTakerOf pieces taker
    → at < length pieces.thieves.items → a ≡ get_or taker.accesses.items at a → SamePass a.ticket b.ticket
    → seen b ≡ with_piece (seen a) p → b.ended ≡ a.ended
    → SameWorker taker.owner owner → worker_view owner ≡ noted (worker_view taker.owner) p
    → accesses.items ≡ set taker.accesses.items at b
    → IsTakerOf pieces (record { number = taker.number; owner = owner; accesses = accesses })
piece_taken pieces taker at a b p owner accesses is within there same now ended same_owner noted_now items = record {
  within = is.within;
  owner = λ s. owner_noted _ _ _ _ _ taker.owner owner p (is.owner s) same_owner noted_now;
  none_ended = ap (λ v. v.ends) noted_now ∙ is.none_ended;
  none_taken = ap (λ v. v.taken) noted_now ∙ is.none_taken;
  accesses = subst (AreAccesses pieces.count pieces.thieves.items) (sym items)
      (accesses_set pieces.count pieces.thieves.items taker.accesses.items at b is.accesses within
      (λ s. after_piece pieces.count (length pieces.thieves.items) at (get_or pieces.thieves.items at s) a b p
      (access_at pieces taker at a is within there s) same now ended));
  noted = λ h.
      let list : weight_of h accesses.items ≡ weight_of h (set taker.accesses.items at b) = ap (weight_of h) items in
      let log : sum_by h (worker_view owner).log ≡ sum_by h ((worker_view taker.owner).log ++ p ∷ []) =
      ap (λ v. sum_by h v.log) noted_now in
      let weight : sum_by h (seen b).taken ≡ sum_by h ((seen a).taken ++ p ∷ []) = ap (λ v. sum_by h v.taken) now in
      let old : sum_by h (seen (get_or taker.accesses.items at a)).taken ≡ sum_by h (seen a).taken =
      ap (λ x. sum_by h (seen x).taken) (sym there) in
      let change = sum_by-set (λ x. sum_by h (seen x).taken) taker.accesses.items at b a (let many = is.accesses.many in
      omega arith) in
      let balance = is.noted h in
      omega (arith, sum_by_push h (worker_view taker.owner).log p, sum_by_push h (seen a).taken p);
}

-- the taker after a mark
pub mark_met : (pieces : Pieces) (taker : Taker) (at : ℕ) (a b : Access) (accesses : Vec Access Global)
    → IsTakerOf pieces taker
    → at < length pieces.thieves.items → a ≡ get_or taker.accesses.items at a → SamePass a.ticket b.ticket
    → seen b ≡ with_end (seen a) → a.ended ≡ false → b.ended ≡ true
    → accesses.items ≡ set taker.accesses.items at b
    → IsTakerOf pieces (record { number = taker.number; owner = taker.owner; accesses = accesses })
mark_met pieces taker at a b accesses is within there same now not_ended ended items = record {
  within = is.within;
  owner = is.owner;
  none_ended = is.none_ended;
  none_taken = is.none_taken;
  accesses = subst (AreAccesses pieces.count pieces.thieves.items) (sym items)
      (accesses_set pieces.count pieces.thieves.items taker.accesses.items at b is.accesses within
      (λ s. after_mark pieces.count (length pieces.thieves.items) at (get_or pieces.thieves.items at s) a b
      (access_at pieces taker at a is within there s) same now not_ended ended));
  noted = λ h.
      let list : weight_of h accesses.items ≡ weight_of h (set taker.accesses.items at b) = ap (weight_of h) items in
      let weight : sum_by h (seen b).taken ≡ sum_by h (seen a).taken = ap (λ v. sum_by h v.taken) now in
      let old : sum_by h (seen (get_or taker.accesses.items at a)).taken ≡ sum_by h (seen a).taken =
      ap (λ x. sum_by h (seen x).taken) (sym there) in
      let change = sum_by-set (λ x. sum_by h (seen x).taken) taker.accesses.items at b a (let many = is.accesses.many in
      omega arith) in
      let balance = is.noted h in omega arith;
}

-- a taker that has met each end is done
pub all_ended : (taker : Taker) → ((k : ℕ) (d : Access) → k < length taker.accesses.items
    → (get_or taker.accesses.items k d).ended ≡ true) → is_done taker ≡ true
unfolding is_done
all_ended taker each =
    list_all-from_AllPass (λ (a : Access). a.ended) taker.accesses.items (λ k d within. each k d within)

-- a taker that is done has met each end
pub each_ended : (taker : Taker) → is_done taker ≡ true → (k : ℕ) (d : Access) → k < length taker.accesses.items
    → (get_or taker.accesses.items k d).ended ≡ true
unfolding is_done
each_ended taker done k d within = AllPass-from_list_all (λ (a : Access). a.ended) taker.accesses.items done k d within

-- a piece of a worker is below the count
pub dealt_below : (number workers count p : ℕ) → Contains (dealt_to number workers count) p → p < count
dealt_below number workers count p there =
    let each : All (λ y. y < count) (dealt_to number workers count) =
    All-filter (λ y. y % workers == number) (λ y. y < count) (range_with_len 0 count)
    (λ k d within. subst (λ (y : ℕ). y < count) (sym (get_or-range_with_len 0 count k d (let n =
    length-range_with_len 0 count in omega arith))) (let n = length-range_with_len 0 count in omega arith)) in
    subst (λ (y : ℕ). y < count) there.2 (each there.0 p there.1)

-- what was dealt to a taker's worker
pub own_dealt : (pieces : Pieces) (taker : Taker) → IsTakerOf pieces taker
    → dealt_of taker ≡ dealt_to taker.number (length pieces.thieves.items) pieces.count
unfolding dealt_of
own_dealt pieces taker is = by_list pieces.thieves.items refl where
  by_list : (thieves : List Thief) → pieces.thieves.items ≡ thieves
      → (worker_view taker.owner).dealt ≡ dealt_to taker.number (length pieces.thieves.items) pieces.count
  by_list [] e = absurd (let none = ap length e in let within = is.within in omega arith)
  by_list (s ∷ rest) e = (is.owner s).dealt
