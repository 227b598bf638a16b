-- What a gather has put together so far.
use Rattle.std.proofs.Common.{◌≡◌, ℕ, ◌+◌, ◌<◌, ◌≤◌, true, ◌==◌, if◌then◌else◌, List, [], ◌∷◌, ◌++◌, length, get_or, take, sym, refl, ap, ◌∙◌, subst, arith, length-append, Global}
use Rattle.std.specs.Prelude.{Vec, vec_len, vec_capacity}
use Rattle.std.specs.List.{All, sum_by, range_with_len}
use Rattle.std.specs.List.Sorted.{IsPermutation}
use Rattle.std.proofs.Math.Seq.{get_or-append_seam, take-append_seam}
use Rattle.std.proofs.Math.ListN.{get_or-append}
use Rattle.std.proofs.lemmas.List.{get_or_default}
use Rattle.std.proofs.lemmas.List.FromFn.{length-range_with_len}
use Rattle.std.proofs.lemmas.List.Sorted.{sum_by-IsPermutation, length_permutation}
use Rattle.std.proofs.lemmas.List.Sums.{sum_by_push}
use Rattle.crossbeam_deque.specs.Handles.{worker_flavor, worker_port, worker_view}
use Rattle.nj_pieces.specs.declared.parts.Access.{Access}
use Rattle.nj_pieces.specs.declared.parts.Taker.{Taker}
use Rattle.nj_pieces.specs.declared.parts.Pieces.{Pieces}
use Rattle.nj_pieces.specs.Dealing.{dealt_to, times, once_below}
use Rattle.nj_pieces.specs.Takers.{Thief, workers_of, number_of, taken_of, is_done, IsOwner, AreTakersOf}
use Rattle.nj_pieces.specs.Gathering.{IsReturn, IsGathered, weight_back, weight_out}
use Rattle.nj_pieces.proofs.Seatings.{one_of, none_in_all}
use Rattle.nj_pieces.proofs.Drainings.{length-sum_by}
use Rattle.nj_pieces.proofs.Sums.{sum_same, sum_by_place, times-range, dealt_all}

-- the owner's pass has all rights of its deque
pub record IsWhole (taker : Taker) : Type 0 where
  pub fifo : worker_flavor taker.owner ≡ 0
  pub port : worker_port taker.owner ≡ 0
  pub seats : (worker_view taker.owner).seats ≡ (worker_view taker.owner).marks
  pub some_mark : 0 < (worker_view taker.owner).marks

-- a mark was taken from its deque
pub record HasEnded (taker : Taker) : Type 0 where
  pub ended : 0 < (worker_view taker.owner).ends

-- the weights of the pieces that were dealt to its worker
abbrev pub weight_dealt : (ℕ → ℕ) → Taker → ℕ
weight_dealt h taker = sum_by h (worker_view taker.owner).dealt

-- of all takers, whose owners have everything back, those in `now` have still to be drained
pub record IsGathering (count : ℕ) (given all now : List Taker) (left : Vec ℕ Global) : Type 0 where
  pub whole : All IsWhole now
  pub weights : (h : ℕ → ℕ) → sum_by h left.items + sum_by (weight_back h) all + sum_by (weight_dealt h) now
      ≡ sum_by (weight_dealt h) all + sum_by (weight_back h) now
  pub less : (h : ℕ → ℕ) → sum_by (weight_back h) now ≤ sum_by (weight_back h) all
  pub dealt : (h : ℕ → ℕ) → sum_by (weight_dealt h) all ≡ sum_by h (range_with_len 0 count)
  pub back : (h : ℕ → ℕ) → sum_by (weight_back h) all ≡ sum_by (λ taker. sum_by h (taken_of taker)) given
  pub room : count ≤ vec_capacity left
  pub done : (k : ℕ) (d : Taker) → k < length given → is_done (get_or given k d) ≡ true → All HasEnded all
  pub ended : All HasEnded all → (left.items ≡ []) × All HasEnded now

-- of all but the last, and of the last
all_init : (P : Taker → Type 0) (xs : List Taker) (y : Taker) → All P (xs ++ y ∷ []) → All P xs × P y
all_init P xs y all = (
  (λ k d within. subst P (get_or-append xs (y ∷ []) d k within) (all k d (omega (arith, length-append xs (y ∷ []))))),
  subst P (get_or-append_seam xs y [] y) (all (length xs) y (omega (arith, length-append xs (y ∷ [])))),
)

pub taker_whole : (count : ℕ) (given all was now : List Taker) (taker : Taker) (left : Vec ℕ Global)
    → was ≡ now ++ taker ∷ [] → IsGathering count given all was left → IsWhole taker
taker_whole count given all was now taker left popped is =
    (all_init IsWhole now taker (subst (All IsWhole) popped is.whole)).1

-- there is room for the pieces that are left in the last deque
pub taker_room : (count : ℕ) (given all was now : List Taker) (taker : Taker) (left : Vec ℕ Global)
    → was ≡ now ++ taker ∷ [] → IsGathering count given all was left
    → vec_len left + length (worker_view taker.owner).dealt ≤ vec_capacity left + length (worker_view taker.owner).taken
taker_room count given all was now taker left popped is =
    let f : ℕ → ℕ = λ _. 1 in
    let d : sum_by (weight_dealt (λ _. 1)) was ≡ sum_by (weight_dealt (λ _. 1)) now + sum_by (λ _. 1)
    (worker_view taker.owner).dealt =
    ap (sum_by (weight_dealt (λ _. 1))) popped ∙ sum_by_push (weight_dealt (λ _. 1)) now taker in
    let b : sum_by (weight_back (λ _. 1)) was ≡ sum_by (weight_back (λ _. 1)) now + sum_by (λ _. 1)
    (worker_view taker.owner).taken =
    ap (sum_by (weight_back (λ _. 1))) popped ∙ sum_by_push (weight_back (λ _. 1)) now taker in
    let balance = is.weights (λ _. 1) in
    let less = is.less (λ _. 1) in
    let whole = is.dealt (λ _. 1) in
    let room = is.room in
    let a : vec_len left ≡ length left.items = left.ok.0 in
    omega (
      arith,
      length-sum_by (worker_view taker.owner).dealt,
      length-sum_by (worker_view taker.owner).taken,
      length-sum_by left.items,
      length-sum_by (range_with_len 0 count),
      length-range_with_len 0 count,
    )

pub gathering_more : (count : ℕ) (given all was now : List Taker) (taker : Taker) (left after : Vec ℕ Global)
    → was ≡ now ++ taker ∷ [] → IsGathering count given all was left
    → ((h : ℕ → ℕ) → sum_by h after.items + sum_by h (worker_view taker.owner).taken
    ≡ sum_by h left.items + sum_by h (worker_view taker.owner).dealt)
    → vec_capacity after ≡ vec_capacity left → (0 < (worker_view taker.owner).ends → after.items ≡ left.items)
    → IsGathering count given all now after
gathering_more count given all was now taker left after popped is drained capacity none = record {
  whole = (all_init IsWhole now taker (subst (All IsWhole) popped is.whole)).0;
  weights = λ h.
      let d : sum_by (weight_dealt h) was ≡ sum_by (weight_dealt h) now + sum_by h (worker_view taker.owner).dealt =
      ap (sum_by (weight_dealt h)) popped ∙ sum_by_push (weight_dealt h) now taker in
      let b : sum_by (weight_back h) was ≡ sum_by (weight_back h) now + sum_by h (worker_view taker.owner).taken =
      ap (sum_by (weight_back h)) popped ∙ sum_by_push (weight_back h) now taker in
      let balance = is.weights h in
      let change = drained h in omega arith;
  less = λ h.
      let b : sum_by (weight_back h) was ≡ sum_by (weight_back h) now + sum_by h (worker_view taker.owner).taken =
      ap (sum_by (weight_back h)) popped ∙ sum_by_push (weight_back h) now taker in
      let less = is.less h in omega arith;
  dealt = is.dealt;
  back = is.back;
  room = let room = is.room in omega arith;
  done = is.done;
  ended = λ all_ended.
      let was_ended = is.ended all_ended in
      let both = all_init HasEnded now taker (subst (All HasEnded) popped was_ended.1) in
      (none both.1.ended ∙ was_ended.0, both.0);
}

-- what is asked of the takers before their accesses are given back
pub record AreReturnable (takers : List Taker) : Type 0 where
  pub ports : (k : ℕ) (d : Taker) → k < length takers → worker_port (get_or takers k d).owner ≡ 0
  pub many : (j : ℕ) (d : Taker) → j < length takers → length (get_or takers j d).accesses.items ≡ length takers
  pub returns : (j k : ℕ) (d : Taker) (a : Access) → j < length takers → k < length takers
      → IsReturn (get_or takers k d) (get_or (get_or takers j d).accesses.items k a)

-- the owner's end of a worker's deque is that of the thief at its place
owner_at : (pieces : Pieces) (takers : List Taker) → AreTakersOf pieces takers → (k : ℕ) (d : Taker) (s : Thief)
    → k < length takers
    → IsOwner pieces.count (length pieces.thieves.items) k 0 (get_or pieces.thieves.items k s) (get_or takers k d).owner
unfolding number_of
owner_at pieces takers are k d s within =
    subst (λ (j : ℕ). IsOwner pieces.count (length pieces.thieves.items) j 0 (get_or pieces.thieves.items j s)
    (get_or takers k d).owner) (are.numbers k d within) ((are.each k d within).owner s)

as_many : (pieces : Pieces) (takers : List Taker) → AreTakersOf pieces takers
    → length takers ≡ length pieces.thieves.items
unfolding workers_of
as_many pieces takers are = are.many

pub all_returnable : (pieces : Pieces) (takers slice : List Taker) → AreTakersOf pieces takers → slice ≡ takers
    → AreReturnable slice
all_returnable pieces takers slice are same = subst AreReturnable (sym same) (record {
  ports = λ k d within. (owner_at pieces takers are k d (one_of pieces.thieves.items pieces.has_worker) within).port;
  many = λ j d within. (are.each j d within).accesses.many ∙ sym (as_many pieces takers are);
  returns = λ j k d a j_within k_within.
      let n = as_many pieces takers are in
      let s : Thief = one_of pieces.thieves.items pieces.has_worker in
      let owner = owner_at pieces takers are k d s k_within in
      let access = (are.each j d j_within).accesses.each k s a (omega arith) in
      record {
        deque = (
          access.deque.0 ∙ ap (λ x. x.0) (sym owner.deque),
          access.deque.1 ∙ ap (λ x. x.1) (sym owner.deque),
          access.deque.2,
          access.deque.3,
        );
        seats = access.seats;
        ends = access.ends;
      };
})

-- the gather begins once all accesses were given back
begins_with : (pieces : Pieces) (given now : List Taker) (left : Vec ℕ Global) → AreTakersOf pieces given
    → left.items ≡ [] → pieces.count ≤ vec_capacity left
    → length now ≡ length given
    → ((k : ℕ) (d : Taker) → k < length given → IsGathered (length given) (get_or given k d) (get_or now k d))
    → ((h : ℕ → ℕ) → sum_by (weight_back h) now ≡ sum_by (weight_back h) given + sum_by (weight_out h) given)
    → ((j k : ℕ) (d : Taker) → j < length given → k < length given → is_done (get_or given j d) ≡ true
    → 0 < (worker_view (get_or now k d).owner).ends)
    → IsGathering pieces.count given now now left
unfolding taken_of
begins_with pieces given now left are empty room many owners weights ended =
    let n = as_many pieces given are in
    let s : Thief = one_of pieces.thieves.items pieces.has_worker in
    let workers : ℕ = length pieces.thieves.items in record {
      whole = λ k d within.
          let own = owner_at pieces given are k d s (omega arith) in
          let back = owners k d (omega arith) in
          let seats = back.seats in
          let marks = back.marks in
          let seats_were = own.seats_are in
          let marks_were = own.marks in
          record {
            fifo = back.same.1 ∙ own.fifo;
            port = back.same.2 ∙ own.port;
            seats = omega arith;
            some_mark = let some_worker = pieces.has_worker in omega arith;
          };
      weights = λ h. let none : sum_by h left.items ≡ 0 = ap (sum_by h) empty in omega arith;
      less = λ h. omega arith;
      dealt = λ h.
          sum_by_place (weight_dealt h) (λ k. sum_by h (dealt_to k (length pieces.thieves.items) pieces.count)) now 0
          (λ k d within.
          let own = owner_at pieces given are k d s (omega arith) in
          ap (sum_by h) ((owners k d (omega arith)).dealt ∙ own.dealt)
          ∙ ap (λ (j : ℕ). sum_by h (dealt_to j (length pieces.thieves.items) pieces.count)) (let e : k ≡ 0 + k =
          omega arith in e))
          ∙ ap (λ (m : ℕ). sum_by (λ k. sum_by h (dealt_to k (length pieces.thieves.items) pieces.count))
          (range_with_len 0 m)) (many ∙ n)
          ∙ dealt_all h (length pieces.thieves.items) pieces.count pieces.has_worker;
      back = λ h.
          let none : sum_by (weight_back h) given ≡ 0 =
          none_in_all (weight_back h) given (λ k d within. ap (sum_by h) (are.each k d within).none_taken) in
          let out : sum_by (weight_out h) given ≡ sum_by (λ taker. sum_by h (taken_of taker)) given =
          sum_same (weight_out h) (λ taker. sum_by h (taken_of taker)) given
          (λ k d within. sym ((are.each k d within).noted h)) in
          let all = weights h in omega arith;
      room = room;
      done = λ k d within is. λ j e j_within. record {
        ended = ended k j e within (omega arith) (ap is_done (get_or_default given k e d within) ∙ is);
      };
      ended = λ all_ended. (empty, all_ended);
    }

pub gathering_begins : (pieces : Pieces) (given slice now rest : List Taker) (n : ℕ) (left : Vec ℕ Global)
    → AreTakersOf pieces given → slice ≡ given → n ≡ length given
    → left.items ≡ [] → pieces.count ≤ vec_capacity left → length now ≡ length slice
    → ((k : ℕ) (d : Taker) → k < length slice → IsGathered (length slice) (get_or slice k d) (get_or now k d))
    → ((h : ℕ → ℕ) → sum_by (weight_back h) now ≡ sum_by (weight_back h) slice + sum_by (weight_out h) slice)
    → ((j k : ℕ) (d : Taker) → j < length slice → k < length slice → is_done (get_or slice j d) ≡ true
    → 0 < (worker_view (get_or now k d).owner).ends)
    → IsGathering pieces.count given (take n (now ++ rest)) (take n (now ++ rest)) left
gathering_begins pieces given slice now rest n left are same n_is empty room many owners weights ended =
    let n_now : n ≡ length now = n_is ∙ ap length (sym same) ∙ sym many in
    let whole : take n (now ++ rest) ≡ now = ap (λ k. take k (now ++ rest)) n_now ∙ take-append_seam now rest in
    let of_slice : AreTakersOf pieces slice = subst (AreTakersOf pieces) (sym same) are in
    subst (λ (p : List Taker × List Taker). IsGathering pieces.count p.0 p.1 p.1 left) (λ i. (same i, sym whole i))
    (begins_with pieces slice now left of_slice empty room many owners weights ended)

no_more : {X : Type 0} (xs : List X) → length xs ≡ 0 → xs ≡ []
no_more [] none = refl
no_more (x ∷ xs) none = absurd (omega arith)

-- what a gather answers, however the pieces are weighed
pub gathered : (count : ℕ) (given all now : List Taker) (left : Vec ℕ Global) (sorted : List ℕ)
    → IsGathering count given all now left → length now ≡ 0 → IsPermutation left.items sorted
    → (h : ℕ → ℕ) → sum_by h sorted + sum_by (λ taker. sum_by h (taken_of taker)) given
    ≡ sum_by h (range_with_len 0 count)
gathered count given all now left sorted is none moved h =
    let d : sum_by (weight_dealt h) now ≡ 0 = ap (sum_by (weight_dealt h)) (no_more now none) in
    let b : sum_by (weight_back h) now ≡ 0 = ap (sum_by (weight_back h)) (no_more now none) in
    let balance = is.weights h in
    let whole = is.dealt h in
    let back = is.back h in
    let same = sum_by-IsPermutation h left.items sorted moved in
    omega arith

-- each piece once
pub gathered_once : (count : ℕ) (given all now : List Taker) (left : Vec ℕ Global) (sorted : List ℕ)
    → IsGathering count given all now left → length now ≡ 0 → IsPermutation left.items sorted
    → (piece : ℕ) → times piece sorted + sum_by (λ taker. times piece (taken_of taker)) given ≡ once_below piece count
gathered_once count given all now left sorted is none moved piece =
    gathered count given all now left sorted is none moved (λ p. if p == piece then 1 else 0) ∙ times-range piece count

-- nothing is left where a taker is done
pub gathered_none : (count : ℕ) (given all now : List Taker) (left : Vec ℕ Global) (sorted : List ℕ)
    → IsGathering count given all now left → IsPermutation left.items sorted
    → (k : ℕ) (d : Taker) → k < length given → is_done (get_or given k d) ≡ true → sorted ≡ []
gathered_none count given all now left sorted is moved k d within done =
    no_more sorted (length_permutation left.items sorted moved ∙ ap length (is.ended (is.done k d within done)).0)
