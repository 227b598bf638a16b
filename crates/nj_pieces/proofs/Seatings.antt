-- What the loops of a deal have done so far.
use Rattle.std.proofs.Common.{◌≡◌, ◌≢◌, ℕ, ◌+◌, ◌-◌, ◌<◌, ◌≤◌, Bool, false, List, [], ◌∷◌, ◌++◌, length, get_or, set, take, sym, refl, ap, ◌∙◌, subst, arith, length-append, length-set, Global, if◌then◌else◌}
use mathlib.Core.Logic.{dite}
use native.Mathlib.Decide.{ℕ_discrete}
use Rattle.std.specs.Prelude.{Vec}
use Rattle.std.specs.List.{All, sum_by, list_all}
use Rattle.std.proofs.lemmas.List.{get_or-set_same, get_or-set_other, get_or_default}
use Rattle.std.proofs.lemmas.List.Folds.{list_all_at}
use Rattle.std.proofs.lemmas.List.Sums.{sum_by-le}
use Rattle.std.proofs.Math.ListN.{get_or-append}
use Rattle.std.proofs.Math.Seq.{get_or-append_seam, take-append_seam}
use Rattle.crossbeam_deque.specs.Handles.{IsPassOf, worker_deque, worker_view, SameWorker}
use Rattle.nj_pieces.specs.declared.rule.Tally.{Tally}
use Rattle.nj_pieces.specs.declared.parts.Access.{Access}
use Rattle.nj_pieces.specs.declared.parts.Taker.{Taker}
use Rattle.nj_pieces.specs.declared.parts.Pieces.{Pieces}
use Rattle.nj_pieces.specs.Tallies.{cut, guest, opening}
use Rattle.nj_pieces.specs.Dealing.{dealt_to}
use Rattle.nj_pieces.specs.Takers.{Owner, Thief, seen, workers_of, number_of, dealt_of, taken_of, is_done, IsAccess, IsOwner, IsTakerOf, AreTakersOf}
use Rattle.nj_pieces.specs.Seating.{IsOpened, MayCut, IsCut, IsSeat}

-- the element behind a list
at_end : {X : Type 0} (xs : List X) (y d : X) (k : ℕ) → k ≡ length xs → get_or (xs ++ y ∷ []) k d ≡ y
at_end xs y d k is = ap (λ (j : ℕ). get_or (xs ++ y ∷ []) j d) is ∙ get_or-append_seam xs y [] d

-- what holds of each place below n and of one more place behind
each_more : {X : Type 0} (P : ℕ → X → Type 0) (xs : List X) (y : X) (n : ℕ) → length xs ≡ n
    → ((k : ℕ) (d : X) → k < n → P k (get_or xs k d)) → P n y
    → (k : ℕ) (d : X) → k < n + 1 → P k (get_or (xs ++ y ∷ []) k d)
each_more P xs y n many each new k d within = dite (ℕ_discrete k n)
    (λ here. subst (P k) (sym (at_end xs y d k (here ∙ sym many))) (subst (λ j. P j y) (sym here) new))
    (λ before. subst (P k) (sym (get_or-append xs (y ∷ []) d k (omega arith))) (each k d (omega arith)))

-- the workers below this number have their takers, without accesses
pub record AreOpened (count workers : ℕ) (takers : List Taker) (thieves : List Thief) (number : ℕ) : Type 0 where
  pub takers_many : length takers ≡ number
  pub thieves_many : length thieves ≡ number
  pub each : (k : ℕ) (d : Taker) (s : Thief) → k < number
      → IsOpened count workers k (get_or takers k d) (get_or thieves k s)

pub opened_more : (count workers : ℕ) (takers : List Taker) (thieves : List Thief) (number : ℕ) (t : Taker) (h : Thief)
    → AreOpened count workers takers thieves number
    → IsOpened count workers number t h → AreOpened count workers (takers ++ t ∷ []) (thieves ++ h ∷ []) (number + 1)
opened_more count workers takers thieves number t h are new = record {
  takers_many = let many = are.takers_many in omega (arith, length-append takers (t ∷ []));
  thieves_many = let many = are.thieves_many in omega (arith, length-append thieves (h ∷ []));
  each = λ k d s within. (each_more (λ j x. (e : Thief)
      → IsOpened count workers j x (get_or (thieves ++ h ∷ []) j e)) takers t number are.takers_many
      (λ j x within e. subst (IsOpened count workers j (get_or takers j x)) (sym
      (get_or-append thieves (h ∷ []) e j (let many = are.thieves_many in omega arith))) (are.each j x e within))
      (λ e. subst (IsOpened count workers number t) (sym (at_end thieves h e number (sym are.thieves_many))) new) k d
      within) s;
}

-- the same with the lists that two pushes make
pub opened_pushed : (count workers : ℕ) (takers takers_now : List Taker) (thieves thieves_now : List Thief) (number : ℕ)
    (t : Taker) (h : Thief)
    → takers_now ≡ takers ++ t ∷ [] → thieves_now ≡ thieves ++ h ∷ [] → AreOpened count workers takers thieves number
    → IsOpened count workers number t h → AreOpened count workers takers_now thieves_now (number + 1)
opened_pushed count workers takers takers_now thieves thieves_now number t h takers_are thieves_are are new =
    subst (λ (p : List Taker × List Thief). AreOpened count workers p.0 p.1 (number + 1)) (λ i.
    (sym takers_are i, sym thieves_are i)) (opened_more count workers takers thieves number t h are new)

-- the owners below this place have given one right away, each for an access
pub record AreCutting (first takers : List Taker) (accesses : List Access) (at : ℕ) : Type 0 where
  pub many : length takers ≡ length first
  pub accesses_many : length accesses ≡ at
  pub cut_so_far : (k : ℕ) (d : Taker) → k < at → IsCut 1 (get_or first k d) (get_or takers k d)
  pub kept : (k : ℕ) (d : Taker) → (get_or takers k d).accesses ≡ (get_or first k d).accesses
  pub untouched : (k : ℕ) (d : Taker) → at ≤ k → get_or takers k d ≡ get_or first k d
  pub seats : (k : ℕ) (d : Taker) (a : Access) → k < at → IsSeat (get_or first k d) (get_or accesses k a)

pub cutting_more : (first takers : List Taker) (accesses accesses_now : List Access) (at : ℕ) (d : Taker)
    (owner : Owner) (a : Access) → accesses_now ≡ accesses ++ a ∷ []
    → AreCutting first takers accesses at → at < length first
    → SameWorker (get_or takers at d).owner owner → worker_view owner ≡ cut (worker_view (get_or takers at d).owner)
    → IsPassOf (worker_deque (get_or takers at d).owner) a.ticket
    → seen a ≡ guest (worker_view (get_or takers at d).owner) → a.ended ≡ false
    → AreCutting first (set takers at (record {
      number = (get_or takers at d).number;
      owner = owner;
      accesses = (get_or takers at d).accesses;
    })) accesses_now (at + 1)
cutting_more first takers accesses accesses_now at d owner a pushed are within same now deque told fresh =
    let old : Taker = get_or takers at d in
    let new : Taker = record { number = old.number; owner = owner; accesses = old.accesses } in
    let is_old : (e : Taker) → old ≡ get_or first at e = λ e. are.untouched at d (omega arith)
    ∙ get_or_default first at d e within in
    let fits : at < length takers = (let many = are.many in omega arith) in
    let here : (e : Taker) → get_or (set takers at new) at e ≡ new = λ e. get_or-set_same takers at new e fits in
    let seat_here : IsSeat old a = record { deque = deque; seen_is = told; not_ended = fresh } in
    let cut_here : IsCut 1 old new = record { numbered = refl; same = same; view_is = now } in
    subst (λ xs. AreCutting first (set takers at new) xs (at + 1)) (sym pushed) (record {
      many = length-set takers at new ∙ are.many;
      accesses_many = let many = are.accesses_many in omega (arith, length-append accesses (a ∷ []));
      cut_so_far = λ k e before. dite (ℕ_discrete k at)
          (λ is. subst (λ j. IsCut 1 (get_or first j e) (get_or (set takers at new) j e)) (sym is)
          (subst (λ (p : Taker × Taker). IsCut 1 p.0 p.1) (λ i. (is_old e i, sym (here e) i)) cut_here))
          (λ other. subst (IsCut 1 (get_or first k e)) (sym (get_or-set_other takers at k new e other))
          (are.cut_so_far k e (omega arith)));
      kept = λ k e. dite (ℕ_discrete k at)
          (λ is. ap (λ (j : ℕ). (get_or (set takers at new) j e).accesses) is ∙ ap (λ t. t.accesses) (here e)
          ∙ ap (λ t. t.accesses) (is_old e) ∙ ap (λ (j : ℕ). (get_or first j e).accesses) (sym is))
          (λ other. ap (λ t. t.accesses) (get_or-set_other takers at k new e other) ∙ are.kept k e);
      untouched = λ k e after. get_or-set_other takers at k new e (λ is. absurd (omega arith))
          ∙ are.untouched k e (omega arith);
      seats = λ k e b before. each_more (λ j x. IsSeat (get_or first j e) x) accesses a at are.accesses_many
          (λ j x j_within. are.seats j e x j_within)
          (subst (λ t. IsSeat t a) (is_old e) seat_here) k b before;
    })

-- the takers below this place have their accesses
pub record AreSeating (first takers : List Taker) (at : ℕ) : Type 0 where
  pub many : length takers ≡ length first
  pub cut_so_far : (k : ℕ) (d : Taker) → k < length first → IsCut at (get_or first k d) (get_or takers k d)
  pub accesses_many : (j : ℕ) (d : Taker) → j < at → length (get_or takers j d).accesses.items ≡ length first
  pub seats : (j k : ℕ) (d : Taker) (a : Access) → j < at → k < length first
      → IsSeat (get_or first k d) (get_or (get_or takers j d).accesses.items k a)

-- rights that were given away twice
cut_again : (times : ℕ) (a b c : Taker) → IsCut times a b → IsCut 1 b c → IsCut (times + 1) a c
cut_again times a b c one two = record {
  numbered = two.numbered ∙ one.numbered;
  same = (
    two.same.0 ∙ one.same.0,
    two.same.1 ∙ one.same.1,
    two.same.2 ∙ one.same.2,
    (let low = one.same.3 in let high = two.same.3 in omega arith),
  );
  view_is = two.view_is ∙ ap cut one.view_is ∙ ap (λ (n : ℕ). record (worker_view a.owner) { seats = n })
      (let e : (worker_view a.owner).seats - times - 1 ≡ (worker_view a.owner).seats - (times + 1) = omega arith in e);
}

-- an access to the deque of an owner that has given rights away is one of the owner as it was
seat_before : (times : ℕ) (a b : Taker) (access : Access) → IsCut times a b → IsSeat b access → IsSeat a access
seat_before times a b access is_cut seat = record {
  deque = (
    seat.deque.0 ∙ ap (λ d. d.0) is_cut.same.0,
    seat.deque.1 ∙ ap (λ d. d.1) is_cut.same.0,
    seat.deque.2,
    seat.deque.3,
  );
  seen_is = seat.seen_is ∙ ap guest is_cut.view_is;
  not_ended = seat.not_ended;
}

-- who may still give a right away
pub may_cut : (times most : ℕ) (a b : Taker) → MayCut most a → IsCut times a b → times < most → MayCut 1 b
may_cut times most a b may is_cut less = record {
  port = is_cut.same.2 ∙ may.port;
  seats = let is : (worker_view b.owner).seats ≡ (worker_view a.owner).seats - times =
      ap (λ v. v.seats) is_cut.view_is in let enough = may.seats in omega arith;
  none_ended = ap (λ v. v.ends) is_cut.view_is ∙ may.none_ended;
  none_taken = ap (λ v. v.taken) is_cut.view_is ∙ may.none_taken;
}

pub seating_more : (first takers mid : List Taker) (at : ℕ) (d : Taker) (accesses : Vec Access Global)
    → AreSeating first takers at → at < length first
    → length mid ≡ length takers
    → ((k : ℕ) (e : Taker) → k < length takers → IsCut 1 (get_or takers k e) (get_or mid k e))
    → ((k : ℕ) (e : Taker) → k < length takers → (get_or mid k e).accesses ≡ (get_or takers k e).accesses)
    → length accesses.items ≡ length takers
    → ((k : ℕ) (e : Taker) (a : Access) → k < length takers → IsSeat (get_or takers k e) (get_or accesses.items k a))
    → AreSeating first (set mid at
    (record { number = (get_or mid at d).number; owner = (get_or mid at d).owner; accesses = accesses })) (at + 1)
seating_more first takers mid at d accesses are within mid_many cuts kept seats_many seats =
    let new : Taker =
    record { number = (get_or mid at d).number; owner = (get_or mid at d).owner; accesses = accesses } in
    let many : length takers ≡ length first = are.many in
    let here : (e : Taker) → get_or (set mid at new) at e ≡ new = λ e. get_or-set_same mid at new e (omega arith) in
    let cut_new : (e : Taker) → IsCut 1 (get_or takers at e) new = λ e.
    let c = cuts at e (omega arith) in
    let same : get_or mid at e ≡ get_or mid at d = get_or_default mid at e d (omega arith) in
    record {
      numbered = ap (λ t. t.number) (sym same) ∙ c.numbered;
      same = subst (λ (o : Owner). SameWorker (get_or takers at e).owner o) (ap (λ t. t.owner) same) c.same;
      view_is = ap (λ t. worker_view t.owner) (sym same) ∙ c.view_is;
    } in
    let other_is : (k : ℕ) (e : Taker) → k ≢ at → get_or (set mid at new) k e ≡ get_or mid k e =
    λ k e other. get_or-set_other mid at k new e other in record {
      many = length-set mid at new ∙ mid_many ∙ many;
      cut_so_far = λ k e k_within. cut_again at (get_or first k e) (get_or takers k e) (get_or (set mid at new) k e)
          (are.cut_so_far k e k_within)
          (dite (ℕ_discrete k at)
          (λ is. subst (λ j. IsCut 1 (get_or takers j e) (get_or (set mid at new) j e)) (sym is)
          (subst (IsCut 1 (get_or takers at e)) (sym (here e)) (cut_new e)))
          (λ other. subst (IsCut 1 (get_or takers k e)) (sym (other_is k e other)) (cuts k e (omega arith))));
      accesses_many = λ j e before. dite (ℕ_discrete j at)
          (λ is. ap (λ (i : ℕ). length (get_or (set mid at new) i e).accesses.items) is
          ∙ ap (λ t. length t.accesses.items) (here e) ∙ seats_many ∙ many)
          (λ other. ap (λ t. length t.accesses.items) (other_is j e other) ∙ ap (λ (v : Vec Access Global).
          length v.items) (kept j e (omega arith)) ∙ are.accesses_many j e (omega arith));
      seats = λ j k e a before k_within. dite (ℕ_discrete j at)
          (λ is. subst (λ i. IsSeat (get_or first k e) (get_or (get_or (set mid at new) i e).accesses.items k a))
          (sym is)
          (subst (λ (t : Taker). IsSeat (get_or first k e) (get_or t.accesses.items k a)) (sym (here e))
          (seat_before at (get_or first k e) (get_or takers k e) (get_or accesses.items k a)
          (are.cut_so_far k e k_within) (seats k e a (omega arith)))))
          (λ other. subst (λ (t : Taker). IsSeat (get_or first k e) (get_or t.accesses.items k a))
          (sym (other_is j e other))
          (subst (λ (v : Vec Access Global). IsSeat (get_or first k e) (get_or v.items k a))
          (sym (kept j e (omega arith))) (are.seats j k e a (omega arith) k_within)));
    }

-- all workers have their takers, with their accesses, and nothing was taken
pub record AreDealt (pieces : Pieces) (takers : List Taker) (count workers : ℕ) : Type 0 where
  pub takers_are : AreTakersOf pieces takers
  pub dealt : (k : ℕ) (d : Taker) → k < workers → dealt_of (get_or takers k d) ≡ dealt_to k workers count
  pub none_taken : All (λ taker. taken_of taker ≡ []) takers
  pub none_done : All (λ taker. is_done taker ≡ false) takers

-- a sum of zeros
pub none_in_all : {X : Type 0} (f : X → ℕ) (xs : List X) → ((k : ℕ) (d : X) → k < length xs → f (get_or xs k d) ≡ 0)
    → sum_by f xs ≡ 0
none_in_all f xs each =
    let none = sum_by-le f 0 xs (λ k d within. let zero_is = each k d within in omega arith) in omega arith

-- of accesses that have met no mark, not all have met one
not_all : (accesses : List Access) → 0 < length accesses
    → ((k : ℕ) (a : Access) → k < length accesses → (get_or accesses k a).ended ≡ false)
    → list_all (λ (a : Access). a.ended) accesses ≡ false
not_all [] filled fresh = absurd (omega arith)
not_all (a ∷ accesses) filled fresh = list_all_at (λ (b : Access). b.ended) (a ∷ accesses) 0 a filled (fresh 0 a filled)

-- one of a list
pub one_of : {X : Type 0} (xs : List X) → 0 < length xs → X
one_of [] filled = absurd (omega arith)
one_of (x ∷ xs) filled = x

-- the owner of each deque that is opened can give a right to each worker
pub all_may_cut : (count workers : ℕ) (takers slice : List Taker) (thieves : List Thief) → slice ≡ takers → 0 < workers
    → length takers ≡ workers → length thieves ≡ workers
    → ((k : ℕ) (d : Taker) (s : Thief) → k < workers
    → IsOpened count workers k (get_or takers k d) (get_or thieves k s))
    → (k : ℕ) (d : Taker) → k < length slice → MayCut (length slice) (get_or slice k d)
all_may_cut count workers takers slice thieves same filled takers_many thieves_many opened =
    subst (λ (xs : List Taker). (k : ℕ) (d : Taker) → k < length xs → MayCut (length xs) (get_or xs k d)) (sym same)
    (λ k d within. let is = opened k d (one_of thieves (omega arith)) (omega arith) in record {
      port = is.port;
      seats = let seats : (worker_view (get_or takers k d).owner).seats ≡ workers = ap (λ v. v.seats) is.view_is in
          omega arith;
      none_ended = ap (λ v. v.ends) is.view_is;
      none_taken = ap (λ v. v.taken) is.view_is;
    })

-- what the loops have made is a dealing
pub all_dealt : (pieces : Pieces) (workers : ℕ) (first takers : List Taker) → 0 < workers → length first ≡ workers
    → length pieces.thieves.items ≡ workers
    → ((k : ℕ) (d : Taker) (s : Thief) → k < workers
    → IsOpened pieces.count workers k (get_or first k d) (get_or pieces.thieves.items k s))
    → length takers ≡ length first
    → ((k : ℕ) (d : Taker) → k < length first → IsCut (length first) (get_or first k d) (get_or takers k d))
    → ((j : ℕ) (d : Taker) → j < length first → length (get_or takers j d).accesses.items ≡ length first)
    → ((j k : ℕ) (d : Taker) (a : Access) → j < length first → k < length first
    → IsSeat (get_or first k d) (get_or (get_or takers j d).accesses.items k a))
    → AreDealt pieces takers pieces.count workers
unfolding workers_of number_of dealt_of taken_of is_done
all_dealt pieces workers first takers filled first_many thieves_many opened many cut_all accesses_many seats = record {
  takers_are = record {
    many = many ∙ first_many ∙ sym thieves_many;
    each = λ k d within. taker k d (omega arith);
    numbers = λ k d within. number k d (omega arith);
  };
  dealt = λ k d within. ap (λ v. v.dealt) (view_of k d within);
  none_taken = λ k d within. ap (λ v. v.log) (view_of k d (omega arith));
  none_done = λ k d within.
      let n = accesses_many k d (omega arith) in
      not_all (get_or takers k d).accesses.items (omega arith)
      (λ j a j_within. (seats k j d a (omega arith) (omega arith)).not_ended);
} where
  thief : Thief
  thief = one_of pieces.thieves.items (omega arith)

  number : (k : ℕ) (d : Taker) → k < workers → (get_or takers k d).number ≡ k
  number k d within = (cut_all k d (omega arith)).numbered ∙ (opened k d thief within).numbered

  view_of : (k : ℕ) (d : Taker) → k < workers
      → worker_view (get_or takers k d).owner ≡ record (opening (dealt_to k workers pieces.count) workers) { seats = 0 }
  view_of k d within =
      (cut_all k d (omega arith)).view_is
      ∙ ap (λ (v : Tally). record v { seats = v.seats - length first }) (opened k d thief within).view_is
      ∙ ap (λ (n : ℕ). record (opening (dealt_to k workers pieces.count) workers) { seats = n })
      (let none : workers - length first ≡ 0 = omega arith in none)

  taken : (k : ℕ) (d : Taker) (m : ℕ) (a : Access) → k < workers → m < workers
      → seen (get_or (get_or takers k d).accesses.items m a) ≡ guest (opening (dealt_to m workers pieces.count) workers)
  taken k d m a within m_within =
      (seats k m d a (omega arith) (omega arith)).seen_is ∙ ap guest (opened m d thief m_within).view_is

  access : (k : ℕ) (d : Taker) → k < workers → (m : ℕ) (s : Thief) (a : Access) → m < workers
      → IsAccess pieces.count workers m (get_or pieces.thieves.items m s)
      (get_or (get_or takers k d).accesses.items m a)
  access k d within m s a m_within =
      let seat = seats k m d a (omega arith) (omega arith) in
      let open_m = opened m d s m_within in
      let now = taken k d m a within m_within in record {
        fifo = open_m.thief_fifo;
        deque = (
          seat.deque.0 ∙ ap (λ x. x.0) (sym open_m.deque),
          seat.deque.1 ∙ ap (λ x. x.1) (sym open_m.deque),
          seat.deque.2,
          seat.deque.3,
        );
        seats = ap (λ v. v.seats) now;
        ends = ap (λ v. v.ends) now ∙ sym (ap (λ (b : Bool). if b then 1 else 0) seat.not_ended);
        dealt = ap (λ v. v.dealt) now;
      }

  owner : (k : ℕ) (d : Taker) → k < workers → (s : Thief)
      → IsOwner pieces.count workers k 0 (get_or pieces.thieves.items k s) (get_or takers k d).owner
  owner k d within s =
      let open_k = opened k d s within in
      let is_cut = cut_all k d (omega arith) in
      let now = view_of k d within in record {
        deque = is_cut.same.0 ∙ sym open_k.deque;
        fifo = is_cut.same.1 ∙ open_k.fifo;
        port = is_cut.same.2 ∙ open_k.port;
        seats_are = ap (λ v. v.seats) now;
        marks = ap (λ v. v.marks) now;
        dealt = ap (λ v. v.dealt) now;
      }

  taker : (k : ℕ) (d : Taker) → k < workers → IsTakerOf pieces (get_or takers k d)
  taker k d within =
      let n = number k d within in
      let now = view_of k d within in
      let a_many : length (get_or takers k d).accesses.items ≡ workers = accesses_many k d (omega arith) ∙ first_many in
      record {
        within = omega arith;
        owner = λ s. subst (λ (j : ℕ). IsOwner pieces.count (length pieces.thieves.items) j 0
            (get_or pieces.thieves.items j s) (get_or takers k d).owner) (sym n)
            (subst (λ (w : ℕ). IsOwner pieces.count w k 0 (get_or pieces.thieves.items k s) (get_or takers k d).owner)
            (sym thieves_many) (owner k d within s));
        none_ended = ap (λ v. v.ends) now;
        none_taken = ap (λ v. v.taken) now;
        accesses = record {
          many = a_many ∙ sym thieves_many;
          each = λ m s a m_within. subst (λ (w : ℕ). IsAccess pieces.count w m (get_or pieces.thieves.items m s)
              (get_or (get_or takers k d).accesses.items m a)) (sym thieves_many)
              (access k d within m s a (omega arith));
        };
        noted = λ h. ap (λ v. sum_by h v.log) now
            ∙ sym (none_in_all (λ a. sum_by h (seen a).taken) (get_or takers k d).accesses.items
            (λ m a m_within. ap (λ v. sum_by h v.taken) (taken k d m a within (omega arith))));
      }

-- the same of the list that a vector has after a call on its slice
pub all_dealt_within : (pieces : Pieces) (workers n : ℕ) (first slice takers rest : List Taker) → slice ≡ first
    → n ≡ length first → 0 < workers → length first ≡ workers
    → length pieces.thieves.items ≡ workers → ((k : ℕ) (d : Taker) (s : Thief) → k < workers
    → IsOpened pieces.count workers k (get_or first k d) (get_or pieces.thieves.items k s))
    → length takers ≡ length slice
    → ((k : ℕ) (d : Taker) → k < length slice → IsCut (length slice) (get_or slice k d) (get_or takers k d))
    → ((j : ℕ) (d : Taker) → j < length slice → length (get_or takers j d).accesses.items ≡ length slice)
    → ((j k : ℕ) (d : Taker) (a : Access) → j < length slice → k < length slice
    → IsSeat (get_or slice k d) (get_or (get_or takers j d).accesses.items k a))
    → AreDealt pieces (take n (takers ++ rest)) pieces.count workers
all_dealt_within pieces workers n first slice takers rest is n_is filled first_many thieves_many opened many cut_all
    accesses_many seats =
    let same : n ≡ length takers = n_is ∙ ap length (sym is) ∙ sym many in
    let whole : take n (takers ++ rest) ≡ takers = ap (λ k. take k (takers ++ rest)) same
    ∙ take-append_seam takers rest in
    let opened_slice : (k : ℕ) (d : Taker) (s : Thief) → k < workers → IsOpened pieces.count workers k
    (get_or slice k d) (get_or pieces.thieves.items k s) =
    λ k d s within. subst (λ (xs : List Taker). IsOpened pieces.count workers k (get_or xs k d)
    (get_or pieces.thieves.items k s)) (sym is) (opened k d s within) in
    subst (λ xs. AreDealt pieces xs pieces.count workers) (sym whole)
    (all_dealt pieces workers slice takers filled (ap length is
    ∙ first_many) thieves_many opened_slice many cut_all accesses_many seats)
