-- What the owners have once the accesses of some takers were given back.
use Rattle.std.proofs.Common.{◌≡◌, ◌≢◌, ℕ, suc, ◌+◌, ◌<◌, ◌≤◌, Bool, true, List, [], ◌∷◌, length, get_or, set, take, sym, refl, ap, ◌∙◌, subst, arith, length-set, Global, if◌then◌else◌}
use mathlib.Core.Logic.{dite}
use native.Mathlib.Decide.{ℕ_discrete}
use Rattle.std.specs.Prelude.{Vec}
use Rattle.std.specs.List.{sum_by, list_all}
use Rattle.std.proofs.lemmas.List.{get_or-set_same, get_or-set_other, get_or_default}
use Rattle.std.proofs.lemmas.List.Sums.{sum_by-cons, sum_by-append, sum_by_more, AllPass-from_list_all}
use Rattle.crossbeam_deque.specs.Handles.{worker_view, SameWorker}
use Rattle.nj_pieces.specs.declared.parts.Access.{Access}
use Rattle.nj_pieces.specs.declared.parts.Taker.{Taker}
use Rattle.nj_pieces.specs.Tallies.{both}
use Rattle.nj_pieces.specs.Takers.{Owner, seen, weight_of, is_done}
use Rattle.nj_pieces.specs.Gathering.{IsReturn, IsGiven, IsGathered, weight_back, weight_out}
use Rattle.nj_pieces.proofs.Seatings.{one_of}

-- a sum where each element is one of a list and one of another together
pub sum_both : {X Y : Type 0} (f : X → ℕ) (g : Y → ℕ) (xs zs : List X) (ys : List Y) → length zs ≡ length xs
    → length ys ≡ length xs
    → ((k : ℕ) (x : X) (y : Y) → k < length xs → f (get_or zs k x) ≡ f (get_or xs k x) + g (get_or ys k y))
    → sum_by f zs ≡ sum_by f xs + sum_by g ys
sum_both f g [] [] [] zs_many ys_many each = refl
sum_both f g [] (z ∷ zs) ys zs_many ys_many each = absurd (omega arith)
sum_both f g [] [] (y ∷ ys) zs_many ys_many each = absurd (omega arith)
sum_both f g (x ∷ xs) [] ys zs_many ys_many each = absurd (omega arith)
sum_both f g (x ∷ xs) (z ∷ zs) [] zs_many ys_many each = absurd (omega arith)
sum_both f g (x ∷ xs) (z ∷ zs) (y ∷ ys) zs_many ys_many each =
    let here = each 0 x y (omega arith) in
    let rest = sum_both f g xs zs ys (omega arith) (omega arith) (λ k a b within. each (suc k) a b (omega arith)) in
    omega (arith, sum_by-cons f x xs, sum_by-cons f z zs, sum_by-cons g y ys)

-- the accesses of the takers below this place were given back
pub record AreReturned (first takers : List Taker) (at : ℕ) : Type 0 where
  pub many : length takers ≡ length first
  pub owners : (k : ℕ) (d : Taker) → k < length first → IsGathered at (get_or first k d) (get_or takers k d)
  pub kept : (k : ℕ) (d : Taker) → at ≤ k → k < length first
      → (get_or takers k d).accesses ≡ (get_or first k d).accesses
  pub weights : (h : ℕ → ℕ)
      → sum_by (weight_back h) takers ≡ sum_by (weight_back h) first + sum_by (weight_out h) (take at first)
  pub ended : (j k : ℕ) (d : Taker) → j < at → k < length first → is_done (get_or first j d) ≡ true
      → 0 < (worker_view (get_or takers k d).owner).ends

pub returned_begins : (first : List Taker) → AreReturned first first 0
returned_begins first = record {
  many = refl;
  owners =
      λ k d within. record { same = (refl, refl, refl, omega arith); seats = omega arith; marks = refl; dealt = refl };
  kept = λ k d after within. refl;
  weights = λ h. omega arith;
  ended = λ j k d before. absurd (omega arith);
}

-- the takers where one has handed its accesses out
module _ (first takers mid : List Taker) (at : ℕ) (d : Taker) (empty accesses : Vec Access Global)
    (are : AreReturned first takers at) (within : at < length first)
    (mid_is : mid ≡ set takers at
    (record { number = (get_or takers at d).number; owner = (get_or takers at d).owner; accesses = empty }))
    (accesses_are : accesses ≡ (get_or takers at d).accesses)
    (lengths : (j : ℕ) (e : Taker) → j < length first → length (get_or first j e).accesses.items ≡ length first)
    (returns : (j k : ℕ) (e : Taker) (a : Access) → j < length first → k < length first
    → IsReturn (get_or first k e) (get_or (get_or first j e).accesses.items k a)) where
  abbrev new : Taker
  new = record { number = (get_or takers at d).number; owner = (get_or takers at d).owner; accesses = empty }

  pub mid_many : length mid ≡ length first
  mid_many = ap length mid_is ∙ length-set takers at new ∙ are.many

  -- the owners stay
  mid_owner : (k : ℕ) (e : Taker) → k < length first → (get_or mid k e).owner ≡ (get_or takers k e).owner
  mid_owner k e k_within = let many = are.many in dite (ℕ_discrete k at)
      (λ is. ap (λ (xs : List Taker). (get_or xs k e).owner) mid_is
      ∙ ap (λ (j : ℕ). (get_or (set takers at new) j e).owner) is
      ∙ ap (λ t. t.owner) (get_or-set_same takers at new e (omega arith))
      ∙ ap (λ t. t.owner) (get_or_default takers at d e (omega arith))
      ∙ ap (λ (j : ℕ). (get_or takers j e).owner) (sym is))
      (λ other. ap (λ (xs : List Taker). (get_or xs k e).owner) mid_is
      ∙ ap (λ t. t.owner) (get_or-set_other takers at k new e other))

  -- and the accesses of the others
  mid_kept : (k : ℕ) (e : Taker) → k ≢ at → (get_or mid k e).accesses ≡ (get_or takers k e).accesses
  mid_kept k e other = ap (λ (xs : List Taker). (get_or xs k e).accesses) mid_is
      ∙ ap (λ t. t.accesses) (get_or-set_other takers at k new e other)

  -- those that are handed out are the taker's from the start
  handed : (e : Taker) → accesses ≡ (get_or first at e).accesses
  handed e = accesses_are ∙ ap (λ t. t.accesses) (get_or_default takers at d e (let many = are.many in omega arith))
      ∙ are.kept at e (omega arith) within

  pub accesses_many : length accesses.items ≡ length mid
  accesses_many = ap (λ (v : Vec Access Global). length v.items) (handed d) ∙ lengths at d within ∙ sym mid_many

  access_of : (k : ℕ) (e : Taker) (a : Access) → k < length first
      → IsReturn (get_or first k e) (get_or accesses.items k a)
  access_of k e a k_within = subst (λ (v : Vec Access Global). IsReturn (get_or first k e) (get_or v.items k a))
      (sym (handed e)) (returns at k e a within k_within)

  -- after they were given back
  pub returned_more : (now : List Taker) → length now ≡ length mid → ((k : ℕ) (e : Taker) (a : Access) → k < length mid
      → IsGiven (get_or mid k e) (get_or accesses.items k a) (get_or now k e))
      → AreReturned first now (at + 1)
  unfolding is_done
  returned_more now now_many given =
      let m = mid_many in
      let n = are.many in
      let back : (k : ℕ) (e : Taker) (a : Access) → k < length first → worker_view (get_or now k e).owner ≡ both
      (worker_view (get_or takers k e).owner) (seen (get_or accesses.items k a)) =
      λ k e a k_within. (given k e a (omega arith)).view_is
      ∙ ap (λ (o : Owner). both (worker_view o) (seen (get_or accesses.items k a))) (mid_owner k e k_within) in
      record {
        many = now_many ∙ mid_many;
        owners = λ k e k_within.
            let a : Access = one_of accesses.items (let q = accesses_many in omega arith) in
            let was = are.owners k e k_within in
            let one = given k e a (omega arith) in
            let view_is = back k e a k_within in
            let here : SameWorker (get_or takers k e).owner (get_or now k e).owner =
            subst (λ (o : Owner). SameWorker o (get_or now k e).owner) (mid_owner k e k_within) one.same in
            let seats_now : (worker_view (get_or now k e).owner).seats ≡ (worker_view (get_or takers k e).owner).seats +
            (seen (get_or accesses.items k a)).seats = ap (λ v. v.seats) view_is in
            let seat = (access_of k e a k_within).seats in
            let seats_was = was.seats in
            record {
              same = (
                here.0 ∙ was.same.0,
                here.1 ∙ was.same.1,
                here.2 ∙ was.same.2,
                (let low = was.same.3 in let high = here.3 in omega arith),
              );
              seats = omega arith;
              marks = ap (λ v. v.marks) view_is ∙ was.marks;
              dealt = ap (λ v. v.dealt) view_is ∙ was.dealt;
            };
        kept = λ k e after k_within.
            let a : Access = one_of accesses.items (let q = accesses_many in omega arith) in
            (given k e a (omega arith)).kept ∙ mid_kept k e (λ is. absurd (omega arith))
            ∙ are.kept k e (omega arith) k_within;
        weights = λ h.
            let q = accesses_many in
            let all = sum_both (weight_back h) (λ (a : Access). sum_by h (seen a).taken) takers now accesses.items
            (now_many ∙ mid_many ∙ sym n) (omega arith)
            (λ k e a k_within. ap (λ v. sum_by h v.taken) (back k e a (omega arith)) ∙ sum_by-append h
            (worker_view (get_or takers k e).owner).taken (seen (get_or accesses.items k a)).taken) in
            let out : weight_of h accesses.items ≡ weight_out h (get_or first at d) =
            ap (λ (v : Vec Access Global). weight_of h v.items) (handed d) in
            let was = are.weights h in
            omega (arith, sum_by_more (weight_out h) first at d within);
        ended = λ j k e before k_within done. dite (ℕ_discrete j at)
            (λ is.
            let a : Access = one_of accesses.items (let q = accesses_many in omega arith) in
            let done_here : list_all (λ (x : Access). x.ended) accesses.items ≡ true =
            ap (λ (v : Vec Access Global). list_all (λ (x : Access). x.ended) v.items) (handed e)
            ∙ ap (λ (i : ℕ). is_done (get_or first i e)) (sym is) ∙ done in
            let met : (get_or accesses.items k a).ended ≡ true = AllPass-from_list_all (λ (x : Access).
            x.ended) accesses.items done_here k a (let q = accesses_many in omega arith) in
            let one : (seen (get_or accesses.items k a)).ends ≡ 1 = (access_of k e a k_within).ends
            ∙ ap (λ (b : Bool). if b then 1 else 0) met in
            let now_is : (worker_view (get_or now k e).owner).ends ≡ (worker_view (get_or takers k e).owner).ends +
            (seen (get_or accesses.items k a)).ends = ap (λ v. v.ends) (back k e a k_within) in
            omega arith)
            (λ other.
            let a : Access = one_of accesses.items (let q = accesses_many in omega arith) in
            let was = are.ended j k e (omega arith) k_within done in
            let now_is : (worker_view (get_or now k e).owner).ends ≡ (worker_view (get_or takers k e).owner).ends +
            (seen (get_or accesses.items k a)).ends = ap (λ v. v.ends) (back k e a k_within) in
            omega arith);
      }
