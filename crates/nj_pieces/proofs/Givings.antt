-- What the owners have taken back so far.
use Rattle.std.proofs.Common.{◌≡◌, ℕ, ◌+◌, ◌<◌, ◌≤◌, List, [], ◌∷◌, ◌++◌, length, get_or, set, sym, refl, ap, ◌∙◌, subst, arith, length-append, length-set}
use mathlib.Core.Logic.{dite}
use native.Mathlib.Decide.{ℕ_discrete}
use Rattle.std.proofs.Math.Seq.{get_or-append_seam}
use Rattle.std.proofs.Math.ListN.{get_or-append}
use Rattle.std.proofs.lemmas.List.{get_or-set_same, get_or-set_other, get_or_default}
use Rattle.crossbeam_deque.specs.Handles.{worker_port, worker_view, SameWorker}
use Rattle.nj_pieces.specs.declared.parts.Access.{Access}
use Rattle.nj_pieces.specs.declared.parts.Taker.{Taker}
use Rattle.nj_pieces.specs.Tallies.{both}
use Rattle.nj_pieces.specs.Takers.{Owner, seen}
use Rattle.nj_pieces.specs.Gathering.{IsReturn, IsGiven}

-- the owners from the place where the accesses left end on have what the accesses there had
pub record AreGiven (first takers : List Taker) (all left : List Access) : Type 0 where
  pub many : length takers ≡ length first
  pub fewer : length left ≤ length first
  pub left_are : (k : ℕ) (a : Access) → k < length left → get_or left k a ≡ get_or all k a
  pub given : (k : ℕ) (d : Taker) (a : Access) → length left ≤ k → k < length first
      → IsGiven (get_or first k d) (get_or all k a) (get_or takers k d)
  pub untouched : (k : ℕ) (d : Taker) → k < length left → get_or takers k d ≡ get_or first k d

-- the last access is the one at its place
pub last_is : (first takers : List Taker) (all was left : List Access) (access : Access) → was ≡ left ++ access ∷ []
    → AreGiven first takers all was → (a : Access) → get_or all (length left) a ≡ access
last_is first takers all was left access popped are a =
    sym (are.left_are (length left) a (let n : length was ≡ length (left ++ access ∷ []) = ap length popped in
    omega (arith, length-append left (access ∷ []))))
    ∙ ap (λ xs. get_or xs (length left) a) popped ∙ get_or-append_seam left access [] a

pub give_more : (first takers : List Taker) (all was left : List Access) (access : Access) (at : ℕ) (d : Taker)
    (owner : Owner) → was ≡ left ++ access ∷ [] → at ≡ length left
    → AreGiven first takers all was → SameWorker (get_or takers at d).owner owner
    → worker_view owner ≡ both (worker_view (get_or takers at d).owner) (seen access)
    → AreGiven first (set takers at (record {
      number = (get_or takers at d).number;
      owner = owner;
      accesses = (get_or takers at d).accesses;
    })) all left
give_more first takers all was left access at d owner popped at_is are same now =
    let old : Taker = get_or takers at d in
    let new : Taker = record { number = old.number; owner = owner; accesses = old.accesses } in
    let longer : length was ≡ length left + 1 = (let n : length was ≡ length (left ++ access ∷ []) = ap length popped in
    omega (arith, length-append left (access ∷ []))) in
    let fits : at < length takers = (let many = are.many in let fewer = are.fewer in omega arith) in
    let is_old : (e : Taker) → old ≡ get_or first at e = λ e. are.untouched at d (omega arith)
    ∙ get_or_default first at d e (let many = are.many in omega arith) in
    let here : (e : Taker) → get_or (set takers at new) at e ≡ new = λ e. get_or-set_same takers at new e fits in
    let given_here : IsGiven old access new = record { same = same; view_is = now; kept = refl } in record {
      many = length-set takers at new ∙ are.many;
      fewer = let fewer = are.fewer in omega arith;
      left_are = λ k a within. sym (get_or-append left (access ∷ []) a k within) ∙ ap (λ xs. get_or xs k a) (sym popped)
          ∙ are.left_are k a (omega arith);
      given = λ k e a after within. dite (ℕ_discrete k at)
          (λ is. subst (λ j. IsGiven (get_or first j e) (get_or all j a) (get_or (set takers at new) j e)) (sym is)
          (subst (λ (p : Taker × Access × Taker). IsGiven p.0 p.1 p.2)
          (λ i. (
            is_old e i,
            sym (ap (λ (j : ℕ). get_or all j a) at_is
                ∙ last_is first takers all was left access popped are a) i,
            sym (here e) i,
          )) given_here))
          (λ other. subst (IsGiven (get_or first k e) (get_or all k a)) (sym (get_or-set_other takers at k new e other))
          (are.given k e a (omega arith) within));
      untouched = λ k e before. get_or-set_other takers at k new e (λ is. absurd (omega arith))
          ∙ are.untouched k e (omega arith);
    }

-- the owner at the place of the last access is as it was, and the access is of its deque
pub give_place : (first takers : List Taker) (all was left : List Access) (access : Access) (at : ℕ) (d : Taker)
    → was ≡ left ++ access ∷ [] → at ≡ length left
    → AreGiven first takers all was
    → ((k : ℕ) (e : Taker) (a : Access) → k < length first → IsReturn (get_or first k e) (get_or all k a))
    → IsReturn (get_or takers at d) access
give_place first takers all was left access at d popped at_is are returns =
    let longer : length was ≡ length left + 1 = (let n : length was ≡ length (left ++ access ∷ []) = ap length popped in
    omega (arith, length-append left (access ∷ []))) in
    let found : get_or all at access ≡ access = ap (λ (j : ℕ). get_or all j access) at_is
    ∙ last_is first takers all was left access popped are access in
    subst (λ (p : Taker × Access). IsReturn p.0 p.1) (λ i. (sym (are.untouched at d (omega arith)) i, found i))
    (returns at d access (let fewer = are.fewer in omega arith))

-- before the first, and once none is left
pub give_begins : (first : List Taker) (all : List Access) → length all ≡ length first → AreGiven first first all all
give_begins first all many = record {
  many = refl;
  fewer = omega arith;
  left_are = λ k a within. refl;
  given = λ k d a after within. absurd (omega arith);
  untouched = λ k d within. refl;
}

-- its port is the first
pub give_port : (first takers : List Taker) (all was left : List Access) (access : Access) (at : ℕ) (d : Taker)
    → was ≡ left ++ access ∷ [] → at ≡ length left
    → AreGiven first takers all was
    → ((k : ℕ) (e : Taker) → k < length first → worker_port (get_or first k e).owner ≡ 0)
    → worker_port (get_or takers at d).owner ≡ 0
give_port first takers all was left access at d popped at_is are ports =
    let longer : length was ≡ length left + 1 = (let n : length was ≡ length (left ++ access ∷ []) = ap length popped in
    omega (arith, length-append left (access ∷ []))) in
    ap (λ t. worker_port t.owner) (are.untouched at d (omega arith)) ∙ ports at d (let fewer = are.fewer in omega arith)
