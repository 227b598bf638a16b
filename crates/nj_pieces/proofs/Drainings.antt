-- What an owner has taken of what was left in its deque.
use Rattle.std.proofs.Common.{◌≡◌, ℕ, ◌+◌, ◌-◌, ◌<◌, ◌≤◌, List, [], ◌∷◌, ◌++◌, length, refl, ap, ◌∙◌, arith, length-append, Global}
use Rattle.std.specs.Prelude.{Vec, vec_len, vec_capacity}
use Rattle.std.specs.List.{sum_by}
use Rattle.std.proofs.lemmas.List.Sums.{sum_by-cons}
use Rattle.crossbeam_deque.specs.Handles.{worker_flavor, worker_port, worker_view}
use Rattle.nj_pieces.specs.declared.rule.Tally.{Tally}
use Rattle.nj_pieces.specs.Tallies.{with_piece}
use Rattle.nj_pieces.specs.Takers.{Owner}

-- a length is a sum of ones
pub length-sum_by : (xs : List ℕ) → sum_by (λ _. 1) xs ≡ length xs
length-sum_by [] = refl
length-sum_by (x ∷ xs) = sum_by-cons (λ _. 1) x xs ∙ (let rest = length-sum_by xs in omega arith)

-- the owner's pass has changed in its list alone, by the pieces that went to the vector
pub record IsDraining (first owner : Owner) (before left : Vec ℕ Global) : Type 0 where
  pub flavor : worker_flavor owner ≡ worker_flavor first
  pub port : worker_port owner ≡ worker_port first
  pub view_is : worker_view owner ≡ record (worker_view first) { taken = (worker_view owner).taken }
  pub weights : (h : ℕ → ℕ) → sum_by h left.items + sum_by h (worker_view first).taken
      ≡ sum_by h before.items + sum_by h (worker_view owner).taken
  pub capacity : vec_capacity left ≡ vec_capacity before
  pub started : 0 < (worker_view first).ends → left.items ≡ before.items

-- there is room for a piece more, and fewer are left after it
pub room_for : (first owner : Owner) (before left : Vec ℕ Global) (p : ℕ) → IsDraining first owner before left
    → vec_len before + length (worker_view first).dealt ≤ vec_capacity before + length (worker_view first).taken
    → ((h : ℕ → ℕ) → sum_by h (worker_view owner).taken + h p ≤ sum_by h (worker_view owner).dealt)
    → vec_len left < vec_capacity left
room_for first owner before left p is room most =
    let one = most (λ _. 1) in
    let balance = is.weights (λ _. 1) in
    let dealt : length (worker_view owner).dealt ≡ length (worker_view first).dealt =
    ap (λ v. length v.dealt) is.view_is in
    let a : vec_len left ≡ length left.items = left.ok.0 in
    let b : vec_len before ≡ length before.items = before.ok.0 in
    let c = is.capacity in
    omega (
      arith,
      length-sum_by (worker_view owner).dealt,
      length-sum_by (worker_view owner).taken,
      length-sum_by (worker_view first).taken,
      length-sum_by left.items,
      length-sum_by before.items,
    )

pub fewer_left : (v w : Tally) (p : ℕ) → w ≡ with_piece v p → ((h : ℕ → ℕ) → sum_by h v.taken + h p ≤ sum_by h v.dealt)
    → length w.dealt - length w.taken < length v.dealt - length v.taken
fewer_left v w p now most =
    let one = most (λ _. 1) in
    let taken : length w.taken ≡ length (v.taken ++ p ∷ []) = ap (λ u. length u.taken) now in
    let dealt : length w.dealt ≡ length v.dealt = ap (λ u. length u.dealt) now in
    omega (arith, length-sum_by v.dealt, length-sum_by v.taken, length-append v.taken (p ∷ []))
