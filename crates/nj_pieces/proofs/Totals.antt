-- Numbers of all passes added up, after a change of one pass.
use Rattle.std.proofs.Common.{◌≡◌, ◌≢◌, ℕ, zero, suc, ◌+◌, ◌<◌, ◌≤◌, List, [], ◌∷◌, ◌++◌, set, sym, refl, ap, ◌∙◌, subst, ⊎_elim, arith}
use mathlib.Core.Option.{some, some-ne-none, some-injective}
use lib.ListN.{get_elem?}
use Rattle.crossbeam_deque.proofs.Lists.{at_set, at_snoc}
use Rattle.nj_pieces.specs.declared.rule.Tally.{Tally}
use Rattle.nj_pieces.specs.Rule.{total, root_of}

-- the fact holds of each pass, by its number
abbrev pub Each : (ℕ → Tally → Type 0) → List Tally → Type 0
Each F views = (port : ℕ) (v : Tally) → get_elem? views port ≡ some v → F port v

-- of each pass after a change of one
pub each_set : (F : ℕ → Tally → Type 0) (views : List Tally) (port : ℕ) (w : Tally) → F port w
    → ((j : ℕ) (u : Tally) → j ≢ port → get_elem? views j ≡ some u → F j u) → Each F (set views port w)
each_set F views port w mine others j u e =
    ⊎_elim (λ (x : (j ≡ port) × (w ≡ u)). subst (λ (y : ℕ × Tally). F y.0 y.1) (λ i. (sym x.0 i, x.1 i)) mine)
    (λ (x : (j ≢ port) × (get_elem? views j ≡ some u)). others j u x.0 x.1) (at_set views port j w u e)

-- of each pass where one more came
pub each_snoc : (F : Tally → Type 0) (views : List Tally) (w : Tally) → Each (λ _ v. F v) views → F w
    → Each (λ _ v. F v) (views ++ w ∷ [])
each_snoc F views w all new j u e =
    ⊎_elim (λ (x : get_elem? views j ≡ some u). all j u x) (λ (x : w ≡ u). subst F x new) (at_snoc views w u j e)

-- the total after a change of one pass
pub total_set : (f : Tally → ℕ) (views : List Tally) (port : ℕ) (v w : Tally) → get_elem? views port ≡ some v
    → total f (set views port w) + f v ≡ total f views + f w
total_set f [] port v w e = absurd (some-ne-none v (sym e))
total_set f (x ∷ xs) zero v w e = let same : f x ≡ f v = ap f (some-injective x v e) in omega arith
total_set f (x ∷ xs) (suc port) v w e = let rest = total_set f xs port v w e in omega arith

-- the total where one more came
pub total_snoc : (f : Tally → ℕ) (views : List Tally) (w : Tally) → total f (views ++ w ∷ []) ≡ total f views + f w
total_snoc f [] w = omega arith
total_snoc f (x ∷ xs) w = let rest = total_snoc f xs w in omega arith

-- one pass has no more than all
pub total_has : (f : Tally → ℕ) (views : List Tally) (port : ℕ) (v : Tally) → get_elem? views port ≡ some v
    → f v ≤ total f views
total_has f [] port v e = absurd (some-ne-none v (sym e))
total_has f (x ∷ xs) zero v e = let same : f x ≡ f v = ap f (some-injective x v e) in omega arith
total_has f (x ∷ xs) (suc port) v e = let rest = total_has f xs port v e in omega arith

-- where each pass has no more of the one than of the other, and one pass has less, so have all
pub total_less : (f g : Tally → ℕ) (views : List Tally) → Each (λ _ v. f v ≤ g v) views → (port : ℕ) (v : Tally)
    → get_elem? views port ≡ some v
    → total f views + g v ≤ total g views + f v
total_less f g [] all port v e = absurd (some-ne-none v (sym e))
total_less f g (x ∷ xs) all zero v e =
    let one : f x ≡ f v = ap f (some-injective x v e) in
    let two : g x ≡ g v = ap g (some-injective x v e) in
    let rest = total_most xs (λ port. all (suc port)) in omega arith where
      total_most : (xs : List Tally) → Each (λ _ v. f v ≤ g v) xs → total f xs ≤ total g xs
      total_most [] every = omega arith
      total_most (y ∷ ys) every =
          let here = every 0 y refl in let rest = total_most ys (λ port. every (suc port)) in omega arith
total_less f g (x ∷ xs) all (suc port) v e =
    let here = all 0 x refl in
    let rest = total_less f g xs (λ k. all (suc k)) port v e in omega arith

-- where no pass has any of the one, and who has none of it has none of the other, no pass has any of the other
pub total_none : (f g : Tally → ℕ) (views : List Tally) → total f views ≡ 0 → Each (λ _ v. f v ≡ 0 → g v ≡ 0) views
    → total g views ≡ 0
total_none f g [] none all = refl
total_none f g (x ∷ xs) none all =
    let here = all 0 x refl (omega arith) in
    let rest = total_none f g xs (omega arith) (λ k. all (suc k)) in omega arith

-- the first pass is the owner's
pub root_is : (views : List Tally) (v : Tally) → get_elem? views 0 ≡ some v → root_of views ≡ v
root_is [] v e = absurd (some-ne-none v (sym e))
root_is (x ∷ xs) v e = some-injective x v e

pub root_set : (views : List Tally) (v w : Tally) → get_elem? views 0 ≡ some v → root_of (set views 0 w) ≡ w
root_set [] v w e = absurd (some-ne-none v (sym e))
root_set (x ∷ xs) v w e = refl

-- it stays with a change of another
pub root_else : (views : List Tally) (port : ℕ) (w : Tally) → 0 < port → root_of (set views port w) ≡ root_of views
root_else [] port w later = refl
root_else (x ∷ xs) zero w later = absurd (omega arith)
root_else (x ∷ xs) (suc port) w later = refl

pub root_snoc : (views : List Tally) (v w : Tally) → get_elem? views 0 ≡ some v
    → root_of (views ++ w ∷ []) ≡ root_of views
root_snoc [] v w e = absurd (some-ne-none v (sym e))
root_snoc (x ∷ xs) v w e = refl

-- what a change of any pass keeps of it, it keeps of the owner's
pub root_keeps : {X : Type 0} (f : Tally → X) (views : List Tally) (port : ℕ) (v w : Tally)
    → get_elem? views port ≡ some v → f w ≡ f v
    → f (root_of (set views port w)) ≡ f (root_of views)
root_keeps f [] port v w e same = absurd (some-ne-none v (sym e))
root_keeps f (x ∷ xs) zero v w e same = same ∙ ap f (sym (some-injective x v e))
root_keeps f (x ∷ xs) (suc port) v w e same = refl
