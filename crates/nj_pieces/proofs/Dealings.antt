-- What a deal has done after one more piece, and that all workers' pieces are the pieces below the count.
use Rattle.std.proofs.Common.{◌≡◌, ℕ, zero, suc, ◌+◌, ◌%◌, ◌==◌, ◌≢◌, ⊎_elim, Bool, false, List, [], ◌∷◌, ◌++◌, refl, ap, ◌∙◌, arith, if◌then◌else◌}
use Rattle.std.specs.List.{filter, range_with_len}
use Rattle.std.proofs.lemmas.Bool.{eq-eqb}
use Rattle.std.proofs.lemmas.Bool.Decides.{eqb_tells}
use Rattle.std.proofs.lemmas.List.Elements.{filter-append}
use Rattle.nj_pieces.specs.Dealing.{dealt_to}

-- a range of one number more
pub range_more : (a n : ℕ) → range_with_len a (n + 1) ≡ range_with_len a n ++ (a + n) ∷ []
range_more a zero = ap (λ (k : ℕ). k ∷ []) (let e : a ≡ a + 0 = omega arith in e)
range_more a (suc n) =
    let longer : suc n + 1 ≡ suc (n + 1) = omega arith in
    let same : a + 1 + n ≡ a + suc n = omega arith in
    ap (range_with_len a) longer
    ∙ ap (λ xs. a ∷ xs) (range_more (a + 1) n ∙ ap (λ (k : ℕ). range_with_len (a + 1) n ++ k ∷ []) same)

-- the pieces of a worker below one more
pub dealt_more : (number workers count : ℕ) → dealt_to number workers (count + 1)
    ≡ dealt_to number workers count ++ (if count % workers == number then count ∷ [] else [])
dealt_more number workers count =
    let test : ℕ → Bool = λ p. p % workers == number in
    let same : 0 + count ≡ count = omega arith in
    ap (filter test) (range_more 0 count ∙ ap (λ (k : ℕ). range_with_len 0 count ++ k ∷ []) same)
    ∙ filter-append test (range_with_len 0 count) (count ∷ [])

-- a piece that is the worker's comes behind them, and another changes nothing
pub dealt_here : (number workers count : ℕ) → count % workers ≡ number
    → dealt_to number workers (count + 1) ≡ dealt_to number workers count ++ count ∷ []
dealt_here number workers count mine = dealt_more number workers count ∙ ap (λ (b : Bool).
    dealt_to number workers count ++ (if b then count ∷ [] else [])) (eq-eqb (count % workers) number mine)

pub dealt_else : (number workers count : ℕ) → count % workers ≢ number
    → dealt_to number workers (count + 1) ≡ dealt_to number workers count
dealt_else number workers count other =
    let differs : (count % workers == number) ≡ false =
    ⊎_elim (λ same. absurd (other same.1)) (λ not_same. not_same.0) (eqb_tells (count % workers) number) in
    dealt_more number workers count
    ∙ ap (λ (b : Bool). dealt_to number workers count ++ (if b then count ∷ [] else [])) differs
    ∙ append_none (dealt_to number workers count) where
      append_none : (xs : List ℕ) → xs ++ [] ≡ xs
      append_none [] = refl
      append_none (x ∷ xs) = ap (λ ys. x ∷ ys) (append_none xs)
