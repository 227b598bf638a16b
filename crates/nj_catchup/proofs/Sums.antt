-- Dots after dots.
use Rattle.std.proofs.Common.{◌≡◌, ℕ, zero, suc, ◌+◌, List, refl, ap, sym, ◌∙◌, arith}
use Rattle.nj_dots.specs.declared.screen.Screen.{Screen}
use Rattle.nj_dots.specs.Dots.{dot_of, after_dots}

-- n dots and then m more
pub dots-add : (m n : ℕ) (p : List ℕ) (s : Screen) → after_dots (m + n) p s ≡ after_dots m p (after_dots n p s)
unfolding after_dots
dots-add zero n p s = let e : zero + n ≡ n = omega arith in ap (λ k. after_dots k p s) e
dots-add (suc m) n p s =
    let e : suc m + n ≡ suc (m + n) = omega arith in
    ap (λ k. after_dots k p s) e ∙ ap (dot_of p) (dots-add m n p s)

-- the same by the whole count
pub dots-sum : (k m n : ℕ) (p : List ℕ) (s : Screen) → k ≡ m + n → after_dots m p (after_dots n p s) ≡ after_dots k p s
dots-sum k m n p s e = sym (dots-add m n p s) ∙ ap (λ i. after_dots i p s) (sym e)

-- no dot, and one
pub dots-none : (p : List ℕ) (s : Screen) → after_dots 0 p s ≡ s
unfolding after_dots
dots-none p s = refl

pub dots-one : (p : List ℕ) (s : Screen) → after_dots 1 p s ≡ dot_of p s
unfolding after_dots
dots-one p s = refl

pub dots-zero : (n : ℕ) (p : List ℕ) (s : Screen) → n ≡ 0 → after_dots n p s ≡ s
dots-zero n p s none = ap (λ k. after_dots k p s) none ∙ dots-none p s
