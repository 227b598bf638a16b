-- Two pages are compared lane by lane.
use Rattle.std.proofs.Common.{◌≡◌, ℕ, ◌+◌, ◌-◌, ◌*◌, ◌%◌, ◌^◌, Bool, true, false, not, ◌&&◌, cond, List, [], ◌∷◌, map, length, take, refl, sym, ap, ◌∙◌, arith}
use Rattle.std.proofs.lemmas.List.{take_all}
use Rattle.std.proofs.lemmas.Simd.{tops_compared, mask_l-mod, length-zip2}
use Rattle.std.proofs.lemmas.Bool.{ne_eqb, eqb-true, eqb-false}
use Rattle.std.specs.Prelude.{nat_eq}
use Rattle.std.specs.Str.{bytes_eq}
use Rattle.std.specs.Simd.Lanes.{mask_l, zip2}
use mir.Syntax.{w8}
use lib.Lanes.{top}

-- whether two lanes differ
abbrev other : ℕ → ℕ → Bool
other a b = not (nat_eq a b)

twice-zero : (n : ℕ) → nat_eq (0 + 2 * n) 0 ≡ nat_eq n 0
twice-zero n = go (nat_eq n 0) refl
  where
    go : (b : Bool) → nat_eq n 0 ≡ b → nat_eq (0 + 2 * n) 0 ≡ b
    go true e = ap (λ k. nat_eq (0 + 2 * k) 0) (eqb-true n 0 e)
    go false e = ne_eqb _ _ (λ h. eqb-false n 0 e (omega (arith, h)))

odd-some : (n : ℕ) → nat_eq (1 + 2 * n) 0 ≡ false
odd-some n = ne_eqb _ _ (λ h. omega (arith, h))

first-other : (b : Bool) (n : ℕ) (rest : Bool) → nat_eq n 0 ≡ rest → nat_eq (cond (not b) 1 0 + 2 * n) 0 ≡ (b && rest)
first-other true n rest is = twice-zero n ∙ is
first-other false n rest is = odd-some n

-- no lane differs where the lists are the same
none-other : (xs ys : List ℕ) → length xs ≡ length ys → nat_eq (mask_l (zip2 other xs ys)) 0 ≡ bytes_eq xs ys
none-other [] [] same = refl
none-other [] (y ∷ ys) same = absurd (omega (arith, same))
none-other (x ∷ xs) [] same = absurd (omega (arith, same))
none-other (x ∷ xs) (y ∷ ys) same = first-other (nat_eq x y) _ _ (none-other xs ys (omega (arith, same)))

-- the comparison of two pages of 64 lanes
pub lanes-differ : (xs ys : List ℕ) → length xs ≡ 64 → length ys ≡ 64 →
    not (nat_eq (mask_l (map (top 7) (zip2 (λ a b. cond (other a b) (2 ^ 8 - 1) 0) (take 64 xs) (take 64 ys))) % 2
    ^ 64) 0) ≡ not (bytes_eq xs ys)
lanes-differ xs ys first second =
    ap (λ (l : List ℕ). not (nat_eq (mask_l (map (top 7) (zip2 (λ a b. cond (other a b) (2 ^ 8 - 1) 0) l (take 64 ys)))
    % 2 ^ 64) 0)) (take_all 64 xs (omega (arith, first)))
    ∙ (ap (λ (l : List ℕ). not (nat_eq (mask_l (map (top 7) (zip2 (λ a b. cond (other a b) (2 ^ 8 - 1) 0) xs l)) % 2
    ^ 64) 0)) (take_all 64 ys (omega (arith, second)))
    ∙ (ap (λ (l : List Bool). not (nat_eq (mask_l l % 2 ^ 64) 0)) (tops_compared w8 other xs ys)
    ∙ (ap (λ n. not (nat_eq n 0))
    (mask_l-mod (zip2 other xs ys) 64 (omega (arith, length-zip2 other xs ys (first ∙ sym second), first)))
    ∙ ap not (none-other xs ys (first ∙ sym second)))))
