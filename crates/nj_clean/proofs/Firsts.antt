-- The first pads of steps, one frame after another.
use Rattle.std.proofs.Common.{◌≡◌, ℕ, zero, suc, ◌+◌, ◌-◌, ◌<◌, List, [], ◌∷◌, ◌++◌, length, drop, get_or, refl, ap, ap₂, sym, ◌∙◌, arith, append_assoc}
use Rattle.std.proofs.Math.Seq.{drop-cons}
use Rattle.nj_replay.specs.Reading.{first_from}

-- a step begins
pub step_begins : (word : List ℕ) (hold left pad : ℕ) (rest : List ℕ) → left ≡ 0
    → (word ++ pad ∷ []) ++ first_from hold (hold - 1) rest ≡ word ++ first_from hold left (pad ∷ rest)
step_begins word hold zero pad rest e = append_assoc word (pad ∷ []) (first_from hold (hold - 1) rest)
step_begins word hold (suc n) pad rest e = absurd (omega arith)

-- a step goes on
pub step_goes_on : (word : List ℕ) (hold left pad : ℕ) (rest : List ℕ) → 0 < left
    → word ++ first_from hold (left - 1) rest ≡ word ++ first_from hold left (pad ∷ rest)
step_goes_on word hold zero pad rest h = absurd (omega arith)
step_goes_on word hold (suc n) pad rest h =
    ap (λ m. word ++ first_from hold m rest) (let e : suc n - 1 ≡ n = omega arith in e)

-- the elements from one on
pub drop_next : (xs : List ℕ) (i x : ℕ) → i < length xs → x ≡ get_or xs i x → drop i xs ≡ x ∷ drop (i + 1) xs
drop_next xs i x h e =
    drop-cons xs i x h ∙ ap₂ (λ y n. y ∷ drop n xs) (sym e) (let next : suc i ≡ i + 1 = omega arith in next)
