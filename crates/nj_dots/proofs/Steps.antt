-- Coarse X and Y, step by step.
use Rattle.std.proofs.Common.{◌≡◌, ℕ, zero, suc, ◌+◌, ◌-◌, ◌*◌, ◌/◌, ◌%◌, ◌<◌, ◌≤◌, ap, ◌∙◌, arith, inl, inr}
use Rattle.std.proofs.lemmas.Bool.{cases_lt, eq-eqb, ne_eqb}
use Rattle.nj_dots.specs.Scroll.{next_column, next_row, next_tile_row}
use Rattle.nj_dots.specs.Laws.{repeated, other_across, other_down}
use Rattle.nj_dots.proofs.Moving.{if-true, if-false}

-- v of its parts: what lies above bit 10, bit 10, coarse Y, coarse X
unfoldable across : ℕ → ℕ → ℕ → ℕ → ℕ
across q n y x = q * 2048 + n * 1024 + y * 32 + x

-- a step inside the nametable
column-inside : (q n y x : ℕ) → n < 2 → y < 32 → x < 31 → next_column (across q n y x) ≡ across q n y (suc x)
unfolding next_column across
column-inside q n y x hn hy hx =
    let apart : (q * 2048 + n * 1024 + y * 32 + x) % 32 ≡ 31 → ⊥ = λ at. (absurd (omega (arith, at, hx))) in
    if-false _ _ _ (ne_eqb _ _ apart) ∙ omega arith

-- the step out of it
column-out : (q n y x : ℕ) → n < 2 → y < 32 → x ≡ 31 → next_column (across q n y x) ≡ across q (1 - n) y 0
unfolding next_column across
column-out q n y x hn hy hx =
    let at : (q * 2048 + n * 1024 + y * 32 + x) % 32 ≡ 31 = omega (arith, hx) in
    if-true _ _ _ (eq-eqb _ _ at) ∙ omega (arith, hx, hn, hy)

-- k steps
record Across (k q n y x : ℕ) : Type 0 where
  inside : x + k < 32 → repeated k next_column (across q n y x) ≡ across q n y (x + k)
  out : 32 ≤ x + k → repeated k next_column (across q n y x) ≡ across q (1 - n) y (x + k - 32)

across-steps : (k q n y x : ℕ) → n < 2 → y < 32 → x < 32 → k ≤ 32 → Across k q n y x
unfolding repeated
across-steps zero q n y x hn hy hx hk = record {
  inside = λ h. ap (across q n y) (omega arith);
  out = λ h. absurd (omega (arith, h, hx));
}
across-steps (suc k) q n y x hn hy hx hk =
    let before : Across k q n y x = across-steps k q n y x hn hy hx (omega (arith, hk)) in
    record {
      inside = λ h. ap next_column (before.inside (omega (arith, h)))
          ∙ column-inside q n y (x + k) hn hy (omega (arith, h)) ∙ ap (across q n y) (omega arith);
      out = λ h. (elim (cases_lt (x + k) 32) [
        | inl last ↦
            ap next_column (before.inside last) ∙ column-out q n y (x + k) hn hy (omega (arith, h, last))
            ∙ ap (across q (1 - n) y) (omega (arith, h, last))
        | inr past ↦
            ap next_column (before.out past)
            ∙ column-inside q (1 - n) y (x + k - 32) (omega (arith, hn)) hy (omega (arith, hx, hk, past))
            ∙ ap (across q (1 - n) y) (omega (arith, past))
      ]);
    }

-- 32 of them come back to the column, in the other nametable
pub repeated-next_column : (v : ℕ) → repeated 32 next_column v ≡ other_across v
unfolding across other_across
repeated-next_column v =
    let parts : v ≡ across (v / 2048) (v / 1024 % 2) (v / 32 % 32) (v % 32) = omega arith in
    let all : Across 32 (v / 2048) (v / 1024 % 2) (v / 32 % 32) (v % 32) =
    across-steps 32 _ _ _ _ (omega arith) (omega arith) (omega arith) (omega arith) in
    ap (repeated 32 next_column) parts ∙ all.out (omega arith) ∙ omega arith

-- v of its parts: line of 240, bit 11, bit 10, coarse X
unfoldable down : ℕ → ℕ → ℕ → ℕ → ℕ
down n m x r = r % 8 * 4096 + n * 2048 + m * 1024 + r / 8 * 32 + x

-- a step inside a tile
row-fine : (n m x r : ℕ) → n < 2 → m < 2 → x < 32 → r < 240 → r % 8 < 7 → next_row (down n m x r) ≡ down n m x (suc r)
unfolding next_row down
row-fine n m x r hn hm hx hr fine =
    let high : (r % 8 * 4096 + n * 2048 + m * 1024 + r / 8 * 32 + x) / 4096 % 8 ≡ r % 8 =
    omega (arith, hn, hm, hx, hr) in
    let apart : (r % 8 * 4096 + n * 2048 + m * 1024 + r / 8 * 32 + x) / 4096 % 8 ≡ 7 → ⊥ =
    λ at. (absurd (omega (arith, at, high, fine))) in
    if-false _ _ _ (ne_eqb _ _ apart) ∙ omega (arith, fine)

-- the step to the next tile
row-coarse : (n m x r : ℕ) → n < 2 → m < 2 → x < 32 → r < 239 → r % 8 ≡ 7 → next_row (down n m x r) ≡ down n m x (suc r)
unfolding next_row next_tile_row down
row-coarse n m x r hn hm hx hr fine =
    let high : (r % 8 * 4096 + n * 2048 + m * 1024 + r / 8 * 32 + x) / 4096 % 8 ≡ 7 =
    omega (arith, hn, hm, hx, hr, fine) in
    let coarse : (r % 8 * 4096 + n * 2048 + m * 1024 + r / 8 * 32 + x) / 32 % 32 ≡ r / 8 =
    omega (arith, hn, hm, hx, hr, fine) in
    let not_29 : (r % 8 * 4096 + n * 2048 + m * 1024 + r / 8 * 32 + x) / 32 % 32 ≡ 29 → ⊥ =
    λ at. (absurd (omega (arith, at, coarse, hr, fine))) in
    let not_31 : (r % 8 * 4096 + n * 2048 + m * 1024 + r / 8 * 32 + x) / 32 % 32 ≡ 31 → ⊥ =
    λ at. (absurd (omega (arith, at, coarse, hr, fine))) in
    if-true _ _ _ (eq-eqb _ _ high) ∙ if-false _ _ _ (ne_eqb _ _ not_29) ∙ if-false _ _ _ (ne_eqb _ _ not_31)
    ∙ omega (arith, hn, hm, hx, hr, fine)

-- the step out of the nametable
row-out : (n m x r : ℕ) → n < 2 → m < 2 → x < 32 → r ≡ 239 → next_row (down n m x r) ≡ down (1 - n) m x 0
unfolding next_row next_tile_row down
row-out n m x r hn hm hx hr =
    let high : (r % 8 * 4096 + n * 2048 + m * 1024 + r / 8 * 32 + x) / 4096 % 8 ≡ 7 = omega (arith, hn, hm, hx, hr) in
    let coarse : (r % 8 * 4096 + n * 2048 + m * 1024 + r / 8 * 32 + x) / 32 % 32 ≡ 29 = omega (arith, hn, hm, hx, hr) in
    if-true _ _ _ (eq-eqb _ _ high) ∙ if-true _ _ _ (eq-eqb _ _ coarse) ∙ omega (arith, hn, hm, hx, hr)

-- a step inside the nametable
row-inside : (n m x r : ℕ) → n < 2 → m < 2 → x < 32 → r < 239 → next_row (down n m x r) ≡ down n m x (suc r)
row-inside n m x r hn hm hx hr = elim (cases_lt (r % 8) 7) [
  | inl fine ↦ row-fine n m x r hn hm hx (omega (arith, hr)) fine
  | inr last ↦ row-coarse n m x r hn hm hx hr (omega (arith, last))
]

-- k steps
record Down (k n m x r : ℕ) : Type 0 where
  inside : r + k < 240 → repeated k next_row (down n m x r) ≡ down n m x (r + k)
  out : 240 ≤ r + k → repeated k next_row (down n m x r) ≡ down (1 - n) m x (r + k - 240)

down-steps : (k n m x r : ℕ) → n < 2 → m < 2 → x < 32 → r < 240 → k ≤ 240 → Down k n m x r
unfolding repeated
down-steps zero n m x r hn hm hx hr hk = record {
  inside = λ h. ap (down n m x) (omega arith);
  out = λ h. absurd (omega (arith, h, hr));
}
down-steps (suc k) n m x r hn hm hx hr hk =
    let before : Down k n m x r = down-steps k n m x r hn hm hx hr (omega (arith, hk)) in
    record {
      inside = λ h. ap next_row (before.inside (omega (arith, h)))
          ∙ row-inside n m x (r + k) hn hm hx (omega (arith, h)) ∙ ap (down n m x) (omega arith);
      out = λ h. (elim (cases_lt (r + k) 240) [
        | inl last ↦
            ap next_row (before.inside last) ∙ row-out n m x (r + k) hn hm hx (omega (arith, h, last))
            ∙ ap (down (1 - n) m x) (omega (arith, h, last))
        | inr past ↦
            ap next_row (before.out past)
            ∙ row-inside (1 - n) m x (r + k - 240) (omega (arith, hn)) hm hx (omega (arith, hr, hk, past))
            ∙ ap (down (1 - n) m x) (omega (arith, past))
      ]);
    }

-- 240 of them come back to the line, in the other nametable
pub repeated-next_row : (v : ℕ) → v < 32768 → v / 32 % 32 ≤ 29 → repeated 240 next_row v ≡ other_down v
unfolding down other_down
repeated-next_row v fits coarse =
    let parts : v ≡ down (v / 2048 % 2) (v / 1024 % 2) (v % 32) (v / 32 % 32 * 8 + v / 4096) = omega (arith, fits) in
    let all : Down 240 (v / 2048 % 2) (v / 1024 % 2) (v % 32) (v / 32 % 32 * 8 + v / 4096) =
    down-steps 240 _ _ _ _ (omega arith) (omega arith) (omega arith) (omega (arith, fits, coarse)) (omega arith) in
    ap (repeated 240 next_row) parts ∙ all.out (omega arith) ∙ omega (arith, fits, coarse)
