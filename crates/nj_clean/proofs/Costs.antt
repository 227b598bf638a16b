-- The frames of a step's tries, of a sweep and of all sweeps.
use Rattle.std.proofs.Common.{◌≡◌, ℕ, ◌+◌, ◌-◌, ◌*◌, ◌<◌, ◌≤◌, ap, sym, ◌∙◌, subst, arith}

-- a product rises with its factor
mul_up : (a b c : ℕ) → b ≤ c → a * b ≤ a * c
mul_up a b c h =
    let whole : c ≡ b + (c - b) = omega (arith, h) in
    let parts : a * (b + (c - b)) ≡ a * b + a * (c - b) = grind arith in
    let P : ℕ → Type 0 = λ n. a * b ≤ a * n in
    subst P (sym whole) (omega (arith, parts))

-- to the step and then its tries, all of them within so many runs of the whole word
pub step_cost : (hold n at_ step b : ℕ) → at_ ≤ step → step ≤ n → 1 ≤ b
    → hold * (step - at_) + hold * (n - step) * b ≤ hold * n * b
step_cost hold n at_ step b order within some =
    let whole : n ≡ step + (n - step) = omega (arith, within) in
    let parts : hold * n * b ≡ hold * step * b + hold * (n - step) * b =
    ap (λ x. hold * x * b) whole
    ∙ (let e : hold * (step + (n - step)) * b ≡ hold * step * b + hold * (n - step) * b = grind arith in e) in
    let low : hold * (step - at_) ≤ hold * step = mul_up hold (step - at_) step (omega arith) in
    let more : hold * step * 1 ≤ hold * step * b = mul_up (hold * step) 1 b some in
    omega (arith, parts, low, more)

-- one more step of a sweep
pub sweep_on : (size left b next s t w : ℕ) → left ≡ b + next → s + size * left ≤ w → t ≤ s + size * b
    → t + size * next ≤ w
sweep_on size left b next s t w e so_far now =
    let parts : size * left ≡ size * b + size * next =
    ap (λ x. size * x) e ∙ (let f : size * (b + next) ≡ size * b + size * next = grind arith in f) in
    omega (arith, parts, so_far, now)

-- one more sweep, which released a press
pub sweeps_on : (size p q r s t w : ℕ) → r < q → q ≤ p → s ≤ w + size * p * (p - q) → t ≤ s + size * q
    → t ≤ w + size * p * (p - r)
sweeps_on size p q r s t w fewer within so_far now =
    let most : size * q ≤ size * p = mul_up size q p within in
    let rises : size * p * ((p - q) + 1) ≤ size * p * (p - r) = mul_up (size * p) ((p - q) + 1) (p - r) (omega arith) in
    let parts : size * p * ((p - q) + 1) ≡ size * p * (p - q) + size * p = grind arith in
    omega (arith, most, rises, parts, so_far, now)

-- the last sweep
pub sweeps_end : (size p q s t w : ℕ) → q ≤ p → s ≤ w + size * p * (p - q) → t ≤ s + size * q
    → t ≤ w + size * p * (p + 1)
sweeps_end size p q s t w within so_far now =
    let most : size * q ≤ size * p = mul_up size q p within in
    let rises : size * p * (p - q) ≤ size * p * p = mul_up (size * p) (p - q) p (omega arith) in
    let parts : size * p * (p + 1) ≡ size * p * p + size * p = grind arith in
    omega (arith, most, rises, parts, so_far, now)

-- the start, all sweeps and the replay before them
pub whole_cost : (start behind p : ℕ) → 1 ≤ p
    → start + behind * p * (p + 1) + (start + behind) ≤ (start + behind) * (1 + p * (p + 1))
whole_cost start behind p some =
    let one : 1 * (p + 1) ≤ p * (p + 1) =
    (let up : (p + 1) * 1 ≤ (p + 1) * p = mul_up (p + 1) 1 p some in
    let turned : (p + 1) * p ≡ p * (p + 1) = grind arith in omega (arith, up, turned)) in
    let low : start * 1 ≤ start * (p * (p + 1)) = mul_up start 1 (p * (p + 1)) (omega (arith, one)) in
    let parts : (start + behind) * (1 + p * (p + 1)) ≡ start + behind + start * (p * (p + 1)) + behind * p * (p + 1) =
    grind arith in
    omega (arith, low, parts)

-- no sweep
pub no_cost : (size p : ℕ) → p ≡ 0 → size ≤ size * (1 + p * (p + 1))
no_cost size p e =
    let parts : size * (1 + p * (p + 1)) ≡ size + size * (p * (p + 1)) = grind arith in
    omega (arith, parts)
