-- The bits of a reversed byte, one by one.
use Rattle.std.proofs.Common.{◌≡◌, ℕ, zero, suc, ◌+◌, ◌-◌, ◌*◌, ◌/◌, ◌%◌, ◌^◌, ◌<◌, ◌∙◌, arith}
use Rattle.nj_sprite0.specs.Sprite.{reversed}

-- eight bits, lowest first, as one number
abbrev eight : ℕ → ℕ → ℕ → ℕ → ℕ → ℕ → ℕ → ℕ → ℕ
eight a b c d e f g h = h * 128 + g * 64 + f * 32 + e * 16 + d * 8 + c * 4 + b * 2 + a

-- each of them, read again
bit0 : (a b c d e f g h : ℕ) → a < 2 → b < 2 → c < 2 → d < 2 → e < 2 → f < 2 → g < 2 → h < 2 → eight a b c d e f g h / 1 % 2 ≡ a
bit0 a b c d e f g h ha hb hc hd he hf hg hh = omega arith

bit1 : (a b c d e f g h : ℕ) → a < 2 → b < 2 → c < 2 → d < 2 → e < 2 → f < 2 → g < 2 → h < 2 → eight a b c d e f g h / 2 % 2 ≡ b
bit1 a b c d e f g h ha hb hc hd he hf hg hh = omega arith

bit2 : (a b c d e f g h : ℕ) → a < 2 → b < 2 → c < 2 → d < 2 → e < 2 → f < 2 → g < 2 → h < 2 → eight a b c d e f g h / 4 % 2 ≡ c
bit2 a b c d e f g h ha hb hc hd he hf hg hh = omega arith

bit3 : (a b c d e f g h : ℕ) → a < 2 → b < 2 → c < 2 → d < 2 → e < 2 → f < 2 → g < 2 → h < 2 → eight a b c d e f g h / 8 % 2 ≡ d
bit3 a b c d e f g h ha hb hc hd he hf hg hh = omega arith

bit4 : (a b c d e f g h : ℕ) → a < 2 → b < 2 → c < 2 → d < 2 → e < 2 → f < 2 → g < 2 → h < 2 → eight a b c d e f g h / 16 % 2 ≡ e
bit4 a b c d e f g h ha hb hc hd he hf hg hh = omega arith

bit5 : (a b c d e f g h : ℕ) → a < 2 → b < 2 → c < 2 → d < 2 → e < 2 → f < 2 → g < 2 → h < 2 → eight a b c d e f g h / 32 % 2 ≡ f
bit5 a b c d e f g h ha hb hc hd he hf hg hh = omega arith

bit6 : (a b c d e f g h : ℕ) → a < 2 → b < 2 → c < 2 → d < 2 → e < 2 → f < 2 → g < 2 → h < 2 → eight a b c d e f g h / 64 % 2 ≡ g
bit6 a b c d e f g h ha hb hc hd he hf hg hh = omega arith

bit7 : (a b c d e f g h : ℕ) → a < 2 → b < 2 → c < 2 → d < 2 → e < 2 → f < 2 → g < 2 → h < 2 → eight a b c d e f g h / 128 % 2 ≡ h
bit7 a b c d e f g h ha hb hc hd he hf hg hh = omega arith

-- a bit of the reversed byte is the one as far from the other end
pub reversed-bit : (b k : ℕ) → k < 8 → reversed b / 2 ^ k % 2 ≡ b / 2 ^ (7 - k) % 2
unfolding reversed
reversed-bit b zero below = bit0 (b / 128 % 2) (b / 64 % 2) (b / 32 % 2) (b / 16 % 2) (b / 8 % 2) (b / 4 % 2) (b / 2 % 2) (b % 2) (omega arith) (omega arith) (omega arith) (omega arith) (omega arith) (omega arith) (omega arith) (omega arith)
reversed-bit b (suc zero) below = bit1 (b / 128 % 2) (b / 64 % 2) (b / 32 % 2) (b / 16 % 2) (b / 8 % 2) (b / 4 % 2) (b / 2 % 2) (b % 2) (omega arith) (omega arith) (omega arith) (omega arith) (omega arith) (omega arith) (omega arith) (omega arith)
reversed-bit b (suc (suc zero)) below = bit2 (b / 128 % 2) (b / 64 % 2) (b / 32 % 2) (b / 16 % 2) (b / 8 % 2) (b / 4 % 2) (b / 2 % 2) (b % 2) (omega arith) (omega arith) (omega arith) (omega arith) (omega arith) (omega arith) (omega arith) (omega arith)
reversed-bit b (suc (suc (suc zero))) below = bit3 (b / 128 % 2) (b / 64 % 2) (b / 32 % 2) (b / 16 % 2) (b / 8 % 2) (b / 4 % 2) (b / 2 % 2) (b % 2) (omega arith) (omega arith) (omega arith) (omega arith) (omega arith) (omega arith) (omega arith) (omega arith)
reversed-bit b (suc (suc (suc (suc zero)))) below = bit4 (b / 128 % 2) (b / 64 % 2) (b / 32 % 2) (b / 16 % 2) (b / 8 % 2) (b / 4 % 2) (b / 2 % 2) (b % 2) (omega arith) (omega arith) (omega arith) (omega arith) (omega arith) (omega arith) (omega arith) (omega arith)
reversed-bit b (suc (suc (suc (suc (suc zero))))) below = bit5 (b / 128 % 2) (b / 64 % 2) (b / 32 % 2) (b / 16 % 2) (b / 8 % 2) (b / 4 % 2) (b / 2 % 2) (b % 2) (omega arith) (omega arith) (omega arith) (omega arith) (omega arith) (omega arith) (omega arith) (omega arith)
reversed-bit b (suc (suc (suc (suc (suc (suc zero)))))) below = bit6 (b / 128 % 2) (b / 64 % 2) (b / 32 % 2) (b / 16 % 2) (b / 8 % 2) (b / 4 % 2) (b / 2 % 2) (b % 2) (omega arith) (omega arith) (omega arith) (omega arith) (omega arith) (omega arith) (omega arith) (omega arith)
reversed-bit b (suc (suc (suc (suc (suc (suc (suc zero))))))) below =
    let one : b % 2 ≡ b / 1 % 2 = omega arith in
    bit7 (b / 128 % 2) (b / 64 % 2) (b / 32 % 2) (b / 16 % 2) (b / 8 % 2) (b / 4 % 2) (b / 2 % 2) (b % 2) (omega arith) (omega arith) (omega arith) (omega arith) (omega arith) (omega arith) (omega arith) (omega arith) ∙ one
reversed-bit b (suc (suc (suc (suc (suc (suc (suc (suc k)))))))) below = absurd (omega arith)
