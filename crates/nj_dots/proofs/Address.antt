-- Two writes of $2006.
use Rattle.std.proofs.Common.{◌≡◌, ℕ, ◌+◌, ◌*◌, ◌/◌, ◌%◌, ◌<◌, true, false, refl, ap, ◌∙◌, arith}
use Rattle.nj_dots.specs.declared.scroll.Scroll.{Scroll}
use Rattle.nj_dots.specs.declared.screen.Screen.{Screen}
use Rattle.nj_dots.specs.Scroll.{addressed}
use Rattle.nj_dots.specs.Registers.{put_address, after_write}
use Rattle.nj_dots.proofs.Moving.{if-true, if-false}

-- the first
addressed-first : (value : ℕ) (c : Scroll) → c.w ≡ false
    → addressed value c ≡ record c { t = value % 64 * 256 + c.t % 256; w = true }
unfolding addressed
addressed-first value c h = if-false c.w _ _ h

-- the second
addressed-second : (value : ℕ) (c : Scroll) → c.w ≡ true → (addressed value c).v ≡ c.t / 256 * 256 + value
unfolding addressed
addressed-second value c h = ap (λ (s : Scroll). s.v) (if-true c.w _ _ h)

pub written-twice : (s : Screen) (high low : ℕ) → s.scroll.w ≡ false → low < 256
    → (after_write 6 low (after_write 6 high s)).scroll.v ≡ high % 64 * 256 + low
unfolding after_write put_address
written-twice s high low clear fits =
    ap (λ (c : Scroll). (addressed low c).v) (addressed-first high s.scroll clear)
    ∙ addressed-second low (let c = s.scroll in record c { t = high % 64 * 256 + c.t % 256; w = true }) refl
    ∙ omega arith
