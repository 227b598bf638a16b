-- Each of these dots is idle.
use Rattle.std.proofs.Common.{◌≡◌, ◌≤◌, ℕ, ◌+◌, ◌<◌, true, ap, sym, ◌∙◌, arith}
use Rattle.nj_dots.specs.Screen.{is_rendering}
use Rattle.nj_dots.specs.Dots.{after_dots, is_drawn_line}
use Rattle.nj_catchup.specs.Idle.{at_dot, is_cleared, is_idle}
use Rattle.nj_catchup.proofs.Sums.{dots-none}
use Rattle.nj_catchup.proofs.Idling.{idle-dots}
use Rattle.nj_catchup.proofs.idle.idle_dots.Goals as goal

pub returns-then-screen-clause-idle : goal.returns-then-screen-clause-idle
returns-then-screen-clause-idle c = λ p n none.
    let s = c.args.screen.now in
    let zero_dots : n ≡ 0 = omega (arith, none) in
    let same : s.position.dot ≡ s.position.dot + n = omega (arith, none) in
    ap (λ k. after_dots k p s) zero_dots ∙ dots-none p s ∙ ap (at_dot s) same

pub returns-clause-idle : goal.returns-clause-idle
returns-clause-idle c = λ p n within.
    let s = c.args.screen.now in
    let idle : (d : ℕ) → s.position.dot ≤ d → d < s.position.dot + n
    → is_idle (is_drawn_line s.position.line) (is_rendering s.mask) (is_cleared s) d ≡ true =
    λ d from below. (ap (λ b. is_idle b (is_rendering s.mask) (is_cleared s) d) (sym c.is_drawn_line-draws.ensures)
    ∙ ap (λ b. is_idle c.is_drawn_line-draws.result b (is_cleared s) d) (sym c.is_rendering.ensures)
    ∙ ap (λ b. is_idle c.is_drawn_line-draws.result c.is_rendering.result b d) (sym c.is_cleared.ensures)
    ∙ c.idle_end.ensures.idle d from (omega (arith, within, below, c.idle_end.ensures.from))) in
    idle-dots n p s c.if-screen.false idle
