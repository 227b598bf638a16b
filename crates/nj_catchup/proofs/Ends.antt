-- The dots at the end of a line, and dot 0 of the next.
use Rattle.std.proofs.Common.{◌≡◌, ℕ, zero, suc, ◌+◌, ◌<◌, ◌≤◌, Bool, true, false, ◌&&◌, ◌||◌, ◌==◌, nat_le, List, refl, ap, sym, ◌∙◌, arith, inl, inr, ◌⊎◌}
use Rattle.std.proofs.lemmas.Bool.{eq-eqb, ne_eqb}
use Rattle.std.proofs.lemmas.Bool.Decides.{nat_tests}
use Rattle.nj_dots.specs.declared.position.Position.{Position}
use Rattle.nj_dots.specs.declared.screen.Screen.{Screen}
use Rattle.nj_dots.specs.Screen.{is_next, is_rendering}
use Rattle.nj_dots.specs.Dots.{flagged, is_drawn_line, shown, hidden, drawn, is_last_dot, after_position, advanced, moved, dot_of, after_dots}
use Rattle.nj_dots.proofs.Moving.{if-true, if-false}
use Rattle.nj_catchup.specs.Idle.{at_dot}
use Rattle.nj_catchup.proofs.Calm.{flagged-apart}
use Rattle.nj_catchup.proofs.Idling.{raised-far, either}

-- a dot of those
IsEnd : ℕ → Type 0
IsEnd d = (337 ≤ d) ⊎ (d ≡ 0)

record Apart (d : ℕ) : Type 0 where
  tile : (nat_le 1 d && nat_le d 256) ≡ false
  latch : (d == 257) ≡ false
  fetch : (nat_le 258 d && nat_le d 320) ≡ false
  ahead : (d == 328 || d == 336) ≡ false
  one : (d == 1) ≡ false

apart : (d : ℕ) → IsEnd d → Apart d
unfolding IsEnd
apart d h = elim h [
  | inl late ↦
      record {
        tile = grind (arith, nat_tests, late);
        latch = grind (arith, nat_tests, late);
        fetch = grind (arith, nat_tests, late);
        ahead = grind (arith, nat_tests, late);
        one =
            grind (arith, nat_tests, late);
      }
  | inr first ↦
      record {
        tile = grind (arith, nat_tests, first);
        latch = grind (arith, nat_tests, first);
        fetch = grind (arith, nat_tests, first);
        ahead = grind (arith, nat_tests, first);
        one =
            grind (arith, nat_tests, first);
      }
]

shown-end : (p : List ℕ) (s : Screen) → Apart s.position.dot → shown p s ≡ s
unfolding shown
shown-end p s h = if-false _ _ _ h.tile ∙ if-false _ _ _ h.latch ∙ if-false _ _ _ h.fetch ∙ if-false _ _ _ h.ahead

hidden-end : (s : Screen) → Apart s.position.dot → hidden s ≡ s
unfolding hidden
hidden-end s h = if-false _ _ _ h.latch

drawn-end : (p : List ℕ) (s : Screen) → Apart s.position.dot → drawn p s ≡ s
unfolding drawn
drawn-end p s h =
    either (is_drawn_line s.position.line) _ s s
    (either (is_rendering s.mask) (shown p s) (hidden s) s (shown-end p s h) (hidden-end s h)) refl

and-false : (a b : Bool) → b ≡ false → (a && b) ≡ false
and-false true b h = h
and-false false b h = refl

next-apart : (l : ℕ) (s : Screen) → Apart s.position.dot → is_next l 1 s ≡ false
unfolding is_next
next-apart l s h = and-false (s.position.line == l) _ h.one

-- the position moves
abbrev at_next : Screen → Screen
at_next s = record s { position = after_position s.position }

moved-end : (s : Screen) → s.position.line < 261 → moved s ≡ at_next s
unfolding moved advanced is_last_dot is_next
moved-end s line = if-false (is_last_dot s) _ _ (grind (arith, nat_tests, line))

end-dot : (p : List ℕ) (s : Screen) → s.near ≡ false → s.position.line < 261 → IsEnd s.position.dot
    → dot_of p s ≡ at_next s
unfolding dot_of
end-dot p s far line end =
    let h : Apart s.position.dot = apart s.position.dot end in
    ap (λ e. moved (drawn p (flagged e))) (raised-far s far)
    ∙ ap (λ e. moved (drawn p e)) (flagged-apart s (next-apart 241 s h) (next-apart 261 s h))
    ∙ ap moved (drawn-end p s h) ∙ moved-end s line

pub next-inner : (q : Position) → (q.dot ≡ 340 → ⊥) → after_position q ≡ record q { dot = q.dot + 1 }
unfolding after_position
next-inner q inner = if-false (q.dot == 340) _ _ (ne_eqb _ _ inner)

pub next-last : (q : Position) → q.dot ≡ 340 → after_position q ≡ record { line = q.line + 1; dot = 0 }
unfolding after_position
next-last q last = if-true (q.dot == 340) _ _ (eq-eqb _ _ last)

-- up to the line's last dot
to-last : (n : ℕ) (p : List ℕ) (s : Screen) → s.near ≡ false → s.position.line < 261 → 337 ≤ s.position.dot
    → s.position.dot + n ≤ 340 → after_dots n p s ≡ at_dot s (s.position.dot + n)
unfolding after_dots IsEnd
to-last zero p s far line from last = let e : s.position.dot ≡ s.position.dot + zero = omega arith in ap (at_dot s) e
to-last (suc n) p s far line from last =
    let e : Screen = at_dot s (s.position.dot + n) in
    let on : s.position.dot + n + 1 ≡ s.position.dot + suc n = omega arith in
    ap (dot_of p) (to-last n p s far line from (omega (arith, last)))
    ∙ end-dot p e far line (inl (omega (arith, from)))
    ∙ ap (λ q. record e { position = q }) (next-inner e.position (λ at. absurd (omega (arith, at, last))))
    ∙ ap (at_dot s) on

-- and two dots more
pub line-ends : (k n : ℕ) (p : List ℕ) (s : Screen) → s.near ≡ false → s.position.line < 260 → 337 ≤ s.position.dot
    → s.position.dot + n ≡ 340 → k ≡ suc (suc n)
    → record s { position = record { line = s.position.line + 1; dot = 1 } } ≡ after_dots k p s
unfolding after_dots IsEnd
line-ends k n p s far line from last count =
    let e : Screen = at_dot s (s.position.dot + n) in
    let f : Screen = record s { position = record { line = s.position.line + 1; dot = 0 } } in
    sym (ap (λ i. after_dots i p s) count
    ∙ ap (λ x. dot_of p (dot_of p x)) (to-last n p s far (omega (arith, line)) from (omega (arith, last)))
    ∙ ap (dot_of p) (end-dot p e far (omega (arith, line)) (inl (omega (arith, from)))
    ∙ ap (λ q. record e { position = q }) (next-last e.position last))
    ∙ end-dot p f far (omega (arith, line)) (inr refl)
    ∙ ap (λ q. record f { position = q }) (next-inner f.position (λ at. absurd (omega (arith, at)))))
