-- Dots that do nothing but move the position on, over many lines.
use Rattle.std.proofs.Common.{◌≡◌, ℕ, zero, suc, ◌+◌, ◌*◌, ◌/◌, ◌%◌, ◌<◌, ◌≤◌, Bool, true, false, ◌&&◌, ◌==◌, None, List, refl, ap, sym, ◌∙◌, arith, inl, inr}
use Rattle.std.proofs.lemmas.Bool.{cases_eq}
use Rattle.std.proofs.lemmas.Bool.Decides.{nat_tests}
use Rattle.nj_dots.specs.declared.position.Position.{Position}
use Rattle.nj_dots.specs.declared.screen.Screen.{Screen}
use Rattle.nj_dots.specs.Screen.{place_of, IsPlaced, is_rendering}
use Rattle.nj_dots.specs.Dots.{flagged, is_drawn_line, shown, emptied, hidden, drawn, is_last_dot, after_position, advanced, moved, dot_of, after_dots}
use Rattle.nj_dots.proofs.Moving.{if-false, not-next, not-last, not-last-whole}
use Rattle.nj_catchup.specs.Place.{at_place, IsBetween, IsBlank}
use Rattle.nj_catchup.proofs.Calm.{flagged-apart}
use Rattle.nj_catchup.proofs.Idling.{raised-far, either}
use Rattle.nj_catchup.proofs.Ends.{next-inner, next-last}
use Rattle.nj_catchup.proofs.Ahead.{position-at}

-- the line's work leaves the picture
emptied-none : (s : Screen) → s.sprite_row ≡ None → emptied s ≡ s
unfolding emptied
emptied-none s none = ap (λ r. record s { sprite_row = r }) (sym none)

hidden-none : (s : Screen) → s.sprite_row ≡ None → hidden s ≡ s
unfolding hidden
hidden-none s none = either (s.position.dot == 257) (emptied s) s s (emptied-none s none) refl

drawn-hidden : (p : List ℕ) (s : Screen) → is_rendering s.mask ≡ false → s.sprite_row ≡ None → drawn p s ≡ s
unfolding drawn
drawn-hidden p s off none = either (is_drawn_line s.position.line) _ s s (if-false _ _ _ off ∙ hidden-none s none) refl

not-drawn : (line : ℕ) → 240 ≤ line → line < 261 → is_drawn_line line ≡ false
unfolding is_drawn_line
not-drawn line from below = grind (arith, nat_tests, from, below)

drawn-below : (p : List ℕ) (s : Screen) → 240 ≤ s.position.line → s.position.line < 261 → drawn p s ≡ s
unfolding drawn
drawn-below p s from below = if-false _ _ _ (not-drawn s.position.line from below)

drawn-blank : (p : List ℕ) (s : Screen) (n : ℕ) → IsBlank s n → drawn p (at_place s n) ≡ at_place s n
drawn-blank p s n h = elim h.still [
  | inl off ↦ drawn-hidden p (at_place s n) off.0 off.1
  | inr below ↦ drawn-below p (at_place s n) (omega (arith, below.0)) (omega (arith, below.1))
]

-- no frame ends
and-off : (a b : Bool) → b ≡ false → (a && b) ≡ false
and-off true b off = off
and-off false b off = refl

goes-on : (s : Screen) (n : ℕ) → IsBlank s n → is_last_dot (at_place s n) ≡ false
goes-on s n h =
    let place : n / 341 * 341 + n % 341 ≡ n = omega arith in
    elim h.still [
      | inl off ↦ not-last-whole (at_place s n) (omega (arith, place, h.between.last)) (and-off s.odd_frame _ off.0)
      | inr below ↦ not-last (at_place s n) (omega (arith, place, below.1))
    ]

-- the position moves on
position-on : (n : ℕ)
    → after_position (record { line = n / 341; dot = n % 341 }) ≡ record { line = (n + 1) / 341; dot = (n + 1) % 341 }
position-on n = elim (cases_eq (n % 341) 340) [
  | inl last ↦ (
      let l : n / 341 + 1 ≡ (n + 1) / 341 = omega (arith, last) in
      let d : 0 ≡ (n + 1) % 341 = omega (arith, last) in
      next-last (record { line = n / 341; dot = n % 341 }) last ∙ (λ i. record { line = l i; dot = d i }))
  | inr inner ↦ (
      let l : n / 341 ≡ (n + 1) / 341 = omega (arith, inner) in
      let d : n % 341 + 1 ≡ (n + 1) % 341 = omega (arith, inner) in
      next-inner (record { line = n / 341; dot = n % 341 }) inner ∙ (λ i. record { line = l i; dot = d i }))
]

moved-blank : (s : Screen) (n : ℕ) → IsBlank s n → moved (at_place s n) ≡ at_place s (n + 1)
unfolding moved advanced
moved-blank s n h = if-false _ _ _ (goes-on s n h) ∙ ap (λ (q : Position). record s { position = q }) (position-on n)

-- one dot
blank-dot : (p : List ℕ) (s : Screen) (n : ℕ) → s.near ≡ false → IsBlank s n
    → dot_of p (at_place s n) ≡ at_place s (n + 1)
unfolding dot_of
blank-dot p s n far h =
    let e : Screen = at_place s n in
    ap (λ x. moved (drawn p (flagged x))) (raised-far e far)
    ∙ ap (λ x. moved (drawn p x))
    (flagged-apart e (not-next 241 1 e (λ next. h.between.begins (omega (arith, next.line, next.dot))))
    (not-next 261 1 e (λ next. h.between.ends (omega (arith, next.line, next.dot)))))
    ∙ ap moved (drawn-blank p s n h) ∙ moved-blank s n h

-- many
blank-dots : (k : ℕ) (p : List ℕ) (s : Screen) (m : ℕ) → s.near ≡ false → ((n : ℕ) → m ≤ n → n < m + k → IsBlank s n)
    → after_dots k p (at_place s m) ≡ at_place s (m + k)
unfolding after_dots
blank-dots zero p s m far h = let e : m ≡ m + zero = omega arith in ap (at_place s) e
blank-dots (suc k) p s m far h =
    let on : m + k + 1 ≡ m + suc k = omega arith in
    ap (dot_of p) (blank-dots k p s m far (λ n from below. h n from (omega (arith, below))))
    ∙ blank-dot p s (m + k) far (h (m + k) (omega arith) (omega arith)) ∙ ap (at_place s) on

pub blank-run : (dots place ahead : ℕ) (p : List ℕ) (s : Screen) → IsPlaced s.position → s.near ≡ false
    → place ≡ place_of s.position → ahead ≡ place + dots
    → ((n : ℕ) → place ≤ n → n < place + dots → IsBlank s n) → at_place s ahead ≡ after_dots dots p s
blank-run dots place ahead p s placed far at on h =
    ap (at_place s) on ∙ sym (blank-dots dots p s place far h)
    ∙ ap (λ (q : Position). after_dots dots p (record s { position = q })) (position-at place s.position placed.dot at)
