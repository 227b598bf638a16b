-- Idle dots move the position alone.
use Rattle.std.proofs.Common.{◌≡◌, ℕ, zero, suc, ◌+◌, ◌<◌, ◌≤◌, Bool, true, false, ◌&&◌, ◌||◌, ◌==◌, if◌then◌else◌, nat_le, List, refl, ap, sym, ◌∙◌, arith, inl, inr}
use Rattle.std.proofs.lemmas.Bool.{cases_Bool}
use Rattle.std.proofs.lemmas.Bool.Decides.{nat_tests}
use Rattle.nj_dots.specs.declared.scroll.Scroll.{Scroll}
use Rattle.nj_dots.specs.declared.position.Position.{Position}
use Rattle.nj_dots.specs.declared.screen.Screen.{Screen}
use Rattle.nj_dots.specs.Screen.{is_next, is_rendering}
use Rattle.nj_dots.specs.Dots.{raised, flagged, is_drawn_line, vertical_copied, sprites_fetched, shown, hidden, drawn, is_last_dot, after_position, advanced, moved, dot_of, after_dots}
use Rattle.nj_dots.proofs.Moving.{if-true, if-false}
use Rattle.nj_catchup.specs.Idle.{is_idle_shown, is_idle_hidden, is_idle, is_cleared, at_dot}
use Rattle.nj_catchup.proofs.Calm.{flagged-apart}

or-false : (b : Bool) → (b || false) ≡ b
or-false true = refl
or-false false = refl

-- with no hit near nothing is raised
pub raised-far : (s : Screen) → s.near ≡ false → raised s ≡ s
unfolding raised
raised-far s far =
    ap (λ n. record s { sprite_zero_hit = s.sprite_zero_hit || n; near = false }) far
    ∙ ap (λ h. record s { sprite_zero_hit = h; near = false }) (or-false s.sprite_zero_hit)
    ∙ ap (λ n. record s { near = n }) (sym far)

-- the fetches of sprites leave a clear address, and a scroll that is not of the pre-render line
fetched-idle : (s : Screen) → s.position.line < 240 → s.oam_address ≡ 0 → sprites_fetched s ≡ s
unfolding sprites_fetched vertical_copied
fetched-idle s line clear =
    let visible : (s.position.line == 261 && nat_le 280 s.position.dot && nat_le s.position.dot 304) ≡ false =
    grind (arith, nat_tests, line) in
    ap (λ (c : Scroll). record s { oam_address = 0; scroll = c })
    (if-false (s.position.line == 261 && nat_le 280 s.position.dot && nat_le s.position.dot 304) _ _ visible)
    ∙ ap (λ n. record s { oam_address = n }) (sym clear)

-- a choice whose ways are one
pub either : {X : Type 0} (b : Bool) (x y z : X) → x ≡ z → y ≡ z → (if b then x else y) ≡ z
either true x y z h k = h
either false x y z h k = k

-- what an idle dot of a line that is shown is not
record Away (cleared : Bool) (d : ℕ) : Type 0 where
  tile : (nat_le 1 d && nat_le d 256) ≡ false
  latch : (d == 257) ≡ false
  fetch : (nat_le 258 d && nat_le d 320) ≡ true → cleared ≡ true
  ahead : (d == 328 || d == 336) ≡ false

away : (cleared : Bool) (d : ℕ) → d ≤ 338 → is_idle_shown cleared d ≡ true → Away cleared d
unfolding is_idle_shown
away true d last idle = record {
  tile = grind (arith, nat_tests, last, idle);
  latch = grind (arith, nat_tests, last, idle);
  fetch = λ at. refl;
  ahead = grind (arith, nat_tests, last, idle);
}
away false d last idle = record {
  tile = grind (arith, nat_tests, last, idle);
  latch = grind (arith, nat_tests, last, idle);
  fetch = λ at. absurd (grind (arith, nat_tests, last, idle, at));
  ahead = grind (arith, nat_tests, last, idle);
}

cleared-parts : (s : Screen) → is_cleared s ≡ true → (s.position.line < 240) × (s.oam_address ≡ 0)
unfolding is_cleared
cleared-parts s h = (grind (arith, nat_tests, h), grind (arith, nat_tests, h))

shown-idle : (p : List ℕ) (s : Screen) → Away (is_cleared s) s.position.dot → shown p s ≡ s
unfolding shown
shown-idle p s h =
    if-false _ _ _ h.tile ∙ if-false _ _ _ h.latch
    ∙ elim (cases_Bool (nat_le 258 s.position.dot && nat_le s.position.dot 320)) [
      | inl fetches ↦ if-true _ _ _ fetches ∙ (let c = cleared-parts s (h.fetch fetches) in fetched-idle s c.0 c.1)
      | inr does_not ↦ if-false _ _ _ does_not ∙ if-false _ _ _ h.ahead
    ]

hidden-idle : (s : Screen) → is_idle_hidden s.position.dot ≡ true → hidden s ≡ s
unfolding hidden is_idle_hidden
hidden-idle s idle = if-false (s.position.dot == 257) _ _ (grind (arith, nat_tests, idle))

-- what makes a dot idle
record Parts (shows renders cleared : Bool) (d : ℕ) : Type 0 where
  from : 2 ≤ d
  last : d ≤ 338
  shown_ : shows ≡ true → renders ≡ true → is_idle_shown cleared d ≡ true
  hidden_ : shows ≡ true → renders ≡ false → is_idle_hidden d ≡ true

parts : (shows renders cleared : Bool) (d : ℕ) → is_idle shows renders cleared d ≡ true → Parts shows renders cleared d
unfolding is_idle
parts shows renders cleared d idle = record {
  from = grind (arith, nat_tests, idle);
  last = grind (arith, nat_tests, idle);
  shown_ = λ a b. grind (arith, nat_tests, idle, a, b);
  hidden_ = λ a b. grind (arith, nat_tests, idle, a, b);
}

drawn-idle : (p : List ℕ) (s : Screen)
    → Parts (is_drawn_line s.position.line) (is_rendering s.mask) (is_cleared s) s.position.dot → drawn p s ≡ s
unfolding drawn
drawn-idle p s h = elim (cases_Bool (is_drawn_line s.position.line)) [
  | inl draws ↦ if-true _ _ _ draws ∙ elim (cases_Bool (is_rendering s.mask)) [
    | inl renders ↦
        if-true _ _ _ renders ∙ shown-idle p s (away (is_cleared s) s.position.dot h.last (h.shown_ draws renders))
    | inr hides ↦ if-false _ _ _ hides ∙ hidden-idle s (h.hidden_ draws hides)
  ]
  | inr blank ↦ if-false _ _ _ blank
]

-- the position moves along the line
pub moved-along : (s : Screen) → s.position.dot ≤ 338 → moved s ≡ at_dot s (s.position.dot + 1)
unfolding moved advanced is_last_dot is_next after_position
moved-along s last =
    if-false (is_last_dot s) _ _ (grind (arith, nat_tests, last))
    ∙ ap (λ (q : Position). record s { position = q })
    (if-false (s.position.dot == 340) _ _ (grind (arith, nat_tests, last)))

not-one : (l : ℕ) (s : Screen) → 2 ≤ s.position.dot → is_next l 1 s ≡ false
unfolding is_next
not-one l s from = grind (arith, nat_tests, from)

idle-step : (p : List ℕ) (s : Screen) → s.near ≡ false
    → Parts (is_drawn_line s.position.line) (is_rendering s.mask) (is_cleared s) s.position.dot
    → dot_of p s ≡ at_dot s (s.position.dot + 1)
unfolding dot_of
idle-step p s far h =
    ap (λ e. moved (drawn p (flagged e))) (raised-far s far)
    ∙ ap (λ e. moved (drawn p e)) (flagged-apart s (not-one 241 s h.from) (not-one 261 s h.from))
    ∙ ap moved (drawn-idle p s h)
    ∙ moved-along s h.last

-- an idle dot
pub idle-dot : (p : List ℕ) (s : Screen) (d : ℕ) → s.near ≡ false
    → is_idle (is_drawn_line s.position.line) (is_rendering s.mask) (is_cleared s) d ≡ true
    → dot_of p (at_dot s d) ≡ at_dot s (d + 1)
unfolding is_cleared
idle-dot p s d far idle =
    idle-step p (at_dot s d) far (parts (is_drawn_line s.position.line) (is_rendering s.mask) (is_cleared s) d idle)

-- idle dots
pub idle-dots : (n : ℕ) (p : List ℕ) (s : Screen) → s.near ≡ false
    → ((d : ℕ) → s.position.dot ≤ d → d < s.position.dot + n
    → is_idle (is_drawn_line s.position.line) (is_rendering s.mask) (is_cleared s) d ≡ true)
    → after_dots n p s ≡ at_dot s (s.position.dot + n)
unfolding after_dots
idle-dots zero p s far idle = let e : s.position.dot ≡ s.position.dot + zero = omega arith in ap (at_dot s) e
idle-dots (suc n) p s far idle =
    let before : after_dots n p s ≡ at_dot s (s.position.dot + n) =
    idle-dots n p s far (λ d from below. idle d from (omega (arith, below))) in
    let one : dot_of p (at_dot s (s.position.dot + n)) ≡ at_dot s (s.position.dot + n + 1) =
    idle-dot p s (s.position.dot + n) far (idle (s.position.dot + n) (omega arith) (omega arith)) in
    let e : s.position.dot + n + 1 ≡ s.position.dot + suc n = omega arith in
    ap (dot_of p) before ∙ one ∙ ap (at_dot s) e
