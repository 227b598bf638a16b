-- Dots that latch no row of sprite zero, and lines with few sprites.
use Rattle.std.proofs.Common.{◌≡◌, ℕ, zero, suc, ◌+◌, ◌-◌, ◌*◌, ◌<◌, ◌≤◌, Bool, true, false, ◌&&◌, ◌||◌, ◌==◌, if◌then◌else◌, nat_le, nat_lt, List, slice_index, Option, None, refl, ap, sym, ◌∙◌, subst, arith, inl, inr}
use Rattle.std.proofs.lemmas.Bool.{cases_Bool, cases_eq, cases_lt, eq-eqb}
use Rattle.std.proofs.lemmas.Bool.Decides.{nat_tests}
use Rattle.nj_sprite0.specs.Sprite.{has_bit, height_of, is_in_range, in_range_of, sprite_row_of, shows_at}
use Rattle.nj_sprite0.proofs.Counts.{counted, counted-none, counted-in, counted-out, counted-all}
use Rattle.nj_dots.specs.declared.screen.Screen.{Screen}
use Rattle.nj_dots.specs.Screen.{place_of, IsScreen, is_rendering, first_sprite}
use Rattle.nj_dots.specs.Dots.{raised, is_hit_pixel, pixel, tile_ended, latched, sprites_fetched, prefetched, shown, emptied, hidden, is_drawn_line, drawn, moved, dot_of, after_dots, to_event}
use Rattle.nj_dots.specs.Laws.{IsEvent, IsOverflow}
use Rattle.nj_dots.proofs.Timing.{Moves, moves-moved}
use Rattle.nj_dots.proofs.Moving.{if-true, if-false}
use Rattle.nj_dots.proofs.Kept.{after_dots-fits}
use Rattle.nj_catchup.specs.Steady.{IsAway}
use Rattle.nj_catchup.proofs.Calm.{Calm, calm-after}
use Rattle.nj_catchup.proofs.Ahead.{skips-of, dots-least, ahead}
use Rattle.nj_catchup.proofs.Misses.{and-false, dot-apart, row-dot, no-event, shown-misses}

-- no row is latched
pub record NoRow (s : Screen) : Type 0 where
  pub row : s.sprite_row ≡ None

none-if : (b : Bool) (x y : Screen) → NoRow x → NoRow y → NoRow (if b then x else y)
none-if true x y h k = h
none-if false x y h k = k

-- the line is none of the sprite's
abbrev pub IsOutside : Screen → Type 0
IsOutside s = is_in_range (slice_index s.oam 0) s.position.line (has_bit s.control 5) ≡ false

none-of : (oam : List ℕ) (line : ℕ) (tall high : Bool) (p : List ℕ) → is_in_range (slice_index oam 0) line tall ≡ false
    → sprite_row_of (first_sprite oam) line tall high p ≡ None
unfolding sprite_row_of first_sprite
none-of oam line tall high p out = if-false _ _ _ (and-false (nat_le line 239) _ out)

pub none-latched : (p : List ℕ) (s : Screen) → IsOutside s → NoRow (latched p s)
unfolding latched
none-latched p s out = record { row = none-of s.oam s.position.line (has_bit s.control 5) (has_bit s.control 3) p out }

-- dot 257 latches
pub there-shown : (p : List ℕ) (s : Screen) → s.position.dot ≡ 257 → shown p s ≡ latched p s
unfolding shown
there-shown p s at =
    let tile : (nat_le 1 s.position.dot && nat_le s.position.dot 256) ≡ false = grind (arith, nat_tests, at) in
    if-false _ _ _ tile ∙ if-true _ _ _ (eq-eqb _ _ at)

none-emptied : (s : Screen) → NoRow (emptied s)
unfolding emptied
none-emptied s = record { row = refl }

none-hidden : (s : Screen) → NoRow s → NoRow (hidden s)
unfolding hidden
none-hidden s h = none-if (s.position.dot == 257) _ _ (none-emptied s) h

none-drawn : (p : List ℕ) (s : Screen) → NoRow s → s.position.dot ≡ 257 → IsOutside s → NoRow (drawn p s)
unfolding drawn
none-drawn p s h at out =
    none-if (is_drawn_line s.position.line) _ _
    (none-if (is_rendering s.mask) _ _ (subst NoRow (sym (there-shown p s at)) (none-latched p s out))
    (none-hidden s h)) h

none-raised : (s : Screen) → s.sprite_row ≡ None → NoRow (raised s)
unfolding raised
none-raised s h = record { row = h }

outside-raised : (s : Screen) → IsOutside s → IsOutside (raised s)
unfolding raised
outside-raised s out = out

at-raised : (s : Screen) → (raised s).position.dot ≡ s.position.dot
unfolding raised
at-raised s = refl

none-there : (p : List ℕ) (s : Screen) → (IsEvent s → ⊥) → s.sprite_row ≡ None → s.position.dot ≡ 257 → IsOutside s
    → (dot_of p s).sprite_row ≡ None
none-there p s apart none at out =
    let moves : Moves (drawn p (raised s)) (moved (drawn p (raised s))) = moves-moved (drawn p (raised s)) in
    let here : NoRow (drawn p (raised s)) =
    none-drawn p (raised s) (none-raised s none) (at-raised s ∙ at) (outside-raised s out) in
    ap (λ e. e.sprite_row) (dot-apart p s apart ∙ moves.same) ∙ here.row

none-dot : (p : List ℕ) (s : Screen) → (IsEvent s → ⊥) → s.sprite_row ≡ None → (s.position.dot ≡ 257 → IsOutside s)
    → (dot_of p s).sprite_row ≡ None
none-dot p s apart none out = elim (cases_eq s.position.dot 257) [
  | inl at ↦ none-there p s apart none at (out at)
  | inr aside ↦ row-dot p s apart aside ∙ none
]

-- which lines are none of the sprite's
pub line-before : (top line : ℕ) (tall : Bool) → line < top → is_in_range top line tall ≡ false
unfolding is_in_range
line-before top line tall before = grind (arith, nat_tests, before)

pub line-behind : (top line : ℕ) (tall : Bool) → top + height_of tall ≤ line → is_in_range top line tall ≡ false
unfolding is_in_range
line-behind top line tall behind =
    let past : nat_lt line (top + height_of tall) ≡ false = grind (arith, nat_tests, behind) in
    and-false (nat_le top line) _ past

outside : (n k : ℕ) (p : List ℕ) (s : Screen) → IsScreen s → n < k → k < to_event s → IsAway k s
    → (after_dots n p s).position.dot ≡ 257 → IsOutside (after_dots n p s)
outside n k p s fits within below away at =
    let e : Screen = after_dots n p s in
    let there : IsScreen e = after_dots-fits n p s fits in
    let calm : Calm s e = calm-after n p s fits (omega (arith, below, within)) in
    let tall : Bool = has_bit s.control 5 in
    let top : ℕ = slice_index s.oam 0 in
    let line_out : is_in_range top e.position.line tall ≡ false =
    (elim (ahead n p s fits (omega (arith, below, within))) [
      | inl before ↦ (elim away.lines [
        | inl first ↦ line-before top e.position.line tall (omega (arith, first, before.place, at, within))
        | inr last ↦ line-behind top e.position.line tall (omega (arith, last, before.place, at, fits.placed.dot))
      ])
      | inr past ↦ absurd (omega (arith, past.place, away.frame, within, dots-least (place_of s.position) (skips-of s)))
    ]) in
    ap (λ (x : Screen). is_in_range (slice_index x.oam 0) e.position.line (has_bit x.control 5)) calm.same ∙ line_out

away-row : (n k : ℕ) (p : List ℕ) (s : Screen) → IsScreen s → n ≤ k → k < to_event s → IsAway k s
    → (after_dots n p s).sprite_row ≡ None
unfolding after_dots
away-row zero k p s fits within below away = away.row
away-row (suc n) k p s fits within below away =
    none-dot p (after_dots n p s) (no-event n p s fits (omega (arith, within, below)))
    (away-row n k p s fits (omega (arith, within)) below away)
    (outside n k p s fits (omega (arith, within)) below away)

-- so no pixel is a hit
pub away-miss : (n k : ℕ) (p : List ℕ) (s : Screen) → IsScreen s → n < k → k < to_event s → IsAway k s
    → is_hit_pixel (after_dots n p s) ≡ false
away-miss n k p s fits within below away =
    let e : Screen = after_dots n p s in
    let none : e.sprite_row ≡ None = away-row n k p s fits (omega (arith, within)) below away in
    shown-misses e (ap (λ (r : Option _). shows_at r (e.position.dot - 1)) none)

-- sprites that begin below the visible lines are in range of none of them
top-below : (top line : ℕ) (tall : Bool) → 240 ≤ top → line < 240 → is_in_range top line tall ≡ false
top-below top line tall from below = line-before top line tall (omega (arith, from, below))

pub counted-step : (oam : List ℕ) (line : ℕ) (tall : Bool) (n : ℕ)
    → counted oam line tall (n + 1) ≤ counted oam line tall n + 1
counted-step oam line tall n = elim (cases_Bool (is_in_range (slice_index oam (n * 4)) line tall)) [
  | inl is ↦ omega (arith, counted-in oam line tall n is)
  | inr not_ ↦ omega (arith, counted-out oam line tall n not_)
]

pub counted-below : (oam : List ℕ) (line : ℕ) (tall : Bool) (n : ℕ) → 240 ≤ slice_index oam (n * 4) → line < 240
    → counted oam line tall (n + 1) ≡ counted oam line tall n
counted-below oam line tall n from below =
    counted-out oam line tall n (top-below (slice_index oam (n * 4)) line tall from below)

-- few sprites are never too many
pub few-none : (n : ℕ) (p : List ℕ) (s : Screen) → IsScreen s → n < to_event s
    → ((line : ℕ) (tall : Bool) → line < 240 → in_range_of s.oam line tall < 9) → IsOverflow (after_dots n p s) → ⊥
few-none n p s fits below few h =
    let e : Screen = after_dots n p s in
    let calm : Calm s e = calm-after n p s fits below in
    let same : e.oam ≡ s.oam = ap (λ (x : Screen). x.oam) calm.same in
    let more : 9 ≤ in_range_of s.oam e.position.line (has_bit e.control 5) =
    subst (λ o. 9 ≤ in_range_of o e.position.line (has_bit e.control 5)) same h.sprites in
    absurd (omega (arith, more, few e.position.line (has_bit e.control 5) h.line))
