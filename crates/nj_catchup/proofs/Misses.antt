-- Dots before an event of which none is a hit leave the hit flag.
use Rattle.std.proofs.Common.{◌≡◌, ◌≢◌, ℕ, zero, suc, ◌+◌, ◌-◌, ◌<◌, ◌≤◌, Bool, true, false, ◌&&◌, ◌||◌, ◌==◌, if◌then◌else◌, nat_le, nat_lt, List, refl, ap, ◌∙◌, subst, arith, inl, inr, ◌⊎◌}
use Rattle.std.proofs.lemmas.Bool.{cases_Bool, cases_eq, cases_lt, true≢false, eq-eqb, ne_eqb}
use Rattle.std.proofs.lemmas.Bool.Decides.{nat_tests}
use Rattle.nj_sprite0.specs.Sprite.{shows_at}
use Rattle.nj_dots.specs.declared.position.Position.{Position}
use Rattle.nj_dots.specs.declared.screen.Screen.{Screen}
use Rattle.nj_dots.specs.Screen.{place_of, IsScreen, is_next, shows_both_layers}
use Rattle.nj_dots.specs.Dots.{raised, background_bit, is_shown_column, is_hit_pixel, pixel, tile_fetched, line_ended, tile_ended, latched, sprites_fetched, prefetched, shown, emptied, hidden, drawn, moved, is_last_dot, after_position, dot_of, after_dots, to_event}
use Rattle.nj_dots.specs.Laws.{IsEvent}
use Rattle.nj_dots.proofs.Timing.{Moves, moves-moved}
use Rattle.nj_dots.proofs.Moving.{if-true, if-false, IsLastPlace, last-place, not-next, GoesOn, goes-on, Restarts, restarts}
use Rattle.nj_dots.proofs.Kept.{after_dots-fits}
use Rattle.nj_dots.proofs.Events.{event-one, to_event-after}
use Rattle.nj_catchup.specs.Tiles.{may_hit}
use Rattle.nj_catchup.specs.Steady.{IsAlong, IsAside}
use Rattle.nj_catchup.proofs.Calm.{Calm, calm-after, flagged-apart, raised-next}
use Rattle.nj_catchup.proofs.Ahead.{skips-of, dots-least, ahead}
use Rattle.nj_catchup.proofs.Tiles.{misses-hit}
use Rattle.nj_catchup.proofs.Status.{hit-dot}

-- `near` stays, the row of sprite zero stays
pub record SameNear (s e : Screen) : Type 0 where
  pub near : e.near ≡ s.near

pub record SameRow (s e : Screen) : Type 0 where
  pub row : e.sprite_row ≡ s.sprite_row

-- no hit is near
record Far (e : Screen) : Type 0 where
  far : e.near ≡ false

near-refl : (s : Screen) → SameNear s s
near-refl s = record { near = refl }

row-refl : (s : Screen) → SameRow s s
row-refl s = record { row = refl }

far-refl : (s : Screen) → s.near ≡ false → Far s
far-refl s far = record { far = far }

near-if : (b : Bool) (s x y : Screen) → SameNear s x → SameNear s y → SameNear s (if b then x else y)
near-if true s x y h k = h
near-if false s x y h k = k

row-if : (b : Bool) (s x y : Screen) → SameRow s x → SameRow s y → SameRow s (if b then x else y)
row-if true s x y h k = h
row-if false s x y h k = k

row-else : (b : Bool) (s x y : Screen) → b ≡ false → SameRow s y → SameRow s (if b then x else y)
row-else true s x y no_then k = absurd (true≢false no_then)
row-else false s x y no_then k = k

far-if : (b : Bool) (x y : Screen) → Far x → Far y → Far (if b then x else y)
far-if true x y h k = h
far-if false x y h k = k

near-line_ended : (p : List ℕ) (s : Screen) → SameNear s (line_ended p s)
unfolding line_ended tile_fetched
near-line_ended p s = record { near = refl }

near-tile_fetched : (p : List ℕ) (s : Screen) → SameNear s (tile_fetched p s)
unfolding tile_fetched
near-tile_fetched p s = record { near = refl }

pub near-tile_ended : (p : List ℕ) (s : Screen) → SameNear s (tile_ended p s)
unfolding tile_ended
near-tile_ended p s = near-if _ s _ _ (near-line_ended p s) (near-if _ s _ _ (near-tile_fetched p s) (near-refl s))

near-pixel : (s : Screen) → (pixel s).near ≡ is_hit_pixel s
unfolding pixel
near-pixel s = refl

far-where : (b : Bool) (x y : Screen) → (b ≡ true → Far x) → Far y → Far (if b then x else y)
far-where true x y h k = h refl
far-where false x y h k = k

from-one : (dot : ℕ) → (nat_le 1 dot && nat_le dot 256) ≡ true → 1 ≤ dot
from-one dot h = grind (arith, nat_tests, h)

-- no hit is near after a dot whose pixel is none
far-tile : (p : List ℕ) (s : Screen) → is_hit_pixel s ≡ false → Far (tile_ended p (pixel s))
far-tile p s miss =
    let same : SameNear (pixel s) (tile_ended p (pixel s)) = near-tile_ended p (pixel s) in
    record { far = same.near ∙ near-pixel s ∙ miss }

far-latched : (p : List ℕ) (s : Screen) → s.near ≡ false → Far (latched p s)
unfolding latched
far-latched p s far = record { far = far }

far-sprites_fetched : (s : Screen) → s.near ≡ false → Far (sprites_fetched s)
unfolding sprites_fetched
far-sprites_fetched s far = record { far = far }

far-prefetched : (p : List ℕ) (s : Screen) → s.near ≡ false → Far (prefetched p s)
unfolding prefetched
far-prefetched p s far = record { far = far }

far-shown : (p : List ℕ) (s : Screen) → (1 ≤ s.position.dot → is_hit_pixel s ≡ false) → s.near ≡ false → Far (shown p s)
unfolding shown
far-shown p s miss far =
    far-where _ _ _ (λ here. far-tile p s (miss (from-one s.position.dot here))) (far-if _ _ _ (far-latched p s far)
    (far-if _ _ _ (far-sprites_fetched s far) (far-if _ _ _ (far-prefetched p s far) (far-refl s far))))

far-emptied : (s : Screen) → s.near ≡ false → Far (emptied s)
unfolding emptied
far-emptied s far = record { far = far }

far-hidden : (s : Screen) → s.near ≡ false → Far (hidden s)
unfolding hidden
far-hidden s far = far-if _ _ _ (far-emptied s far) (far-refl s far)

far-drawn : (p : List ℕ) (s : Screen) → (1 ≤ s.position.dot → is_hit_pixel s ≡ false) → s.near ≡ false → Far (drawn p s)
unfolding drawn
far-drawn p s miss far = far-if _ _ _ (far-if _ _ _ (far-shown p s miss far) (far-hidden s far)) (far-refl s far)

-- the row of sprite zero stays but at dot 257
row-line_ended : (p : List ℕ) (s : Screen) → SameRow s (line_ended p s)
unfolding line_ended tile_fetched
row-line_ended p s = record { row = refl }

row-tile_fetched : (p : List ℕ) (s : Screen) → SameRow s (tile_fetched p s)
unfolding tile_fetched
row-tile_fetched p s = record { row = refl }

pub row-tile_ended : (p : List ℕ) (s : Screen) → SameRow s (tile_ended p s)
unfolding tile_ended
row-tile_ended p s = row-if _ s _ _ (row-line_ended p s) (row-if _ s _ _ (row-tile_fetched p s) (row-refl s))

row-pixel : (s : Screen) → (pixel s).sprite_row ≡ s.sprite_row
unfolding pixel
row-pixel s = refl

row-tile : (p : List ℕ) (s : Screen) → SameRow s (tile_ended p (pixel s))
row-tile p s =
    let same : SameRow (pixel s) (tile_ended p (pixel s)) = row-tile_ended p (pixel s) in
    record { row = same.row ∙ row-pixel s }

row-sprites_fetched : (s : Screen) → SameRow s (sprites_fetched s)
unfolding sprites_fetched
row-sprites_fetched s = record { row = refl }

row-prefetched : (p : List ℕ) (s : Screen) → SameRow s (prefetched p s)
unfolding prefetched
row-prefetched p s = record { row = refl }

row-shown : (p : List ℕ) (s : Screen) → (s.position.dot == 257) ≡ false → SameRow s (shown p s)
unfolding shown
row-shown p s aside =
    row-if _ s _ _ (row-tile p s) (row-else _ s _ _ aside
    (row-if _ s _ _ (row-sprites_fetched s) (row-if _ s _ _ (row-prefetched p s) (row-refl s))))

row-hidden : (s : Screen) → (s.position.dot == 257) ≡ false → SameRow s (hidden s)
unfolding hidden
row-hidden s aside = row-else _ s _ _ aside (row-refl s)

row-drawn : (p : List ℕ) (s : Screen) → (s.position.dot == 257) ≡ false → SameRow s (drawn p s)
unfolding drawn
row-drawn p s aside = row-if _ s _ _ (row-if _ s _ _ (row-shown p s aside) (row-hidden s aside)) (row-refl s)

-- a dot away from the events
pub dot-apart : (p : List ℕ) (s : Screen) → (IsEvent s → ⊥) → dot_of p s ≡ moved (drawn p (raised s))
unfolding dot_of
dot-apart p s apart =
    let a : is_next 241 1 (raised s) ≡ false = raised-next 241 1 s ∙ not-next 241 1 s (λ at. apart (inl at)) in
    let b : is_next 261 1 (raised s) ≡ false = raised-next 261 1 s ∙ not-next 261 1 s (λ at. apart (inr at)) in
    ap (λ e. moved (drawn p e)) (flagged-apart (raised s) a b)

raised-hit : (s : Screen) → is_hit_pixel (raised s) ≡ is_hit_pixel s
unfolding raised is_hit_pixel
raised-hit s = refl

raised-near : (s : Screen) → (raised s).near ≡ false
unfolding raised
raised-near s = refl

raised-row : (s : Screen) → (raised s).sprite_row ≡ s.sprite_row
unfolding raised
raised-row s = refl

raised-dot : (s : Screen) → (raised s).position.dot ≡ s.position.dot
unfolding raised
raised-dot s = refl

far-dot : (p : List ℕ) (s : Screen) → (IsEvent s → ⊥) → (1 ≤ s.position.dot → is_hit_pixel s ≡ false)
    → (dot_of p s).near ≡ false
far-dot p s apart miss =
    let moves : Moves (drawn p (raised s)) (moved (drawn p (raised s))) = moves-moved (drawn p (raised s)) in
    let here : Far (drawn p (raised s)) =
    far-drawn p (raised s) (λ from. raised-hit s ∙ miss (subst (λ d. 1 ≤ d) (raised-dot s) from)) (raised-near s) in
    ap (λ e. e.near) (dot-apart p s apart ∙ moves.same) ∙ here.far

pub row-dot : (p : List ℕ) (s : Screen) → (IsEvent s → ⊥) → (s.position.dot ≡ 257 → ⊥)
    → (dot_of p s).sprite_row ≡ s.sprite_row
row-dot p s apart aside =
    let moves : Moves (drawn p (raised s)) (moved (drawn p (raised s))) = moves-moved (drawn p (raised s)) in
    let here : SameRow (raised s) (drawn p (raised s)) =
    row-drawn p (raised s) (ap (λ d. d == 257) (raised-dot s) ∙ ne_eqb _ _ aside) in
    ap (λ e. e.sprite_row) (dot-apart p s apart ∙ moves.same) ∙ here.row ∙ raised-row s

-- dots before an event
pub no-event : (k : ℕ) (p : List ℕ) (s : Screen) → IsScreen s → suc k < to_event s → IsEvent (after_dots k p s) → ⊥
no-event k p s fits below at =
    let left : to_event (after_dots k p s) + k ≡ to_event s = to_event-after k p s fits (omega (arith, below)) in
    let one : to_event (after_dots k p s) ≡ 1 =
    event-one (after_dots k p s) at in absurd (omega (arith, one, left, below))

-- none of which is a hit
record Missed (k : ℕ) (p : List ℕ) (s : Screen) : Type 0 where
  far : (after_dots k p s).near ≡ false
  hit : (after_dots k p s).sprite_zero_hit ≡ s.sprite_zero_hit

or-far : (b n : Bool) → n ≡ false → (b || n) ≡ b
or-far true n far = refl
or-far false n far = far

missed : (k : ℕ) (p : List ℕ) (s : Screen) → IsScreen s → k < to_event s → s.near ≡ false
    → ((n : ℕ) → n < k → 1 ≤ (after_dots n p s).position.dot → is_hit_pixel (after_dots n p s) ≡ false) → Missed k p s
unfolding after_dots
missed zero p s fits below far miss = record { far = far; hit = refl }
missed (suc k) p s fits below far miss =
    let e : Screen = after_dots k p s in
    let before : Missed k p s =
    missed k p s fits (omega (arith, below)) far (λ n within. miss n (omega (arith, within))) in
    let apart : IsEvent e → ⊥ = no-event k p s fits below in
    record {
      far = far-dot p e apart (miss k (omega arith));
      hit = hit-dot p e apart ∙ or-far e.sprite_zero_hit e.near before.far ∙ before.hit;
    }

pub hit-missed : (k : ℕ) (p : List ℕ) (s : Screen) → IsScreen s → k < to_event s → s.near ≡ false
    → ((n : ℕ) → n < k → 1 ≤ (after_dots n p s).position.dot → is_hit_pixel (after_dots n p s) ≡ false)
    → (after_dots k p s).sprite_zero_hit ≡ s.sprite_zero_hit
hit-missed k p s fits below far miss = let h : Missed k p s = missed k p s fits below far miss in h.hit

-- a dot is of the same line or the next
next-dot : (q : Position) → ((q.dot ≡ 340) × ((after_position q).dot ≡ 0)) ⊎ ((after_position q).dot ≡ q.dot + 1)
unfolding after_position
next-dot q = elim (cases_eq q.dot 340) [
  | inl end ↦ inl (end, ap (λ (r : Position). r.dot) (if-true (q.dot == 340) _ _ (eq-eqb _ _ end)))
  | inr inner ↦ inr (ap (λ (r : Position). r.dot) (if-false (q.dot == 340) _ _ (ne_eqb _ _ inner)))
]

along-on : (from n d e : ℕ) → d < 341 → IsAlong from n d → (e ≡ d + 1) → IsAlong from (suc n) e
along-on from n d e within h on = elim h [
  | inl same ↦ inl (omega (arith, same, on))
  | inr next ↦ inr (omega (arith, next.0), omega (arith, next.0, next.1, on))
]

along-back : (from n d e : ℕ) → 339 ≤ d → IsAlong from n d → e ≡ 0 → IsAlong from (suc n) e
along-back from n d e late h back = elim h [
  | inl same ↦ inr (omega (arith, same, late), omega (arith, back))
  | inr next ↦ inr (omega (arith, next.0), omega (arith, back))
]

along-dot : (p : List ℕ) (s : Screen) (from n : ℕ) → s.position.dot < 341 → IsAlong from n s.position.dot
    → IsAlong from (suc n) (dot_of p s).position.dot
along-dot p s from n within h = elim (cases_Bool (is_last_dot s)) [
  | inl last ↦ (
      let l : IsLastPlace s = last-place s last in
      let next : Restarts s (dot_of p s) = restarts p s last in
      along-back from n s.position.dot _ (omega (arith, l.late, l.line)) h next.start.dot)
  | inr goes_on ↦ (
      let next : GoesOn s (dot_of p s) = goes-on p s goes_on in
      elim (next-dot s.position) [
        | inl end ↦
            along-back from n s.position.dot _ (omega (arith, end.0)) h (ap (λ (q : Position). q.dot) next.position
            ∙ end.1)
        | inr on ↦ along-on from n s.position.dot _ within h (ap (λ (q : Position). q.dot) next.position ∙ on)
      ])
]

pub along : (n : ℕ) (p : List ℕ) (s : Screen) → IsScreen s → IsAlong s.position.dot n (after_dots n p s).position.dot
unfolding after_dots
along zero p s fits = inl (omega arith)
along (suc n) p s fits =
    let e : Screen = after_dots n p s in
    let there : IsScreen e = after_dots-fits n p s fits in
    along-dot p e s.position.dot n there.placed.dot (along n p s fits)

-- the latched row stays as long as no dot latches one
row-after : (k : ℕ) (p : List ℕ) (s : Screen) → IsScreen s → k < to_event s
    → ((n : ℕ) → n < k → (after_dots n p s).position.dot ≢ 257) → (after_dots k p s).sprite_row ≡ s.sprite_row
unfolding after_dots
row-after zero p s fits below aside = refl
row-after (suc k) p s fits below aside =
    row-dot p (after_dots k p s) (no-event k p s fits below) (aside k (omega arith))
    ∙ row-after k p s fits (omega (arith, below)) (λ n within. aside n (omega (arith, within)))

-- no hit: a layer is hidden, the lines are below the visible ones, or row and latch are aside
pub layers-miss : (n : ℕ) (p : List ℕ) (s : Screen) → IsScreen s → n < to_event s → shows_both_layers s.mask ≡ false
    → is_hit_pixel (after_dots n p s) ≡ false
unfolding may_hit
layers-miss n p s fits below hides =
    let e : Screen = after_dots n p s in
    let h : Calm s e = calm-after n p s fits below in
    misses-hit e (ap (λ x. shows_both_layers x.mask && shows_at e.sprite_row (e.position.dot - 1)) h.same
    ∙ ap (λ b. b && shows_at e.sprite_row (e.position.dot - 1)) hides)

line-misses : (s : Screen) → 240 ≤ s.position.line → is_hit_pixel s ≡ false
unfolding is_hit_pixel
line-misses s from =
    let past : nat_lt s.position.line 240 ≡ false = grind (arith, nat_tests, from) in
    ap (λ a. a && nat_le s.position.dot 255 && shows_both_layers s.mask && background_bit s.shift s.scroll.x
    && shows_at s.sprite_row (s.position.dot - 1) && is_shown_column s.mask (s.position.dot - 1)) past

pub below-miss : (n k : ℕ) (p : List ℕ) (s : Screen) → IsScreen s → n < k → k < to_event s → 240 ≤ s.position.line
    → place_of s.position + k ≤ 89341 → is_hit_pixel (after_dots n p s) ≡ false
below-miss n k p s fits within below from frame =
    let there : IsScreen (after_dots n p s) = after_dots-fits n p s fits in
    elim (ahead n p s fits (omega (arith, below, within))) [
      | inl before ↦ line-misses (after_dots n p s) (omega (arith, before.place, from, there.placed.dot))
      | inr past ↦ absurd (omega (arith, past.place, frame, within, dots-least (place_of s.position) (skips-of s)))
    ]

pub and-false : (a b : Bool) → b ≡ false → (a && b) ≡ false
and-false true b h = h
and-false false b h = refl

dot-misses : (s : Screen) → 256 ≤ s.position.dot → is_hit_pixel s ≡ false
unfolding is_hit_pixel
dot-misses s from =
    let late : nat_le s.position.dot 255 ≡ false = grind (arith, nat_tests, from) in
    let past : (nat_lt s.position.line 240 && nat_le s.position.dot 255) ≡ false =
    and-false (nat_lt s.position.line 240) _ late in
    ap (λ a. a && shows_both_layers s.mask && background_bit s.shift s.scroll.x
    && shows_at s.sprite_row (s.position.dot - 1) && is_shown_column s.mask (s.position.dot - 1)) past

pub shown-misses : (s : Screen) → shows_at s.sprite_row (s.position.dot - 1) ≡ false → is_hit_pixel s ≡ false
unfolding may_hit
shown-misses s miss = misses-hit s (and-false (shows_both_layers s.mask) _ miss)

pub row-miss : (n k : ℕ) (p : List ℕ) (s : Screen) → IsScreen s → n < k → k < to_event s
    → ((m d : ℕ) → m < k → IsAlong s.position.dot m d → IsAside s.sprite_row d) → 1 ≤ (after_dots n p s).position.dot
    → is_hit_pixel (after_dots n p s) ≡ false
row-miss n k p s fits within below aside from =
    let e : Screen = after_dots n p s in
    let h : IsAside s.sprite_row e.position.dot = aside n e.position.dot within (along n p s fits) in
    let same : e.sprite_row ≡ s.sprite_row = row-after n p s fits (omega (arith, below, within))
    (λ m before. (let there : IsAside s.sprite_row (after_dots m p s).position.dot =
    aside m _ (omega (arith, before, within)) (along m p s fits) in there.latch)) in
    elim (cases_lt e.position.dot 256) [
      | inl pixel_dot ↦
          shown-misses e (ap (λ r. shows_at r (e.position.dot - 1)) same ∙ h.miss from (omega (arith, pixel_dot)))
      | inr past ↦ dot-misses e past
    ]
