-- Where the picture is after some dots before the next event.
use Rattle.std.proofs.Common.{◌≡◌, ℕ, zero, suc, ◌+◌, ◌/◌, ◌%◌, ◌<◌, ◌≤◌, Bool, true, false, ◌&&◌, List, refl, ap, sym, ◌∙◌, arith, inl, inr, ◌⊎◌}
use Rattle.std.proofs.lemmas.Bool.{cases_Bool, true≢false, cases_eq, cases_lt}
use Rattle.std.proofs.lemmas.Bool.Decides.{nat_tests}
use Rattle.nj_dots.specs.declared.position.Position.{Position}
use Rattle.nj_dots.specs.declared.screen.Screen.{Screen}
use Rattle.nj_dots.specs.Screen.{place_of, IsScreen, is_rendering}
use Rattle.nj_dots.specs.Dots.{is_last_dot, dot_of, after_dots, to_event}
use Rattle.nj_catchup.specs.Place.{frame_dots, place_ahead}
use Rattle.nj_dots.proofs.Kept.{after_dots-fits}
use Rattle.nj_dots.proofs.Events.{to-event-at, to_event-at, place_of-lt}
use Rattle.nj_dots.proofs.Moving.{place_of-after, not-last, is-last, is-last-odd, IsLastPlace, last-place, GoesOn, goes-on, Restarts, restarts}

abbrev pub skips-of : Screen → Bool
skips-of s = s.odd_frame && is_rendering s.mask

dots-above : (n : ℕ) (skip : Bool) → n < 89342 → n < frame_dots n skip
unfolding frame_dots
dots-above n skip below = grind (arith, nat_tests, below)

dots-cases : (n : ℕ) (skip : Bool) → (frame_dots n skip ≡ 89342) ⊎ ((frame_dots n skip ≡ 89341) × (skip ≡ true))
unfolding frame_dots
dots-cases n true = elim (cases_lt 89340 n) [
  | inl past ↦ inl (grind (arith, nat_tests, past))
  | inr there ↦ inr (grind (arith, nat_tests, there), refl)
]
dots-cases n false = inl (grind (arith, nat_tests))

pub dots-least : (n : ℕ) (skip : Bool) → 89341 ≤ frame_dots n skip
unfolding frame_dots
dots-least n skip = grind (arith, nat_tests)

dots-odd : (n : ℕ) (skip : Bool) → n ≤ 89340 → skip ≡ true → frame_dots n skip ≡ 89341
unfolding frame_dots
dots-odd n skip there odd = grind (arith, nat_tests, there, odd)

-- the event after next is behind the frame's end
event-near : (n : ℕ) (skip : Bool) → n < 89342 → to-event-at n skip + n ≤ frame_dots n skip + 82183
unfolding to-event-at frame_dots
event-near n skip below = grind (arith, nat_tests, below)

event-small : (n : ℕ) (skip : Bool) → n < 89342 → to-event-at n skip ≤ 89342
unfolding to-event-at
event-small n skip below = grind (arith, nat_tests, below)

pub to_event-small : (s : Screen) → IsScreen s → to_event s ≤ 89342
to_event-small s fits =
    omega (arith, to_event-at s, event-small (place_of s.position) (skips-of s) (place_of-lt s fits.placed))

-- still in the frame
pub record Before (k : ℕ) (s e : Screen) : Type 0 where
  pub place : place_of e.position ≡ place_of s.position + k
  pub below : place_of s.position + k < frame_dots (place_of s.position) (skips-of s)
  pub odd_frame : e.odd_frame ≡ s.odd_frame
  pub mask : e.mask ≡ s.mask

-- in the next one
pub record Past (k : ℕ) (s e : Screen) : Type 0 where
  pub place : place_of e.position + frame_dots (place_of s.position) (skips-of s) ≡ place_of s.position + k

-- a dot in the next frame goes on, since the next event is before its end
past-dot : (k : ℕ) (p : List ℕ) (s e : Screen) → IsScreen s → IsScreen e → suc k < to_event s → Past k s e
    → Past (suc k) s (dot_of p e)
past-dot k p s e fits there below h =
    let close : to-event-at (place_of s.position) (skips-of s) + place_of s.position
    ≤ frame_dots (place_of s.position) (skips-of s) + 82183 =
    event-near (place_of s.position) (skips-of s) (place_of-lt s fits.placed) in
    let early : place_of e.position < 89340 = omega (arith, close, to_event-at s, below, h.place) in
    let next : GoesOn e (dot_of p e) = goes-on p e (not-last e early) in
    let further : place_of (dot_of p e).position ≡ place_of e.position + 1 =
    ap place_of next.position ∙ place_of-after e.position there.placed.dot in
    record { place = omega (arith, further, h.place) }

-- the frame's last dot ends it
before-last : (k : ℕ) (s e : Screen) → IsScreen s → IsScreen e → Before k s e → is_last_dot e ≡ true
    → place_of s.position + suc k ≡ frame_dots (place_of s.position) (skips-of s)
before-last k s e fits there h last =
    let l : IsLastPlace e = last-place e last in
    let same : skips-of e ≡ skips-of s =
    ap (λ b. b && is_rendering e.mask) h.odd_frame ∙ ap (λ m. s.odd_frame && is_rendering m) h.mask in
    elim (cases_eq (place_of e.position) 89340) [
      | inl at ↦
          omega (
            arith,
            at,
            h.place,
            dots-odd (place_of s.position) (skips-of s) (omega (arith, at, h.place)) (sym same ∙ l.skips at),
          )
      | inr apart ↦ (elim (dots-cases (place_of s.position) (skips-of s)) [
        | inl whole ↦ omega (arith, apart, l.late, h.place, h.below, whole)
        | inr odd ↦ omega (arith, apart, l.late, h.place, h.below, odd.0)
      ])
    ]

-- another does not
before-more : (k : ℕ) (s e : Screen) → IsScreen e → Before k s e → is_last_dot e ≡ false
    → place_of s.position + suc k < frame_dots (place_of s.position) (skips-of s)
before-more k s e there h goes_on =
    let same : skips-of e ≡ skips-of s =
    ap (λ b. b && is_rendering e.mask) h.odd_frame ∙ ap (λ m. s.odd_frame && is_rendering m) h.mask in
    elim (cases_lt (place_of s.position + suc k) (frame_dots (place_of s.position) (skips-of s))) [
      | inl below ↦ below
      | inr from ↦ (elim (dots-cases (place_of s.position) (skips-of s)) [
        | inl whole ↦
            absurd (true≢false (sym (is-last e there.placed (omega (arith, whole, from, h.place, h.below))) ∙ goes_on))
        | inr odd ↦
            absurd (true≢false
            (sym (is-last-odd e there.placed (omega (arith, odd.0, from, h.place, h.below)) (same ∙ odd.1)) ∙ goes_on))
      ])
    ]

before-dot : (k : ℕ) (p : List ℕ) (s e : Screen) → IsScreen s → IsScreen e → Before k s e
    → Before (suc k) s (dot_of p e) ⊎ Past (suc k) s (dot_of p e)
before-dot k p s e fits there h = elim (cases_Bool (is_last_dot e)) [
  | inl last ↦ (
      let next : Restarts e (dot_of p e) = restarts p e last in
      let at : place_of (dot_of p e).position ≡ 0 = omega (arith, next.start.line, next.start.dot) in
      inr (record { place = omega (arith, at, before-last k s e fits there h last) }))
  | inr goes_on ↦ (
      let next : GoesOn e (dot_of p e) = goes-on p e goes_on in
      let further : place_of (dot_of p e).position ≡ place_of e.position + 1 =
      ap place_of next.position ∙ place_of-after e.position there.placed.dot in
      inl (record {
        place = omega (arith, further, h.place);
        below = before-more k s e there h goes_on;
        odd_frame = next.odd_frame ∙ h.odd_frame;
        mask = next.mask ∙ h.mask;
      }))
]

pub ahead : (k : ℕ) (p : List ℕ) (s : Screen) → IsScreen s → k < to_event s
    → Before k s (after_dots k p s) ⊎ Past k s (after_dots k p s)
unfolding after_dots
ahead zero p s fits below =
    let within : place_of s.position < frame_dots (place_of s.position) (skips-of s) =
    dots-above (place_of s.position) (skips-of s) (place_of-lt s fits.placed) in
    inl (record { place = omega arith; below = omega (arith, within); odd_frame = refl; mask = refl })
ahead (suc k) p s fits below =
    let there : IsScreen (after_dots k p s) = after_dots-fits k p s fits in
    elim (ahead k p s fits (omega (arith, below))) [
      | inl before ↦ before-dot k p s (after_dots k p s) fits there before
      | inr past ↦ inr (past-dot k p s (after_dots k p s) fits there below past)
    ]

-- the place as one number
ahead-in : (k n m : ℕ) (skip : Bool) → m ≡ n + k → n + k < frame_dots n skip → place_ahead k n skip ≡ m
unfolding place_ahead
ahead-in k n m skip at below = grind (arith, nat_tests, at, below)

ahead-past : (k n m : ℕ) (skip : Bool) → m + frame_dots n skip ≡ n + k → place_ahead k n skip ≡ m
unfolding place_ahead
ahead-past k n m skip at = grind (arith, nat_tests, at)

pub place-after : (k : ℕ) (p : List ℕ) (s : Screen) → IsScreen s → k < to_event s
    → place_ahead k (place_of s.position) (skips-of s) ≡ place_of (after_dots k p s).position
place-after k p s fits below = elim (ahead k p s fits below) [
  | inl before ↦ ahead-in k (place_of s.position) _ (skips-of s) before.place before.below
  | inr past ↦ ahead-past k (place_of s.position) _ (skips-of s) past.place
]

-- a position from its place
pub position-at : (n : ℕ) (q : Position) → q.dot < 341 → n ≡ place_of q → record { line = n / 341; dot = n % 341 } ≡ q
position-at n q within at =
    let l : n / 341 ≡ q.line = omega (arith, within, at) in
    let d : n % 341 ≡ q.dot = omega (arith, within, at) in
    (λ i. record { line = l i; dot = d i })

pub position-after : (k : ℕ) (p : List ℕ) (s : Screen) → IsScreen s → k < to_event s
    → record {
      line = place_ahead k (place_of s.position) (skips-of s) / 341;
      dot = place_ahead k (place_of s.position) (skips-of s) % 341;
    } ≡ (after_dots k p s).position
position-after k p s fits below =
    let there : IsScreen (after_dots k p s) = after_dots-fits k p s fits in
    position-at (place_ahead k (place_of s.position) (skips-of s)) (after_dots k p s).position there.placed.dot
    (place-after k p s fits below)
