-- The dots up to the next change of the vertical blank flag.
use Rattle.std.proofs.Common.{◌≡◌, ◌≢◌, ℕ, zero, suc, ◌+◌, ◌-◌, ◌<◌, Bool, true, false, ◌&&◌, if◌then◌else◌, List, refl, ap, sym, ◌∙◌, arith, nat_le, inl, inr, ◌⊎◌}
use Rattle.std.proofs.lemmas.Bool.{cases_Bool, true≢false, cases_lt, cases_eq}
use Rattle.std.proofs.lemmas.Bool.Decides.{nat_tests}
use Rattle.nj_dots.specs.declared.screen.Screen.{Screen}
use Rattle.nj_dots.specs.Screen.{place_of, IsPlaced, IsScreen, is_rendering}
use Rattle.nj_dots.specs.Dots.{is_last_dot, dot_of, after_dots, to_event}
use Rattle.nj_dots.specs.Laws.{IsEvent}
use Rattle.nj_dots.proofs.Kept.{after_dots-fits}
use Rattle.nj_dots.proofs.Moving.{place_of-after, IsLastPlace, last-place, is-last, is-last-odd, GoesOn, goes-on, Restarts, restarts}

-- the count by place alone, where the frame leaves its last dot out and where not
unfoldable pub to-event-at : ℕ → Bool → ℕ
to-event-at place skip =
    if nat_le place 82182 then 82183 - place
    else (if nat_le place 89002 then 89003 - place
    else (if nat_le place 89340 && skip then 171524 - place else 171525 - place))

and-assoc : (a b c : Bool) → (a && b && c) ≡ (a && (b && c))
and-assoc true b c = refl
and-assoc false b c = refl

pub to_event-at : (s : Screen) → to_event s ≡ to-event-at (place_of s.position) (s.odd_frame && is_rendering s.mask)
unfolding to_event to-event-at
to_event-at s =
    ap (λ b. if nat_le (place_of s.position) 82182 then 82183 - place_of s.position
    else (if nat_le (place_of s.position) 89002 then 89003 - place_of s.position
    else (if b then 171524 - place_of s.position else 171525 - place_of s.position)))
    (and-assoc (nat_le (place_of s.position) 89340) s.odd_frame (is_rendering s.mask))

-- one place further it is one less
at-next : (n m : ℕ) (skip : Bool) → m ≡ n + 1 → n ≢ 82182 → n ≢ 89002 → n < 89341 → (n ≡ 89340 → skip ≡ false)
    → to-event-at m skip + 1 ≡ to-event-at n skip
unfolding to-event-at
at-next n m skip next a b late whole = grind (arith, nat_tests, next, a, b, late, whole)

-- from the last place to the first it is one less
at-first : (n : ℕ) (skip : Bool) → (n ≡ 89341) ⊎ ((n ≡ 89340) × (skip ≡ true)) → to-event-at n skip ≡ 82184
unfolding to-event-at
at-first n skip (inl at) = grind (arith, nat_tests, at)
at-first n skip (inr (at, odd)) = grind (arith, nat_tests, at, odd)

at-start : (skip : Bool) → to-event-at 0 skip ≡ 82183
unfolding to-event-at
at-start skip = refl

-- it is never 0
at-positive : (n : ℕ) (skip : Bool) → n < 89342 → 0 < to-event-at n skip
unfolding to-event-at
at-positive n skip below = grind (arith, nat_tests, below)

-- it is 1 at the two places
at-one : (n : ℕ) (skip : Bool) → n < 89342 → to-event-at n skip ≡ 1 → (n ≡ 82182) ⊎ (n ≡ 89002)
unfolding to-event-at
at-one n skip below one = elim (cases_eq n 82182) [
  | inl at ↦ inl at
  | inr apart ↦ (elim (cases_eq n 89002) [
    | inl at ↦ inr at
    | inr far ↦ absurd (grind (arith, nat_tests, below, one, apart, far))
  ])
]

at-begin : (skip : Bool) → to-event-at 82182 skip ≡ 1
unfolding to-event-at
at-begin skip = refl

at-end : (skip : Bool) → to-event-at 89002 skip ≡ 1
unfolding to-event-at
at-end skip = refl

-- places are below 89,342
pub place_of-lt : (s : Screen) → IsPlaced s.position → place_of s.position < 89342
place_of-lt s placed = omega (arith, placed.line, placed.dot)

pub to_event-positive : (s : Screen) → IsPlaced s.position → 0 < to_event s
to_event-positive s placed =
    omega (
      arith,
      to_event-at s,
      at-positive (place_of s.position) (s.odd_frame && is_rendering s.mask) (place_of-lt s placed),
    )

-- an event is the next dot exactly where the count is 1
pub event-one : (s : Screen) → IsEvent s → to_event s ≡ 1
event-one s (inl at) =
    let place : place_of s.position ≡ 82182 = omega (arith, at.line, at.dot) in
    to_event-at s ∙ ap (λ n. to-event-at n (s.odd_frame && is_rendering s.mask)) place ∙ at-begin _
event-one s (inr at) =
    let place : place_of s.position ≡ 89002 = omega (arith, at.line, at.dot) in
    to_event-at s ∙ ap (λ n. to-event-at n (s.odd_frame && is_rendering s.mask)) place ∙ at-end _

pub one-event : (s : Screen) → IsPlaced s.position → to_event s ≡ 1 → IsEvent s
one-event s placed one =
    elim (at-one (place_of s.position) (s.odd_frame && is_rendering s.mask) (place_of-lt s placed) (sym (to_event-at s)
    ∙ one)) [
      | inl at ↦
          inl (record {
            line = omega (arith, at, placed.line, placed.dot);
            dot = omega (arith, at, placed.line, placed.dot);
          })
      | inr at ↦
          inr (record {
            line = omega (arith, at, placed.line, placed.dot);
            dot = omega (arith, at, placed.line, placed.dot);
          })
    ]

-- a place that is not the last leaves its frame's last dot to come
before-last : (s : Screen) → IsPlaced s.position → is_last_dot s ≡ false → place_of s.position < 89341
before-last s placed goes_on = elim (cases_lt (place_of s.position) 89341) [
  | inl below ↦ below
  | inr from ↦ (
      let at : place_of s.position ≡ 89341 = omega (arith, from, place_of-lt s placed) in
      absurd (true≢false (sym (is-last s placed at) ∙ goes_on)))
]

whole-there : (s : Screen) → IsPlaced s.position → is_last_dot s ≡ false → place_of s.position ≡ 89340
    → (s.odd_frame && is_rendering s.mask) ≡ false
whole-there s placed goes_on at = elim (cases_Bool (s.odd_frame && is_rendering s.mask)) [
  | inl odd ↦ absurd (true≢false (sym (is-last-odd s placed at odd) ∙ goes_on))
  | inr whole ↦ whole
]

-- the last place is one of two
last-cases : (s : Screen) → IsPlaced s.position → is_last_dot s ≡ true
    → (place_of s.position ≡ 89341) ⊎ ((place_of s.position ≡ 89340) × ((s.odd_frame && is_rendering s.mask) ≡ true))
last-cases s placed last =
    let l : IsLastPlace s = last-place s last in
    elim (cases_eq (place_of s.position) 89340) [
      | inl at ↦ inr (at, l.skips at)
      | inr apart ↦ inl (omega (arith, l.late, place_of-lt s placed, apart))
    ]

-- a dot that is no event takes one away
pub to_event-dot : (p : List ℕ) (s : Screen) → IsScreen s → (IsEvent s → ⊥) → to_event (dot_of p s) + 1 ≡ to_event s
to_event-dot p s fits apart = elim (cases_Bool (is_last_dot s)) [
  | inl last ↦ (
      let e : Restarts s (dot_of p s) = restarts p s last in
      let there : place_of (dot_of p s).position ≡ 0 = omega (arith, e.start.line, e.start.dot) in
      let after : to_event (dot_of p s) ≡ 82183 =
      to_event-at (dot_of p s)
      ∙ ap (λ n. to-event-at n ((dot_of p s).odd_frame && is_rendering (dot_of p s).mask)) there ∙ at-start _ in
      let before : to_event s ≡ 82184 = to_event-at s ∙ at-first _ _ (last-cases s fits.placed last) in
      omega (arith, after, before))
  | inr goes_on ↦ (
      let e : GoesOn s (dot_of p s) = goes-on p s goes_on in
      let there : place_of (dot_of p s).position ≡ place_of s.position + 1 =
      ap place_of e.position ∙ place_of-after s.position fits.placed.dot in
      let same : ((dot_of p s).odd_frame && is_rendering (dot_of p s).mask) ≡ (s.odd_frame && is_rendering s.mask) =
      ap (λ b. b && is_rendering (dot_of p s).mask) e.odd_frame ∙ ap (λ m. s.odd_frame && is_rendering m) e.mask in
      let a : place_of s.position ≢ 82182 =
      λ at. apart
      (inl (record {
        line = omega (arith, at, fits.placed.line, fits.placed.dot);
        dot = omega (arith, at, fits.placed.line, fits.placed.dot);
      })) in
      let b : place_of s.position ≢ 89002 =
      λ at. apart
      (inr (record {
        line = omega (arith, at, fits.placed.line, fits.placed.dot);
        dot = omega (arith, at, fits.placed.line, fits.placed.dot);
      })) in
      ap (λ n. n + 1) (to_event-at (dot_of p s) ∙ ap (to-event-at (place_of (dot_of p s).position)) same)
      ∙ at-next (place_of s.position) (place_of (dot_of p s).position) (s.odd_frame && is_rendering s.mask) there a b
      (before-last s fits.placed goes_on) (whole-there s fits.placed goes_on)
      ∙ sym (to_event-at s))
]

-- after k dots before the event, k less
pub to_event-after : (k : ℕ) (p : List ℕ) (s : Screen) → IsScreen s → k < to_event s
    → to_event (after_dots k p s) + k ≡ to_event s
unfolding after_dots
to_event-after zero p s fits below = omega arith
to_event-after (suc k) p s fits below =
    let e : Screen = after_dots k p s in
    let here : to_event e + k ≡ to_event s = to_event-after k p s fits (omega (arith, below)) in
    let apart : IsEvent e → ⊥ =
    λ at. (let one : to_event e ≡ 1 = event-one e at in absurd (omega (arith, one, here, below))) in
    let next : to_event (dot_of p e) + 1 ≡ to_event e = to_event-dot p e (after_dots-fits k p s fits) apart in
    omega (arith, here, next)
