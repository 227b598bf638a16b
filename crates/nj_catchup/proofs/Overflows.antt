-- Dots before an event of which none counts too many sprites leave the overflow flag.
use Rattle.std.proofs.Common.{◌≡◌, ℕ, zero, suc, ◌+◌, ◌<◌, ◌≤◌, true, false, List, ap, sym, ◌∙◌, arith, inl, inr, None}
use Rattle.std.proofs.lemmas.Bool.{cases_Bool, true≢false}
use Rattle.nj_dots.specs.declared.screen.Screen.{Screen}
use Rattle.nj_dots.specs.Screen.{place_of, IsScreen, is_rendering}
use Rattle.nj_dots.specs.Dots.{dot_of, after_dots, to_event}
use Rattle.nj_dots.specs.Laws.{IsEvent, IsNext, IsOverflow}
use Rattle.nj_dots.proofs.Kept.{after_dots-fits}
use Rattle.nj_catchup.specs.Steady.{IsAlong, IsAside}
use Rattle.nj_catchup.proofs.Calm.{Calm, calm-after}
use Rattle.nj_catchup.proofs.Ahead.{skips-of, dots-least, ahead}
use Rattle.nj_catchup.proofs.Misses.{along, no-event}

-- what a dot does to the flag, as the dots' law says it
abbrev pub IsRisen : Type 0
IsRisen = (p : List ℕ) (s : Screen) → s.sprite_overflow ≡ false → (dot_of p s).sprite_overflow ≡ true → IsOverflow s

abbrev pub IsFallen : Type 0
IsFallen = (p : List ℕ) (s : Screen) → s.sprite_overflow ≡ true → (dot_of p s).sprite_overflow ≡ false → IsNext 261 1 s

-- a dot that is no event leaves it where it is up
stays-up : IsFallen → (p : List ℕ) (s : Screen) → (IsEvent s → ⊥) → s.sprite_overflow ≡ true
    → (dot_of p s).sprite_overflow ≡ true
stays-up fallen p s apart up = elim (cases_Bool (dot_of p s).sprite_overflow) [
  | inl does ↦ does
  | inr does_not ↦ absurd (apart (inr (fallen p s up does_not)))
]

-- and where it counts no sprites
stays-down : IsRisen → (p : List ℕ) (s : Screen) → (IsOverflow s → ⊥) → s.sprite_overflow ≡ false
    → (dot_of p s).sprite_overflow ≡ false
stays-down risen p s none down = elim (cases_Bool (dot_of p s).sprite_overflow) [
  | inl does ↦ absurd (none (risen p s down does))
  | inr does_not ↦ does_not
]

-- dots
pub overflow-up : IsFallen → (k : ℕ) (p : List ℕ) (s : Screen) → IsScreen s → k < to_event s → s.sprite_overflow ≡ true
    → (after_dots k p s).sprite_overflow ≡ true
unfolding after_dots
overflow-up fallen zero p s fits below up = up
overflow-up fallen (suc k) p s fits below up =
    stays-up fallen p (after_dots k p s) (no-event k p s fits below)
    (overflow-up fallen k p s fits (omega (arith, below)) up)

overflow-down : IsRisen → (k : ℕ) (p : List ℕ) (s : Screen) → ((n : ℕ) → n < k → IsOverflow (after_dots n p s) → ⊥)
    → s.sprite_overflow ≡ false → (after_dots k p s).sprite_overflow ≡ false
unfolding after_dots
overflow-down risen zero p s none down = down
overflow-down risen (suc k) p s none down =
    stays-down risen p (after_dots k p s) (none k (omega arith))
    (overflow-down risen k p s (λ n within. none n (omega (arith, within))) down)

pub overflow-kept : IsRisen → IsFallen → (k : ℕ) (p : List ℕ) (s : Screen) → IsScreen s → k < to_event s
    → ((n : ℕ) → n < k → IsOverflow (after_dots n p s) → ⊥) → (after_dots k p s).sprite_overflow ≡ s.sprite_overflow
overflow-kept risen fallen k p s fits below none = elim (cases_Bool s.sprite_overflow) [
  | inl up ↦ overflow-up fallen k p s fits below up ∙ sym up
  | inr down ↦ overflow-down risen k p s none down ∙ sym down
]

-- no sprites are counted: rendering is off, the lines are below the visible ones, or dot 257 is aside
pub none-hidden : (n : ℕ) (p : List ℕ) (s : Screen) → IsScreen s → n < to_event s → is_rendering s.mask ≡ false
    → IsOverflow (after_dots n p s) → ⊥
none-hidden n p s fits below off h =
    let calm : Calm s (after_dots n p s) = calm-after n p s fits below in
    true≢false (sym h.renders ∙ ap (λ e. is_rendering e.mask) calm.same ∙ off)

pub none-below : (n k : ℕ) (p : List ℕ) (s : Screen) → IsScreen s → n < k → k < to_event s → 240 ≤ s.position.line
    → place_of s.position + k ≤ 89341 → IsOverflow (after_dots n p s) → ⊥
none-below n k p s fits within below from frame h =
    let there : IsScreen (after_dots n p s) = after_dots-fits n p s fits in
    elim (ahead n p s fits (omega (arith, below, within))) [
      | inl before ↦ omega (arith, before.place, from, there.placed.dot, h.line)
      | inr past ↦ omega (arith, past.place, frame, within, dots-least (place_of s.position) (skips-of s))
    ]

pub none-aside : (n k : ℕ) (p : List ℕ) (s : Screen) → IsScreen s → n < k
    → ((m d : ℕ) → m < k → IsAlong s.position.dot m d → IsAside None d) → IsOverflow (after_dots n p s) → ⊥
none-aside n k p s fits within aside h =
    let there : IsAside None (after_dots n p s).position.dot = aside n _ within (along n p s fits) in
    there.latch h.dot
