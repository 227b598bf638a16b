-- What dots before an event leave as it is: vertical blank, hold, end mark, registers and memories.
use Rattle.std.proofs.Common.{◌≡◌, ℕ, zero, suc, ◌+◌, ◌<◌, false, List, refl, ap, sym, ◌∙◌, arith, inl, inr}
use Rattle.nj_dots.specs.declared.screen.Screen.{Screen}
use Rattle.nj_dots.specs.Screen.{IsScreen, is_next, nmi_line_of}
use Rattle.nj_dots.specs.Dots.{raised, flagged, drawn, dot_of, after_dots, to_event}
use Rattle.nj_dots.specs.Laws.{IsEvent}
use Rattle.nj_dots.proofs.Stays.{Stays, stays-drawn}
use Rattle.nj_dots.proofs.Timing.{Moves, moves-moved}
use Rattle.nj_dots.proofs.Moving.{if-false, not-next}
use Rattle.nj_dots.proofs.Events.{event-one, to_event-after}

-- the first picture with what such dots may change, taken from the second
abbrev pub with_calm : Screen → Screen → Screen
with_calm s e = record s {
  position = e.position;
  odd_frame = e.odd_frame;
  sprite_zero_hit = e.sprite_zero_hit;
  sprite_overflow = e.sprite_overflow;
  near = e.near;
  scroll = (let c = s.scroll in record c { v = e.scroll.v });
  oam_address = e.oam_address;
  shift = e.shift;
  sprite_row = e.sprite_row;
}

-- the second picture is the first but for that
pub record Calm (s e : Screen) : Type 0 where
  pub same : e ≡ with_calm s e

calm-trans : (a b c : Screen) → Calm a b → Calm b c → Calm a c
calm-trans a b c h k = record { same = k.same ∙ ap (λ m. with_calm m c) h.same }

calm-raised : (s : Screen) → Calm s (raised s)
unfolding raised
calm-raised s = record { same = refl }

calm-drawn : (s e : Screen) → Stays s e → Calm s e
calm-drawn s e h = record { same = h.same ∙ ap (λ m. with_calm s m) (sym h.same) }

calm-moved : (s e : Screen) → Moves s e → Calm s e
calm-moved s e h = record { same = h.same ∙ ap (λ m. with_calm s m) (sym h.same) }

-- away from the events no flag is touched
pub flagged-apart : (s : Screen) → is_next 241 1 s ≡ false → is_next 261 1 s ≡ false → flagged s ≡ s
unfolding flagged
flagged-apart s a b = if-false (is_next 241 1 s) _ _ a ∙ if-false (is_next 261 1 s) _ _ b

-- raising moves nothing
pub raised-next : (l d : ℕ) (s : Screen) → is_next l d (raised s) ≡ is_next l d s
unfolding raised is_next
raised-next l d s = refl

pub calm-dot : (p : List ℕ) (s : Screen) → (IsEvent s → ⊥) → Calm s (dot_of p s)
unfolding dot_of
calm-dot p s apart =
    let a : is_next 241 1 (raised s) ≡ false = raised-next 241 1 s ∙ not-next 241 1 s (λ at. apart (inl at)) in
    let b : is_next 261 1 (raised s) ≡ false = raised-next 261 1 s ∙ not-next 261 1 s (λ at. apart (inr at)) in
    let still : flagged (raised s) ≡ raised s = flagged-apart (raised s) a b in
    let begun : Calm s (flagged (raised s)) =
    record {
      same = still ∙ (let r : Calm s (raised s) = calm-raised s in r.same)
          ∙ ap (λ m. with_calm s m) (sym still);
    } in
    calm-trans s (flagged (raised s)) _ begun
    (calm-trans (flagged (raised s)) (drawn p (flagged (raised s))) _
    (calm-drawn _ _ (stays-drawn p (flagged (raised s))))
    (calm-moved (drawn p (flagged (raised s))) _ (moves-moved _)))

pub calm-after : (k : ℕ) (p : List ℕ) (s : Screen) → IsScreen s → k < to_event s → Calm s (after_dots k p s)
unfolding after_dots
calm-after zero p s fits below = record { same = refl }
calm-after (suc k) p s fits below =
    let e : Screen = after_dots k p s in
    let here : Calm s e = calm-after k p s fits (omega (arith, below)) in
    let left : to_event e + k ≡ to_event s = to_event-after k p s fits (omega (arith, below)) in
    let apart : IsEvent e → ⊥ =
    λ at. (let one : to_event e ≡ 1 = event-one e at in absurd (omega (arith, one, left, below))) in
    calm-trans s e _ here (calm-dot p e apart)

-- so the NMI line and the mark stand
pub nmi_line-after : (k : ℕ) (p : List ℕ) (s : Screen) → IsScreen s → k < to_event s
    → nmi_line_of (after_dots k p s) ≡ nmi_line_of s
unfolding nmi_line_of
nmi_line-after k p s fits below =
    let h : Calm s (after_dots k p s) = calm-after k p s fits below in ap (λ e. nmi_line_of e) h.same

pub ended-after : (k : ℕ) (p : List ℕ) (s : Screen) → IsScreen s → k < to_event s → (after_dots k p s).ended ≡ s.ended
ended-after k p s fits below =
    let h : Calm s (after_dots k p s) = calm-after k p s fits below in ap (λ e. e.ended) h.same

-- a picture without a mark is the picture with its mark taken
pub unmarked-same : (s : Screen) → s.ended ≡ false → s ≡ record s { ended = false }
unmarked-same s h = ap (λ b. record s { ended = b }) h
