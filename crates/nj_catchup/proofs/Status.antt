-- A read of $2002 and dots before an event may change places, where no dot raises the hit flag or the overflow flag.
use Rattle.std.proofs.Common.{◌≡◌, ℕ, zero, suc, ◌+◌, ◌<◌, Bool, true, false, ◌&&◌, ◌||◌, ◌%◌, ◌==◌, if◌then◌else◌, nat_le, List, refl, ap, sym, ◌∙◌, subst, arith, inl, inr}
use Rattle.std.proofs.lemmas.Bool.{eq-eqb}
use Rattle.nj_dots.specs.declared.scroll.Scroll.{Scroll}
use Rattle.nj_dots.specs.declared.screen.Screen.{Screen}
use Rattle.nj_dots.specs.Scroll.{with_vertical}
use Rattle.nj_dots.specs.Screen.{IsScreen, is_next, is_rendering}
use Rattle.nj_dots.specs.Dots.{raised, flagged, is_hit_pixel, pixel, fetched_row, tile_fetched, line_ended, tile_ended, latched, vertical_copied, sprites_fetched, prefetched, shown, emptied, hidden, is_drawn_line, drawn, is_last_dot, frame_begun, advanced, moved, dot_of, after_dots, to_event}
use Rattle.nj_dots.specs.Registers.{status_byte, after_status, read_byte, after_read}
use Rattle.nj_dots.specs.Laws.{IsEvent}
use Rattle.nj_dots.proofs.Stays.{Stays, stays-drawn}
use Rattle.nj_dots.proofs.Timing.{Moves, moves-moved}
use Rattle.nj_dots.proofs.Moving.{if-true, not-next}
use Rattle.nj_dots.proofs.Events.{event-one, to_event-after}
use Rattle.nj_catchup.specs.Steady.{IsSteady}
use Rattle.nj_catchup.proofs.Calm.{Calm, calm-after, flagged-apart, raised-next}

-- the picture after a read of $2002 that answered this byte, with (241,1) not next
abbrev pub status_taken : ℕ → Screen → Screen
status_taken byte s =
    record s { latch = byte; vertical_blank = false; scroll = (let c = s.scroll in record c { w = false }) }

taken-if : (b : Bool) (byte : ℕ) (x y u v : Screen) → u ≡ status_taken byte x → v ≡ status_taken byte y
    → (if b then u else v) ≡ status_taken byte (if b then x else y)
taken-if true byte x y u v h k = h
taken-if false byte x y u v h k = k

taken-raised : (byte : ℕ) (s : Screen) → raised (status_taken byte s) ≡ status_taken byte (raised s)
unfolding raised
taken-raised byte s = refl

taken-pixel : (byte : ℕ) (s : Screen) → pixel (status_taken byte s) ≡ status_taken byte (pixel s)
unfolding pixel is_hit_pixel
taken-pixel byte s = refl

taken-tile_fetched : (byte : ℕ) (p : List ℕ) (s : Screen)
    → tile_fetched p (status_taken byte s) ≡ status_taken byte (tile_fetched p s)
unfolding tile_fetched fetched_row
taken-tile_fetched byte p s = refl

taken-line_ended : (byte : ℕ) (p : List ℕ) (s : Screen)
    → line_ended p (status_taken byte s) ≡ status_taken byte (line_ended p s)
unfolding line_ended tile_fetched fetched_row
taken-line_ended byte p s = refl

taken-tile_ended : (byte : ℕ) (p : List ℕ) (s : Screen)
    → tile_ended p (status_taken byte s) ≡ status_taken byte (tile_ended p s)
unfolding tile_ended
taken-tile_ended byte p s =
    let t : Screen = status_taken byte s in
    let tile : Screen = if s.position.dot % 8 == 0 then tile_fetched p s else s in
    taken-if (s.position.dot == 256) byte (line_ended p s) tile (line_ended p t) _ (taken-line_ended byte p s)
    (taken-if (s.position.dot % 8 == 0) byte (tile_fetched p s) s (tile_fetched p t) t (taken-tile_fetched byte p s)
    refl)

taken-latched : (byte : ℕ) (p : List ℕ) (s : Screen) → latched p (status_taken byte s) ≡ status_taken byte (latched p s)
unfolding latched
taken-latched byte p s = refl

copied-if : (b : Bool) (c : Scroll) (v : ℕ)
    → (if b then record c { v = v; w = false } else record c { w = false })
    ≡ (let d : Scroll = (if b then record c { v = v } else c) in record d { w = false })
copied-if true c v = refl
copied-if false c v = refl

taken-sprites_fetched : (byte : ℕ) (s : Screen)
    → sprites_fetched (status_taken byte s) ≡ status_taken byte (sprites_fetched s)
unfolding sprites_fetched vertical_copied
taken-sprites_fetched byte s =
    ap (λ (c : Scroll). record s { latch = byte; vertical_blank = false; oam_address = 0; scroll = c })
    (copied-if (s.position.line == 261 && nat_le 280 s.position.dot && nat_le s.position.dot 304) s.scroll
    (with_vertical s.scroll.t s.scroll.v))

taken-prefetched : (byte : ℕ) (p : List ℕ) (s : Screen)
    → prefetched p (status_taken byte s) ≡ status_taken byte (prefetched p s)
unfolding prefetched fetched_row
taken-prefetched byte p s = refl

taken-shown : (byte : ℕ) (p : List ℕ) (s : Screen) → shown p (status_taken byte s) ≡ status_taken byte (shown p s)
unfolding shown
taken-shown byte p s =
    let d : ℕ = s.position.dot in
    let t : Screen = status_taken byte s in
    let ahead : Screen = if d == 328 || d == 336 then prefetched p s else s in
    let fetch : Screen = if nat_le 258 d && nat_le d 320 then sprites_fetched s else ahead in
    let latch : Screen = if d == 257 then latched p s else fetch in
    taken-if (nat_le 1 d && nat_le d 256) byte (tile_ended p (pixel s)) latch (tile_ended p (pixel t)) _
    (ap (tile_ended p) (taken-pixel byte s) ∙ taken-tile_ended byte p (pixel s))
    (taken-if (d == 257) byte (latched p s) fetch (latched p t) _ (taken-latched byte p s)
    (taken-if (nat_le 258 d && nat_le d 320) byte (sprites_fetched s) ahead (sprites_fetched t) _
    (taken-sprites_fetched byte s)
    (taken-if (d == 328 || d == 336) byte (prefetched p s) s (prefetched p t) t (taken-prefetched byte p s) refl)))

taken-hidden : (byte : ℕ) (s : Screen) → hidden (status_taken byte s) ≡ status_taken byte (hidden s)
unfolding hidden emptied
taken-hidden byte s = taken-if (s.position.dot == 257) byte (emptied s) s _ _ refl refl

taken-drawn : (byte : ℕ) (p : List ℕ) (s : Screen) → drawn p (status_taken byte s) ≡ status_taken byte (drawn p s)
unfolding drawn
taken-drawn byte p s =
    let t : Screen = status_taken byte s in
    let work : Screen = if is_rendering s.mask then shown p s else hidden s in
    taken-if (is_drawn_line s.position.line) byte work s (if is_rendering s.mask then shown p t else hidden t) t
    (taken-if (is_rendering s.mask) byte (shown p s) (hidden s) (shown p t) (hidden t) (taken-shown byte p s)
    (taken-hidden byte s)) refl

taken-moved : (byte : ℕ) (s : Screen) → moved (status_taken byte s) ≡ status_taken byte (moved s)
unfolding moved is_last_dot is_next frame_begun advanced
taken-moved byte s = taken-if (is_last_dot s) byte (frame_begun s) (advanced s) _ _ refl refl

taken-next : (l d byte : ℕ) (s : Screen) → is_next l d (status_taken byte s) ≡ is_next l d s
unfolding is_next
taken-next l d byte s = refl

-- away from the events a dot and the read change places
pub taken-dot : (byte : ℕ) (p : List ℕ) (s : Screen) → (IsEvent s → ⊥)
    → dot_of p (status_taken byte s) ≡ status_taken byte (dot_of p s)
unfolding dot_of
taken-dot byte p s apart =
    let a : is_next 241 1 (raised s) ≡ false = raised-next 241 1 s ∙ not-next 241 1 s (λ at. apart (inl at)) in
    let b : is_next 261 1 (raised s) ≡ false = raised-next 261 1 s ∙ not-next 261 1 s (λ at. apart (inr at)) in
    let still : flagged (raised s) ≡ raised s = flagged-apart (raised s) a b in
    ap (λ e. moved (drawn p (flagged e))) (taken-raised byte s)
    ∙ ap (λ e. moved (drawn p e))
    (flagged-apart (status_taken byte (raised s)) (taken-next 241 1 byte (raised s)
    ∙ a) (taken-next 261 1 byte (raised s) ∙ b))
    ∙ ap moved (taken-drawn byte p (raised s))
    ∙ taken-moved byte (drawn p (raised s))
    ∙ ap (λ e. status_taken byte (moved (drawn p e))) (sym still)

pub taken-after : (byte k : ℕ) (p : List ℕ) (s : Screen) → IsScreen s → k < to_event s
    → after_dots k p (status_taken byte s) ≡ status_taken byte (after_dots k p s)
unfolding after_dots
taken-after byte zero p s fits below = refl
taken-after byte (suc k) p s fits below =
    let e : Screen = after_dots k p s in
    let left : to_event e + k ≡ to_event s = to_event-after k p s fits (omega (arith, below)) in
    let apart : IsEvent e → ⊥ =
    λ at. (let one : to_event e ≡ 1 = event-one e at in absurd (omega (arith, one, left, below))) in
    ap (dot_of p) (taken-after byte k p s fits (omega (arith, below))) ∙ taken-dot byte p e apart

or-false : (b : Bool) → (b || false) ≡ b
or-false true = refl
or-false false = refl

-- the read where (241,1) is not next
pub status-taken : (s : Screen) → is_next 241 1 s ≡ false → after_status s ≡ status_taken (status_byte s) s
unfolding after_status
status-taken s apart =
    ap (λ b. record s {
      latch = status_byte s;
      vertical_blank = false;
      scroll = (let c = s.scroll in record c { w = false });
      hold = s.hold || b;
    }) apart
    ∙ ap (λ b. record s {
      latch = status_byte s;
      vertical_blank = false;
      scroll = (let c = s.scroll in record c { w = false });
      hold = b;
    }) (or-false s.hold)

-- the byte stands where the two flags do
pub status_byte-after : (k : ℕ) (p : List ℕ) (s : Screen) → IsScreen s → IsSteady k p s
    → status_byte (after_dots k p s) ≡ status_byte s
unfolding status_byte
status_byte-after k p s fits steady =
    let e : Screen = after_dots k p s in
    let h : Calm s e = calm-after k p s fits (omega (arith, steady.apart)) in
    ap status_byte h.same
    ∙ ap (λ b. status_byte (record s { sprite_zero_hit = b; sprite_overflow = e.sprite_overflow })) steady.hit
    ∙ ap (λ b. status_byte (record s { sprite_overflow = b })) steady.overflow

-- a read with dots pending, none of which raises either flag nor stands before (241,1), is a read before them
pub status-after : (k : ℕ) (p : List ℕ) (s : Screen) → IsScreen s → IsSteady k p s
    → after_dots k p (after_status s) ≡ after_status (after_dots k p s)
status-after k p s fits steady =
    let e : Screen = after_dots k p s in
    let below : k + 1 < to_event s = steady.apart in
    let left : to_event e + k ≡ to_event s = to_event-after k p s fits (omega (arith, below)) in
    let here : is_next 241 1 s ≡ false =
    not-next 241 1 s
    (λ at. (let one : to_event s ≡ 1 = event-one s (inl at) in absurd (omega (arith, one, below)))) in
    let there : is_next 241 1 e ≡ false =
    not-next 241 1 e
    (λ at. (let one : to_event e ≡ 1 = event-one e (inl at) in absurd (omega (arith, one, left, below)))) in
    ap (after_dots k p) (status-taken s here)
    ∙ taken-after (status_byte s) k p s fits (omega (arith, below))
    ∙ ap (λ n. status_taken n e) (sym (status_byte-after k p s fits steady))
    ∙ sym (status-taken e there)

-- the hit flag after a dot that is no event
pub hit-dot : (p : List ℕ) (s : Screen) → (IsEvent s → ⊥) → (dot_of p s).sprite_zero_hit ≡ (s.sprite_zero_hit || s.near)
unfolding dot_of raised
hit-dot p s apart =
    let a : is_next 241 1 (raised s) ≡ false = raised-next 241 1 s ∙ not-next 241 1 s (λ at. apart (inl at)) in
    let b : is_next 261 1 (raised s) ≡ false = raised-next 261 1 s ∙ not-next 261 1 s (λ at. apart (inr at)) in
    let stays : Stays (flagged (raised s)) (drawn p (flagged (raised s))) = stays-drawn p (flagged (raised s)) in
    let moves : Moves (drawn p (flagged (raised s))) (moved (drawn p (flagged (raised s)))) =
    moves-moved (drawn p (flagged (raised s))) in
    ap (λ e. e.sprite_zero_hit) moves.same ∙ ap (λ e. e.sprite_zero_hit) stays.same
    ∙ ap (λ e. e.sprite_zero_hit) (flagged-apart (raised s) a b)

-- a hit flag that is up stays up before the event
pub hit-after : (k : ℕ) (p : List ℕ) (s : Screen) → IsScreen s → k < to_event s → s.sprite_zero_hit ≡ true
    → (after_dots k p s).sprite_zero_hit ≡ true
unfolding after_dots
hit-after zero p s fits below up = up
hit-after (suc k) p s fits below up =
    let e : Screen = after_dots k p s in
    let left : to_event e + k ≡ to_event s = to_event-after k p s fits (omega (arith, below)) in
    let apart : IsEvent e → ⊥ =
    λ at. (let one : to_event e ≡ 1 = event-one e at in absurd (omega (arith, one, left, below))) in
    hit-dot p e apart ∙ ap (λ b. b || e.near) (hit-after k p s fits (omega (arith, below)) up)

-- the read of $2002 by its number
pub read-two : (reg : ℕ) (p : List ℕ) (s : Screen) → reg ≡ 2 → after_read reg p s ≡ after_status s
unfolding after_read
read-two reg p s two = if-true (reg == 2) _ _ (eq-eqb _ _ two)

pub byte-two : (reg : ℕ) (s : Screen) → reg ≡ 2 → read_byte reg s ≡ status_byte s
unfolding read_byte
byte-two reg s two = if-true (reg == 2) _ _ (eq-eqb _ _ two)

-- it leaves what the next event and the mark depend on
pub record Untimed (s e : Screen) : Type 0 where
  pub event : to_event e ≡ to_event s
  pub ended : e.ended ≡ s.ended

status-untimed : (s : Screen) → Untimed s (after_status s)
unfolding after_status to_event
status-untimed s = record { event = refl; ended = refl }

pub read-untimed : (reg : ℕ) (p : List ℕ) (s e : Screen) → reg ≡ 2 → e ≡ after_read reg p s → Untimed s e
read-untimed reg p s e two is = subst (Untimed s) (sym (is ∙ read-two reg p s two)) (status-untimed s)

-- a read that the pending dots do not change
pub steady-byte : (reg k : ℕ) (p : List ℕ) (s : Screen) → IsScreen s → reg ≡ 2 → IsSteady k p s
    → read_byte reg s ≡ read_byte reg (after_dots k p s)
steady-byte reg k p s fits two h =
    byte-two reg s two ∙ sym (status_byte-after k p s fits h) ∙ sym (byte-two reg (after_dots k p s) two)

pub steady-read : (reg k : ℕ) (p q : List ℕ) (s : Screen) → IsScreen s → reg ≡ 2 → IsSteady k p s
    → after_dots k p (after_read reg q s) ≡ after_read reg q (after_dots k p s)
steady-read reg k p q s fits two h =
    ap (after_dots k p) (read-two reg q s two) ∙ status-after k p s fits h ∙ sym (read-two reg q (after_dots k p s) two)
