-- What raising, flags and moving on leave as it is, and so what stands before a dot's move.
use Rattle.std.proofs.Common.{◌≡◌, ℕ, Bool, true, false, if◌then◌else◌, List, refl, ap, sym, ◌∙◌}
use Rattle.std.proofs.lemmas.Bool.{true≢false}
use Rattle.nj_dots.specs.declared.screen.Screen.{Screen}
use Rattle.nj_dots.specs.Screen.{is_rendering}
use Rattle.nj_dots.specs.Dots.{raised, blank_begun, blank_ended, flagged, shown, emptied, hidden, drawn, frame_begun, advanced, moved, dot_of}
use Rattle.nj_dots.specs.Laws.{with_timing, ChangesTimingAlone}
use Rattle.nj_dots.proofs.Stays.{Stays, stays-drawn}

-- the first picture with flags, hold, `near` and end mark of the second
abbrev pub with_flags : Screen → Screen → Screen
with_flags s e = record s {
  vertical_blank = e.vertical_blank;
  sprite_zero_hit = e.sprite_zero_hit;
  sprite_overflow = e.sprite_overflow;
  hold = e.hold;
  near = e.near;
  ended = e.ended;
}

-- the second picture is the first but for those
pub record Flags (s e : Screen) : Type 0 where
  pub same : e ≡ with_flags s e

flags-if : (b : Bool) (s x y : Screen) → Flags s x → Flags s y → Flags s (if b then x else y)
flags-if true s x y h k = h
flags-if false s x y h k = k

flags-begun : (s : Screen) → Flags s (blank_begun s)
unfolding blank_begun
flags-begun s = record { same = refl }

flags-ended : (s : Screen) → Flags s (blank_ended s)
unfolding blank_ended
flags-ended s = record { same = refl }

flags-refl : (s : Screen) → Flags s s
flags-refl s = record { same = refl }

pub flags-flagged : (s : Screen) → Flags s (flagged s)
unfolding flagged
flags-flagged s = flags-if _ s _ _ (flags-begun s) (flags-if _ s _ _ (flags-ended s) (flags-refl s))

pub flags-raised : (s : Screen) → Flags s (raised s)
unfolding raised
flags-raised s = record { same = refl }

flags-trans : (a b c : Screen) → Flags a b → Flags b c → Flags a c
flags-trans a b c h k = record { same = k.same ∙ ap (λ m. with_flags m c) h.same }

-- the flags of a dot are done
pub flags-flagged_raised : (s : Screen) → Flags s (flagged (raised s))
flags-flagged_raised s = flags-trans s (raised s) _ (flags-raised s) (flags-flagged (raised s))

-- the picture before its position moves on
unfoldable pub before_move : List ℕ → Screen → Screen
before_move p s = drawn p (flagged (raised s))

pub dot_of-moved : (p : List ℕ) (s : Screen) → dot_of p s ≡ moved (before_move p s)
unfolding dot_of before_move
dot_of-moved p s = refl

-- what stands then
pub record Stands (s e : Screen) : Type 0 where
  pub position : e.position ≡ s.position
  pub odd_frame : e.odd_frame ≡ s.odd_frame
  pub mask : e.mask ≡ s.mask
  pub control : e.control ≡ s.control
  pub oam : e.oam ≡ s.oam
  pub vram : e.vram ≡ s.vram

pub before_move-stands : (p : List ℕ) (s : Screen) → Stands s (before_move p s)
unfolding before_move
before_move-stands p s =
    let flags : Flags s (flagged (raised s)) = flags-flagged_raised s in
    let stays : Stays (flagged (raised s)) (drawn p (flagged (raised s))) = stays-drawn p (flagged (raised s)) in
    record {
      position = ap (λ e. e.position) stays.same ∙ ap (λ e. e.position) flags.same;
      odd_frame = ap (λ e. e.odd_frame) stays.same ∙ ap (λ e. e.odd_frame) flags.same;
      mask = ap (λ e. e.mask) stays.same ∙ ap (λ e. e.mask) flags.same;
      control = ap (λ e. e.control) stays.same ∙ ap (λ e. e.control) flags.same;
      oam = ap (λ e. e.oam) stays.same ∙ ap (λ e. e.oam) flags.same;
      vram = ap (λ e. e.vram) stays.same ∙ ap (λ e. e.vram) flags.same;
    }

-- the first picture with the position and parity of the second
abbrev pub with_move : Screen → Screen → Screen
with_move s e = record s { position = e.position; odd_frame = e.odd_frame }

pub record Moves (s e : Screen) : Type 0 where
  pub same : e ≡ with_move s e

moves-if : (b : Bool) (s x y : Screen) → Moves s x → Moves s y → Moves s (if b then x else y)
moves-if true s x y h k = h
moves-if false s x y h k = k

moves-begun : (s : Screen) → Moves s (frame_begun s)
unfolding frame_begun
moves-begun s = record { same = refl }

moves-advanced : (s : Screen) → Moves s (advanced s)
unfolding advanced
moves-advanced s = record { same = refl }

-- moving on changes position and parity alone
pub moves-moved : (s : Screen) → Moves s (moved s)
unfolding moved
moves-moved s = moves-if _ s _ _ (moves-begun s) (moves-advanced s)

-- with rendering off the line's work may empty the sprite row and nothing else
timing-if : (b : Bool) (s x y : Screen) → ChangesTimingAlone s x → ChangesTimingAlone s y
    → ChangesTimingAlone s (if b then x else y)
timing-if true s x y h k = h
timing-if false s x y h k = k

timing-refl : (s : Screen) → ChangesTimingAlone s s
timing-refl s = record { same = refl }

timing-trans : (a b c : Screen) → ChangesTimingAlone a b → ChangesTimingAlone b c → ChangesTimingAlone a c
timing-trans a b c h k = record { same = k.same ∙ ap (λ m. with_timing m c) h.same }

timing-emptied : (s : Screen) → ChangesTimingAlone s (emptied s)
unfolding emptied
timing-emptied s = record { same = refl }

timing-hidden : (s : Screen) → ChangesTimingAlone s (hidden s)
unfolding hidden
timing-hidden s = timing-if _ s _ _ (timing-emptied s) (timing-refl s)

timing-choice : (b : Bool) (s x y : Screen) → b ≡ false → ChangesTimingAlone s y
    → ChangesTimingAlone s (if b then x else y)
timing-choice true s x y off h = absurd (true≢false off)
timing-choice false s x y off h = h

timing-drawn : (p : List ℕ) (s : Screen) → is_rendering s.mask ≡ false → ChangesTimingAlone s (drawn p s)
unfolding drawn
timing-drawn p s off =
    timing-if _ s _ _ (timing-choice (is_rendering s.mask) s (shown p s) (hidden s) off (timing-hidden s))
    (timing-refl s)

timing-flags : (s e : Screen) → Flags s e → ChangesTimingAlone s e
timing-flags s e h = record { same = h.same ∙ ap (λ m. with_timing s m) (sym h.same) }

timing-moves : (s e : Screen) → Moves s e → ChangesTimingAlone s e
timing-moves s e h = record { same = h.same ∙ ap (λ m. with_timing s m) (sym h.same) }

-- with rendering off a dot changes timing alone
pub timing-dot_of : (p : List ℕ) (s : Screen) → is_rendering s.mask ≡ false → ChangesTimingAlone s (dot_of p s)
unfolding dot_of
timing-dot_of p s off =
    let flags : Flags s (flagged (raised s)) = flags-flagged_raised s in
    let still : is_rendering (flagged (raised s)).mask ≡ false = ap (λ e. is_rendering e.mask) flags.same ∙ off in
    timing-trans s (flagged (raised s)) _ (timing-flags s _ flags)
    (timing-trans (flagged (raised s)) (drawn p (flagged (raised s))) _ (timing-drawn p (flagged (raised s)) still)
    (timing-moves (drawn p (flagged (raised s))) _ (moves-moved _)))
