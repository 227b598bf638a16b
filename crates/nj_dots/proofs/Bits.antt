-- The scroll registers keep their bits: v and t 15, fine X three.
use Rattle.std.proofs.Common.{◌≡◌, ℕ, zero, suc, ◌<◌, Bool, true, false, if◌then◌else◌, List, ap, sym, subst, ◌∙◌, arith}
use Rattle.nj_dots.specs.declared.screen.Screen.{Screen}
use Rattle.nj_dots.specs.Scroll.{IsScroll}
use Rattle.nj_dots.specs.Dots.{raised, flagged, pixel, tile_fetched, line_ended, tile_ended, latched, vertical_copied, sprites_fetched, prefetched, shown, emptied, hidden, drawn, moved, dot_of, after_dots}
use Rattle.nj_dots.specs.Registers.{after_status, after_oam_read, next_address, after_data_read, after_read, put_control, put_mask, put_nothing, put_oam_address, put_oam, put_scroll, put_address, put_data, after_write}
use Rattle.nj_dots.proofs.Ranges.{next_column-lt, next_row-lt, with_horizontal-lt, with_vertical-lt, scrolled-fits, addressed-fits}
use Rattle.nj_dots.proofs.Stays.{Stays, stays-drawn}
use Rattle.nj_dots.proofs.Timing.{before_move, dot_of-moved, Moves, moves-moved, Flags, flags-flagged_raised}

-- v has 15 bits, after each step of a line's work
pub record FitsV (s : Screen) : Type 0 where
  pub v : s.scroll.v < 32768

v-if : (b : Bool) (x y : Screen) → FitsV x → FitsV y → FitsV (if b then x else y)
v-if true x y h k = h
v-if false x y h k = k

v-pixel : (s : Screen) → FitsV s → FitsV (pixel s)
unfolding pixel
v-pixel s h = record { v = h.v }

v-tile_fetched : (p : List ℕ) (s : Screen) → FitsV s → FitsV (tile_fetched p s)
unfolding tile_fetched
v-tile_fetched p s h = record { v = next_column-lt s.scroll.v h.v }

v-line_ended : (p : List ℕ) (s : Screen) → FitsV s → FitsV (line_ended p s)
unfolding line_ended
v-line_ended p s h =
    let fetched : FitsV (tile_fetched p s) = v-tile_fetched p s h in
    record { v = next_row-lt (tile_fetched p s).scroll.v fetched.v }

v-tile_ended : (p : List ℕ) (s : Screen) → FitsV s → FitsV (tile_ended p s)
unfolding tile_ended
v-tile_ended p s h = v-if _ _ _ (v-line_ended p s h) (v-if _ _ _ (v-tile_fetched p s h) h)

v-latched : (p : List ℕ) (s : Screen) → FitsV s → FitsV (latched p s)
unfolding latched
v-latched p s h = record { v = with_horizontal-lt s.scroll.t s.scroll.v h.v }

v-copied : (s : Screen) → FitsV s → (vertical_copied s).v < 32768
unfolding vertical_copied
v-copied s h = grind (arith, with_vertical-lt s.scroll.t s.scroll.v, h.v)

v-sprites_fetched : (s : Screen) → FitsV s → FitsV (sprites_fetched s)
unfolding sprites_fetched
v-sprites_fetched s h = record { v = v-copied s h }

v-prefetched : (p : List ℕ) (s : Screen) → FitsV s → FitsV (prefetched p s)
unfolding prefetched
v-prefetched p s h = record { v = next_column-lt s.scroll.v h.v }

v-shown : (p : List ℕ) (s : Screen) → FitsV s → FitsV (shown p s)
unfolding shown
v-shown p s h =
    v-if _ _ _ (v-tile_ended p (pixel s) (v-pixel s h))
    (v-if _ _ _ (v-latched p s h)
    (v-if _ _ _ (v-sprites_fetched s h)
    (v-if _ _ _ (v-prefetched p s h) h)))

v-emptied : (s : Screen) → FitsV s → FitsV (emptied s)
unfolding emptied
v-emptied s h = record { v = h.v }

v-hidden : (s : Screen) → FitsV s → FitsV (hidden s)
unfolding hidden
v-hidden s h = v-if _ _ _ (v-emptied s h) h

v-drawn : (p : List ℕ) (s : Screen) → FitsV s → FitsV (drawn p s)
unfolding drawn
v-drawn p s h = v-if _ _ _ (v-if _ _ _ (v-shown p s h) (v-hidden s h)) h

-- the scroll registers of a picture are in their ranges
pub record ScrollFits (s : Screen) : Type 0 where
  pub scroll : IsScroll s.scroll

-- as those of another do
scroll-same : (s e : Screen) → e.scroll ≡ s.scroll → ScrollFits s → ScrollFits e
scroll-same s e same h = record { scroll = subst IsScroll (sym same) h.scroll }

-- with another v that fits
scroll-v : (s e : Screen) (v : ℕ) → e.scroll ≡ (let c = s.scroll in record c { v = v }) → v < 32768 → ScrollFits s
    → ScrollFits e
scroll-v s e v same fits h =
    let t : s.scroll.t < 32768 = h.scroll.t in
    let x : s.scroll.x < 8 = h.scroll.x in
    record { scroll = subst IsScroll (sym same) (record { v = fits; t = t; x = x }) }

pub dot_of-scroll : (p : List ℕ) (s : Screen) → ScrollFits s → ScrollFits (dot_of p s)
unfolding before_move
dot_of-scroll p s h =
    let f : Screen = flagged (raised s) in
    let flags : Flags s f = flags-flagged_raised s in
    let stays : Stays f (drawn p f) = stays-drawn p f in
    let moves : Moves (drawn p f) (moved (drawn p f)) = moves-moved (drawn p f) in
    let before : ScrollFits f = scroll-same s f (ap (λ (e : Screen). e.scroll) flags.same) h in
    let v : FitsV (drawn p f) = v-drawn p f (record { v = before.scroll.v }) in
    let after : ScrollFits (drawn p f) =
    scroll-v f (drawn p f) (drawn p f).scroll.v (ap (λ (e : Screen). e.scroll) stays.same) v.v before in
    scroll-same (drawn p f) (dot_of p s) (ap (λ (e : Screen). e.scroll) (dot_of-moved p s ∙ moves.same)) after

pub after_dots-scroll : (n : ℕ) (p : List ℕ) (s : Screen) → ScrollFits s → ScrollFits (after_dots n p s)
unfolding after_dots
after_dots-scroll zero p s h = h
after_dots-scroll (suc n) p s h = dot_of-scroll p (after_dots n p s) (after_dots-scroll n p s h)

-- a choice of two
fits-if : (b : Bool) (x y : Screen) → ScrollFits x → ScrollFits y → ScrollFits (if b then x else y)
fits-if true x y h k = h
fits-if false x y h k = k

-- v fits after an access of $2007
next_address-lt : (control v : ℕ) → next_address control v < 32768
unfolding next_address
next_address-lt control v = omega arith

scroll-after_status : (s : Screen) → ScrollFits s → ScrollFits (after_status s)
unfolding after_status
scroll-after_status s h = record { scroll = record { v = h.scroll.v; t = h.scroll.t; x = h.scroll.x } }

scroll-after_oam_read : (s : Screen) → ScrollFits s → ScrollFits (after_oam_read s)
unfolding after_oam_read
scroll-after_oam_read s h = record { scroll = h.scroll }

scroll-after_data_read : (p : List ℕ) (s : Screen) → ScrollFits s → ScrollFits (after_data_read p s)
unfolding after_data_read
scroll-after_data_read p s h =
    record { scroll = record { v = next_address-lt s.control s.scroll.v; t = h.scroll.t; x = h.scroll.x } }

pub after_read-scroll : (reg : ℕ) (p : List ℕ) (s : Screen) → ScrollFits s → ScrollFits (after_read reg p s)
unfolding after_read
after_read-scroll reg p s h =
    fits-if _ _ _ (scroll-after_status s h)
    (fits-if _ _ _ (scroll-after_oam_read s h) (fits-if _ _ _ (scroll-after_data_read p s h) h))

scroll-put_control : (value : ℕ) (s : Screen) → ScrollFits s → ScrollFits (put_control value s)
unfolding put_control
scroll-put_control value s h =
    let t : s.scroll.t < 32768 = h.scroll.t in
    record { scroll = record { v = h.scroll.v; t = omega arith; x = h.scroll.x } }

scroll-put_mask : (value : ℕ) (s : Screen) → ScrollFits s → ScrollFits (put_mask value s)
unfolding put_mask
scroll-put_mask value s h = record { scroll = h.scroll }

scroll-put_nothing : (value : ℕ) (s : Screen) → ScrollFits s → ScrollFits (put_nothing value s)
unfolding put_nothing
scroll-put_nothing value s h = record { scroll = h.scroll }

scroll-put_oam_address : (value : ℕ) (s : Screen) → ScrollFits s → ScrollFits (put_oam_address value s)
unfolding put_oam_address
scroll-put_oam_address value s h = record { scroll = h.scroll }

scroll-put_oam : (value : ℕ) (s : Screen) → ScrollFits s → ScrollFits (put_oam value s)
unfolding put_oam
scroll-put_oam value s h = record { scroll = h.scroll }

scroll-put_scroll : (value : ℕ) (s : Screen) → value < 256 → ScrollFits s → ScrollFits (put_scroll value s)
unfolding put_scroll
scroll-put_scroll value s byte h = record { scroll = scrolled-fits value s.scroll byte h.scroll }

scroll-put_address : (value : ℕ) (s : Screen) → value < 256 → ScrollFits s → ScrollFits (put_address value s)
unfolding put_address
scroll-put_address value s byte h = record { scroll = addressed-fits value s.scroll byte h.scroll }

scroll-put_data : (value : ℕ) (s : Screen) → ScrollFits s → ScrollFits (put_data value s)
unfolding put_data
scroll-put_data value s h =
    record { scroll = record { v = next_address-lt s.control s.scroll.v; t = h.scroll.t; x = h.scroll.x } }

pub after_write-scroll : (reg value : ℕ) (s : Screen) → value < 256 → ScrollFits s
    → ScrollFits (after_write reg value s)
unfolding after_write
after_write-scroll reg value s byte h =
    fits-if _ _ _ (scroll-put_control value s h)
    (fits-if _ _ _ (scroll-put_mask value s h)
    (fits-if _ _ _ (scroll-put_nothing value s h)
    (fits-if _ _ _ (scroll-put_oam_address value s h)
    (fits-if _ _ _ (scroll-put_oam value s h)
    (fits-if _ _ _ (scroll-put_scroll value s byte h)
    (fits-if _ _ _ (scroll-put_address value s byte h)
    (scroll-put_data value s h)))))))
