-- The scroll registers keep their ranges.
use Rattle.std.proofs.Common.{ℕ, ◌<◌, Bool, true, false, if◌then◌else◌, arith}
use Rattle.std.proofs.lemmas.Bool.Decides.{nat_tests}
use Rattle.nj_dots.specs.declared.scroll.Scroll.{Scroll}
use Rattle.nj_dots.specs.Scroll.{IsScroll, next_column, next_tile_row, next_row, with_horizontal, with_vertical, scrolled, addressed}

-- a choice of two fits where both do
pub lt-if : (b : Bool) (x y n : ℕ) → x < n → y < n → (if b then x else y) < n
lt-if true x y n h k = h
lt-if false x y n h k = k

-- the next column fits
pub next_column-lt : (v : ℕ) → v < 32768 → next_column v < 32768
unfolding next_column
next_column-lt v fits = grind (arith, nat_tests)

-- the next row of tiles fits
pub next_tile_row-lt : (v : ℕ) → next_tile_row v < 32768
unfolding next_tile_row
next_tile_row-lt v = grind (arith, nat_tests)

-- the next row fits
pub next_row-lt : (v : ℕ) → v < 32768 → next_row v < 32768
unfolding next_row
next_row-lt v fits = grind (arith, nat_tests, next_tile_row-lt v)

-- v with the horizontal bits fits
pub with_horizontal-lt : (t v : ℕ) → v < 32768 → with_horizontal t v < 32768
unfolding with_horizontal
with_horizontal-lt t v fits = omega arith

-- v with the vertical bits fits
pub with_vertical-lt : (t v : ℕ) → with_vertical t v < 32768
unfolding with_vertical
with_vertical-lt t v = omega arith

-- a choice of two registers fits where both do
pub scroll-if : (b : Bool) (x y : Scroll) → IsScroll x → IsScroll y → IsScroll (if b then x else y)
scroll-if true x y h k = h
scroll-if false x y h k = k

-- they fit with another v that fits
pub with_v-fits : (s : Scroll) (v : ℕ) → v < 32768 → IsScroll s → IsScroll (record s { v = v })
with_v-fits s v new fits = record { v = new; t = fits.t; x = fits.x }

-- they fit after a write of $2005
pub scrolled-fits : (value : ℕ) (s : Scroll) → value < 256 → IsScroll s → IsScroll (scrolled value s)
unfolding scrolled
scrolled-fits value s byte fits =
    let t : s.t < 32768 = fits.t in
    scroll-if s.w _ _
    (record { v = fits.v; t = omega arith; x = fits.x })
    (record { v = fits.v; t = omega arith; x = omega arith })

-- they fit after a write of $2006
pub addressed-fits : (value : ℕ) (s : Scroll) → value < 256 → IsScroll s → IsScroll (addressed value s)
unfolding addressed
addressed-fits value s byte fits =
    let t : s.t < 32768 = fits.t in
    scroll-if s.w _ _
    (record { v = omega arith; t = omega arith; x = fits.x })
    (record { v = fits.v; t = omega arith; x = fits.x })
