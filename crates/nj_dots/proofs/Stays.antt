-- What the work of a dot on its line leaves as it is: all but `near`, v, the OAM address, the shift register, the
-- overflow flag and the sprite row.
use Rattle.std.proofs.Common.{◌≡◌, ℕ, Bool, true, false, if◌then◌else◌, List, refl, ap, ◌∙◌, ◌==◌, ◌&&◌, nat_le}
use Rattle.nj_dots.specs.declared.scroll.Scroll.{Scroll}
use Rattle.nj_dots.specs.declared.screen.Screen.{Screen}
use Rattle.nj_dots.specs.Scroll.{with_vertical}
use Rattle.nj_dots.specs.Dots.{pixel, tile_fetched, line_ended, tile_ended, latched, vertical_copied, sprites_fetched, prefetched, shown, emptied, hidden, drawn}

-- the first picture with what a line's work may change, taken from the second
abbrev pub with_drawn : Screen → Screen → Screen
with_drawn s e = record s {
  sprite_overflow = e.sprite_overflow;
  near = e.near;
  scroll = (let c = s.scroll in record c { v = e.scroll.v });
  oam_address = e.oam_address;
  shift = e.shift;
  sprite_row = e.sprite_row;
}

-- the second picture is the first but for that
pub record Stays (s e : Screen) : Type 0 where
  pub same : e ≡ with_drawn s e

-- a picture is itself
pub stays-refl : (s : Screen) → Stays s s
stays-refl s = record { same = refl }

-- one step after another
pub stays-trans : (a b c : Screen) → Stays a b → Stays b c → Stays a c
stays-trans a b c h k = record { same = k.same ∙ ap (λ m. with_drawn m c) h.same }

-- a choice of two
pub stays-if : (b : Bool) (s x y : Screen) → Stays s x → Stays s y → Stays s (if b then x else y)
stays-if true s x y h k = h
stays-if false s x y h k = k

pub stays-pixel : (s : Screen) → Stays s (pixel s)
unfolding pixel
stays-pixel s = record { same = refl }

pub stays-tile_fetched : (p : List ℕ) (s : Screen) → Stays s (tile_fetched p s)
unfolding tile_fetched
stays-tile_fetched p s = record { same = refl }

pub stays-line_ended : (p : List ℕ) (s : Screen) → Stays s (line_ended p s)
unfolding line_ended tile_fetched
stays-line_ended p s = record { same = refl }

pub stays-tile_ended : (p : List ℕ) (s : Screen) → Stays s (tile_ended p s)
unfolding tile_ended
stays-tile_ended p s =
    stays-if _ s _ _ (stays-line_ended p s)
    (stays-if _ s _ _ (stays-tile_fetched p s) (stays-refl s))

pub stays-latched : (p : List ℕ) (s : Screen) → Stays s (latched p s)
unfolding latched
stays-latched p s = record { same = refl }

pub stays-prefetched : (p : List ℕ) (s : Screen) → Stays s (prefetched p s)
unfolding prefetched
stays-prefetched p s = record { same = refl }

-- a choice of two that differ in v
scroll-v-if : (b : Bool) (c : Scroll) (v : ℕ)
    → (if b then record c { v = v } else c) ≡ record c { v = (if b then record c { v = v } else c).v }
scroll-v-if true c v = refl
scroll-v-if false c v = refl

-- the vertical copy changes v alone
vertical_copied-is : (s : Screen) → vertical_copied s ≡ (let c = s.scroll in record c { v = (vertical_copied s).v })
unfolding vertical_copied
vertical_copied-is s =
    scroll-v-if (s.position.line == 261 && nat_le 280 s.position.dot && nat_le s.position.dot 304) s.scroll
    (with_vertical s.scroll.t s.scroll.v)

pub stays-sprites_fetched : (s : Screen) → Stays s (sprites_fetched s)
unfolding sprites_fetched
stays-sprites_fetched s = record { same = ap (λ c. record s { oam_address = 0; scroll = c }) (vertical_copied-is s) }

pub stays-shown : (p : List ℕ) (s : Screen) → Stays s (shown p s)
unfolding shown
stays-shown p s =
    stays-if _ s _ _ (stays-trans s (pixel s) _ (stays-pixel s) (stays-tile_ended p (pixel s)))
    (stays-if _ s _ _ (stays-latched p s)
    (stays-if _ s _ _ (stays-sprites_fetched s)
    (stays-if _ s _ _ (stays-prefetched p s) (stays-refl s))))

pub stays-emptied : (s : Screen) → Stays s (emptied s)
unfolding emptied
stays-emptied s = record { same = refl }

pub stays-hidden : (s : Screen) → Stays s (hidden s)
unfolding hidden
stays-hidden s = stays-if _ s _ _ (stays-emptied s) (stays-refl s)

-- the work of a dot on its line
pub stays-drawn : (p : List ℕ) (s : Screen) → Stays s (drawn p s)
unfolding drawn
stays-drawn p s =
    stays-if _ s _ _ (stays-if _ s _ _ (stays-shown p s) (stays-hidden s)) (stays-refl s)
