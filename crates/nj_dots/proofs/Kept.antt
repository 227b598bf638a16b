-- Dots keep the ranges of the picture's state.
use Rattle.std.proofs.Common.{◌≡◌, ℕ, zero, suc, ◌<◌, Bool, true, false, if◌then◌else◌, List, refl, sym, subst, arith, lit<}
use Rattle.std.proofs.lemmas.Bool.Decides.{nat_tests}
use Rattle.std.proofs.Math.ListN.{length-replicate}
use Rattle.nj_dots.specs.declared.screen.Screen.{Screen}
use Rattle.nj_vram.specs.Home.{blank}
use Rattle.nj_dots.specs.Screen.{IsPlaced, IsScreen, is_next, power_on}
use Rattle.nj_dots.specs.Dots.{raised, blank_begun, blank_ended, flagged, drawn, is_last_dot, after_position, frame_begun, advanced, moved, dot_of, after_dots}
use Rattle.nj_dots.proofs.Stays.{Stays, with_drawn, stays-drawn}

-- a choice of two states
pub screen-if : (b : Bool) (x y : Screen) → IsScreen x → IsScreen y → IsScreen (if b then x else y)
screen-if true x y h k = h
screen-if false x y h k = k

-- the same, told which way it went
pub screen-where : (b : Bool) (x y : Screen) → (b ≡ true → IsScreen x) → (b ≡ false → IsScreen y)
    → IsScreen (if b then x else y)
screen-where true x y h k = h refl
screen-where false x y h k = k refl

pub raised-fits : (s : Screen) → IsScreen s → IsScreen (raised s)
unfolding raised
raised-fits s h = record { placed = h.placed; fine_x = h.fine_x; oam = h.oam; vram = h.vram }

blank_begun-fits : (s : Screen) → IsScreen s → IsScreen (blank_begun s)
unfolding blank_begun
blank_begun-fits s h = record { placed = h.placed; fine_x = h.fine_x; oam = h.oam; vram = h.vram }

blank_ended-fits : (s : Screen) → IsScreen s → IsScreen (blank_ended s)
unfolding blank_ended
blank_ended-fits s h = record { placed = h.placed; fine_x = h.fine_x; oam = h.oam; vram = h.vram }

pub flagged-fits : (s : Screen) → IsScreen s → IsScreen (flagged s)
unfolding flagged
flagged-fits s h = screen-if _ _ _ (blank_begun-fits s h) (screen-if _ _ _ (blank_ended-fits s h) h)

-- a state that differs by a line's work
drawn-like-fits : (s e : Screen) → IsScreen s → IsScreen (with_drawn s e)
drawn-like-fits s e h = record { placed = h.placed; fine_x = h.fine_x; oam = h.oam; vram = h.vram }

pub drawn-fits : (p : List ℕ) (s : Screen) → IsScreen s → IsScreen (drawn p s)
drawn-fits p s h =
    let stays : Stays s (drawn p s) = stays-drawn p s in
    subst IsScreen (sym stays.same) (drawn-like-fits s (drawn p s) h)

frame_begun-fits : (s : Screen) → IsScreen s → IsScreen (frame_begun s)
unfolding frame_begun
frame_begun-fits s h =
    record { placed = record { line = lit< tt; dot = lit< tt }; fine_x = h.fine_x; oam = h.oam; vram = h.vram }

-- the next dot's place is one of the frame, unless this one is the last
after_position-fits : (s : Screen) → IsPlaced s.position → is_last_dot s ≡ false → IsPlaced (after_position s.position)
unfolding after_position is_last_dot is_next
after_position-fits s h goes_on =
    record {
      line = grind (arith, nat_tests, h.line, h.dot, goes_on);
      dot = grind (arith, nat_tests, h.line, h.dot, goes_on);
    }

advanced-fits : (s : Screen) → IsScreen s → is_last_dot s ≡ false → IsScreen (advanced s)
unfolding advanced
advanced-fits s h goes_on =
    record { placed = after_position-fits s h.placed goes_on; fine_x = h.fine_x; oam = h.oam; vram = h.vram }

pub moved-fits : (s : Screen) → IsScreen s → IsScreen (moved s)
unfolding moved
moved-fits s h = screen-where (is_last_dot s) _ _ (λ last. frame_begun-fits s h) (λ goes_on. advanced-fits s h goes_on)

pub dot_of-fits : (p : List ℕ) (s : Screen) → IsScreen s → IsScreen (dot_of p s)
unfolding dot_of
dot_of-fits p s h = moved-fits _ (drawn-fits p _ (flagged-fits _ (raised-fits s h)))

pub after_dots-fits : (n : ℕ) (p : List ℕ) (s : Screen) → IsScreen s → IsScreen (after_dots n p s)
unfolding after_dots
after_dots-fits zero p s h = h
after_dots-fits (suc n) p s h = dot_of-fits p _ (after_dots-fits n p s h)

-- what the code's third and fourth step of a dot ask for
pub before_draw : (s : Screen) → IsScreen s → (flagged (raised s)).scroll.x < 8
before_draw s h = let fits : IsScreen (flagged (raised s)) = flagged-fits _ (raised-fits s h) in fits.fine_x

pub before_move : (p : List ℕ) (s : Screen) → IsScreen s → IsPlaced (drawn p (flagged (raised s))).position
before_move p s h =
    let fits : IsScreen (drawn p (flagged (raised s))) =
    drawn-fits p _ (flagged-fits _ (raised-fits s h)) in fits.placed

-- the picture at power-on
pub power_on-fits : (vertical : Bool) → IsScreen (power_on vertical)
unfolding power_on blank
power_on-fits vertical = record {
  placed = record { line = lit< tt; dot = lit< tt };
  fine_x = lit< tt;
  oam = length-replicate {A = ℕ} 256 0;
  vram = record { cells = length-replicate {A = ℕ} 2048 0; palette = length-replicate {A = ℕ} 32 0 };
}

-- what the check is to know of a dot, and of power-on
pub ruleset dot_facts = (before_draw, before_move, dot_of-fits)

pub ruleset screen_facts = (power_on-fits)
