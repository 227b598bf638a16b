-- Register accesses keep the ranges of the picture's state.
use Rattle.std.proofs.Common.{ℕ, ◌%◌, ◌<◌, Bool, true, false, if◌then◌else◌, List, ◌∙◌, arith}
use Rattle.std.proofs.Math.ListN.{length-set}
use Rattle.nj_vram.specs.declared.Vram.{Vram}
use Rattle.nj_vram.specs.Home.{home, written}
use Rattle.nj_vram.specs.Laws.{IsSized}
use Rattle.nj_vram.proofs.Homes.{written_at-sized}
use Rattle.nj_dots.specs.declared.scroll.Scroll.{Scroll}
use Rattle.nj_dots.specs.declared.screen.Screen.{Screen}
use Rattle.nj_dots.specs.Scroll.{scrolled, addressed}
use Rattle.nj_dots.specs.Screen.{IsScreen}
use Rattle.nj_dots.specs.Registers.{after_status, after_oam_read, data_address, after_data_read, after_read, put_control, put_mask, put_nothing, put_oam_address, oam_kept, put_oam, put_scroll, put_address, put_data, after_write}
use Rattle.nj_dots.proofs.Kept.{screen-if}

-- fine X has three bits
record FineX (c : Scroll) : Type 0 where
  pub x : c.x < 8

x-if : (b : Bool) (c d : Scroll) → FineX c → FineX d → FineX (if b then c else d)
x-if true c d h k = h
x-if false c d h k = k

-- each of their cases
first-fine : (c : Scroll) (t : ℕ) → FineX c → FineX (record c { t = t; w = false })
first-fine c t h = record { x = h.x }

second-fine : (c : Scroll) (t x : ℕ) → x < 8 → FineX (record c { t = t; x = x; w = true })
second-fine c t x h = record { x = h }

both-fine : (c : Scroll) (v t : ℕ) → FineX c → FineX (record c { v = v; t = t; w = false })
both-fine c v t h = record { x = h.x }

first-set-fine : (c : Scroll) (t : ℕ) → FineX c → FineX (record c { t = t; w = true })
first-set-fine c t h = record { x = h.x }

scrolled-fine : (value : ℕ) (c : Scroll) → FineX c → FineX (scrolled value c)
unfolding scrolled
scrolled-fine value c h = x-if c.w _ _ (first-fine c _ h) (second-fine c _ (value % 8) (omega arith))

addressed-fine : (value : ℕ) (c : Scroll) → FineX c → FineX (addressed value c)
unfolding addressed
addressed-fine value c h = x-if c.w _ _ (both-fine c _ _ h) (first-set-fine c _ h)

-- after a write of $2005 or $2006
scrolled-x : (value : ℕ) (c : Scroll) → c.x < 8 → (scrolled value c).x < 8
scrolled-x value c h = let fine : FineX (scrolled value c) = scrolled-fine value c (record { x = h }) in fine.x

addressed-x : (value : ℕ) (c : Scroll) → c.x < 8 → (addressed value c).x < 8
addressed-x value c h = let fine : FineX (addressed value c) = addressed-fine value c (record { x = h }) in fine.x

after_status-fits : (s : Screen) → IsScreen s → IsScreen (after_status s)
unfolding after_status
after_status-fits s h =
    record { placed = h.placed; fine_x = h.fine_x; oam = h.oam; vram = h.vram }

after_oam_read-fits : (s : Screen) → IsScreen s → IsScreen (after_oam_read s)
unfolding after_oam_read
after_oam_read-fits s h = record { placed = h.placed; fine_x = h.fine_x; oam = h.oam; vram = h.vram }

after_data_read-fits : (p : List ℕ) (s : Screen) → IsScreen s → IsScreen (after_data_read p s)
unfolding after_data_read
after_data_read-fits p s h =
    record { placed = h.placed; fine_x = h.fine_x; oam = h.oam; vram = h.vram }

-- a read
pub after_read-fits : (reg : ℕ) (p : List ℕ) (s : Screen) → IsScreen s → IsScreen (after_read reg p s)
unfolding after_read
after_read-fits reg p s h =
    screen-if _ _ _ (after_status-fits s h)
    (screen-if _ _ _ (after_oam_read-fits s h) (screen-if _ _ _ (after_data_read-fits p s h) h))

put_control-fits : (value : ℕ) (s : Screen) → IsScreen s → IsScreen (put_control value s)
unfolding put_control
put_control-fits value s h =
    record { placed = h.placed; fine_x = h.fine_x; oam = h.oam; vram = h.vram }

put_mask-fits : (value : ℕ) (s : Screen) → IsScreen s → IsScreen (put_mask value s)
unfolding put_mask
put_mask-fits value s h = record { placed = h.placed; fine_x = h.fine_x; oam = h.oam; vram = h.vram }

put_nothing-fits : (value : ℕ) (s : Screen) → IsScreen s → IsScreen (put_nothing value s)
unfolding put_nothing
put_nothing-fits value s h = record { placed = h.placed; fine_x = h.fine_x; oam = h.oam; vram = h.vram }

put_oam_address-fits : (value : ℕ) (s : Screen) → IsScreen s → IsScreen (put_oam_address value s)
unfolding put_oam_address
put_oam_address-fits value s h = record { placed = h.placed; fine_x = h.fine_x; oam = h.oam; vram = h.vram }

put_oam-fits : (value : ℕ) (s : Screen) → IsScreen s → IsScreen (put_oam value s)
unfolding put_oam
put_oam-fits value s h =
    record {
      placed = h.placed;
      fine_x = h.fine_x;
      oam = length-set s.oam s.oam_address (oam_kept s.oam_address value)
          ∙ h.oam;
      vram = h.vram;
    }

put_scroll-fits : (value : ℕ) (s : Screen) → IsScreen s → IsScreen (put_scroll value s)
unfolding put_scroll
put_scroll-fits value s h =
    record { placed = h.placed; fine_x = scrolled-x value s.scroll h.fine_x; oam = h.oam; vram = h.vram }

put_address-fits : (value : ℕ) (s : Screen) → IsScreen s → IsScreen (put_address value s)
unfolding put_address
put_address-fits value s h =
    record { placed = h.placed; fine_x = addressed-x value s.scroll h.fine_x; oam = h.oam; vram = h.vram }

-- a write keeps the sizes of the picture's memory
vram-if : (b : Bool) (at value : ℕ) (m : Vram) → IsSized m → IsSized (if b then m else written m at value)
unfolding written
vram-if true at value m h = h
vram-if false at value m h = written_at-sized (home m.vertical at) value m h

put_data-fits : (value : ℕ) (s : Screen) → IsScreen s → IsScreen (put_data value s)
unfolding put_data
put_data-fits value s h =
    record { placed = h.placed; fine_x = h.fine_x; oam = h.oam; vram = vram-if _ (data_address s) value s.vram h.vram }

-- a write
pub after_write-fits : (reg value : ℕ) (s : Screen) → IsScreen s → IsScreen (after_write reg value s)
unfolding after_write
after_write-fits reg value s h =
    screen-if _ _ _ (put_control-fits value s h)
    (screen-if _ _ _ (put_mask-fits value s h)
    (screen-if _ _ _ (put_nothing-fits value s h)
    (screen-if _ _ _ (put_oam_address-fits value s h)
    (screen-if _ _ _ (put_oam-fits value s h)
    (screen-if _ _ _ (put_scroll-fits value s h)
    (screen-if _ _ _ (put_address-fits value s h)
    (put_data-fits value s h)))))))

-- what the check is to know of every access
pub ruleset fits_after = (after_read-fits, after_write-fits)
