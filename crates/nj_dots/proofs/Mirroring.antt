-- No dot and no access changes the mirroring.
use Rattle.std.proofs.Common.{◌≡◌, ℕ, zero, suc, Bool, true, false, if◌then◌else◌, List, refl, ap, ◌∙◌}
use Rattle.nj_vram.specs.declared.Vram.{Vram}
use Rattle.nj_vram.specs.Home.{home, written}
use Rattle.nj_vram.proofs.Homes.{written_at-vertical}
use Rattle.nj_dots.specs.declared.screen.Screen.{Screen}
use Rattle.nj_dots.specs.Dots.{moved, dot_of, after_dots}
use Rattle.nj_dots.specs.Registers.{after_status, after_oam_read, data_address, after_data_read, after_read, put_control, put_mask, put_nothing, put_oam_address, put_oam, put_scroll, put_address, put_data, after_write}
use Rattle.nj_dots.proofs.Timing.{before_move, dot_of-moved, Moves, moves-moved, Stands, before_move-stands}

-- the second picture has the first's mirroring
pub record SameMirroring (s e : Screen) : Type 0 where
  pub vertical : e.vram.vertical ≡ s.vram.vertical

same-if : (b : Bool) (s x y : Screen) → SameMirroring s x → SameMirroring s y → SameMirroring s (if b then x else y)
same-if true s x y h k = h
same-if false s x y h k = k

same-refl : (s : Screen) → SameMirroring s s
same-refl s = record { vertical = refl }

pub dot_of-vertical : (p : List ℕ) (s : Screen) → (dot_of p s).vram.vertical ≡ s.vram.vertical
dot_of-vertical p s =
    let moves : Moves (before_move p s) (moved (before_move p s)) = moves-moved (before_move p s) in
    let stands : Stands s (before_move p s) = before_move-stands p s in
    ap (λ (e : Screen). e.vram.vertical) (dot_of-moved p s ∙ moves.same) ∙ ap (λ (m : Vram). m.vertical) stands.vram

pub after_dots-vertical : (n : ℕ) (p : List ℕ) (s : Screen) → (after_dots n p s).vram.vertical ≡ s.vram.vertical
unfolding after_dots
after_dots-vertical zero p s = refl
after_dots-vertical (suc n) p s = dot_of-vertical p (after_dots n p s) ∙ after_dots-vertical n p s

same-after_status : (s : Screen) → SameMirroring s (after_status s)
unfolding after_status
same-after_status s = record { vertical = refl }

same-after_oam_read : (s : Screen) → SameMirroring s (after_oam_read s)
unfolding after_oam_read
same-after_oam_read s = record { vertical = refl }

same-after_data_read : (p : List ℕ) (s : Screen) → SameMirroring s (after_data_read p s)
unfolding after_data_read
same-after_data_read p s = record { vertical = refl }

pub after_read-vertical : (reg : ℕ) (p : List ℕ) (s : Screen) → SameMirroring s (after_read reg p s)
unfolding after_read
after_read-vertical reg p s =
    same-if _ s _ _ (same-after_status s)
    (same-if _ s _ _ (same-after_oam_read s) (same-if _ s _ _ (same-after_data_read p s) (same-refl s)))

same-put_control : (value : ℕ) (s : Screen) → SameMirroring s (put_control value s)
unfolding put_control
same-put_control value s = record { vertical = refl }

same-put_mask : (value : ℕ) (s : Screen) → SameMirroring s (put_mask value s)
unfolding put_mask
same-put_mask value s = record { vertical = refl }

same-put_nothing : (value : ℕ) (s : Screen) → SameMirroring s (put_nothing value s)
unfolding put_nothing
same-put_nothing value s = record { vertical = refl }

same-put_oam_address : (value : ℕ) (s : Screen) → SameMirroring s (put_oam_address value s)
unfolding put_oam_address
same-put_oam_address value s = record { vertical = refl }

same-put_oam : (value : ℕ) (s : Screen) → SameMirroring s (put_oam value s)
unfolding put_oam
same-put_oam value s = record { vertical = refl }

same-put_scroll : (value : ℕ) (s : Screen) → SameMirroring s (put_scroll value s)
unfolding put_scroll
same-put_scroll value s = record { vertical = refl }

same-put_address : (value : ℕ) (s : Screen) → SameMirroring s (put_address value s)
unfolding put_address
same-put_address value s = record { vertical = refl }

put-vertical : (b : Bool) (at value : ℕ) (m : Vram) → (if b then m else written m at value).vertical ≡ m.vertical
unfolding written
put-vertical true at value m = refl
put-vertical false at value m = written_at-vertical (home m.vertical at) value m

same-put_data : (value : ℕ) (s : Screen) → SameMirroring s (put_data value s)
unfolding put_data
same-put_data value s = record { vertical = put-vertical _ (data_address s) value s.vram }

pub after_write-vertical : (reg value : ℕ) (s : Screen) → SameMirroring s (after_write reg value s)
unfolding after_write
after_write-vertical reg value s =
    same-if _ s _ _ (same-put_control value s)
    (same-if _ s _ _ (same-put_mask value s)
    (same-if _ s _ _ (same-put_nothing value s)
    (same-if _ s _ _ (same-put_oam_address value s)
    (same-if _ s _ _ (same-put_oam value s)
    (same-if _ s _ _ (same-put_scroll value s)
    (same-if _ s _ _ (same-put_address value s)
    (same-put_data value s)))))))
