-- A row has pixels at its eight places alone.
use Rattle.std.proofs.Common.{◌≡◌, ℕ, ◌+◌, ◌<◌, ◌≤◌, Bool, false, List, arith}
use Rattle.std.proofs.lemmas.Bool.Decides.{nat_tests}
use Rattle.nj_sprite0.specs.declared.row.SpriteRow.{SpriteRow}
use Rattle.nj_sprite0.specs.Sprite.{is_opaque_at}
use Rattle.nj_sprite0.specs.Meeting.{meets_at}

-- left of the row nothing meets
pub meets_at-left : (row : SpriteRow) (opaque : List ℕ) (left : Bool) (y : ℕ) → y < row.x → meets_at row opaque left y ≡ false
unfolding meets_at is_opaque_at
meets_at-left row opaque left y below = grind (arith, nat_tests)

-- right of the row nothing meets
pub meets_at-right : (row : SpriteRow) (opaque : List ℕ) (left : Bool) (y : ℕ) → row.x + 8 ≤ y → meets_at row opaque left y ≡ false
unfolding meets_at is_opaque_at
meets_at-right row opaque left y from = grind (arith, nat_tests)
