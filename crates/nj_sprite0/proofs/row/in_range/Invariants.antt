-- the sprites so far are counted
use Rattle.std.proofs.Common.{◌≡◌}
use Rattle.nj_sprite0.proofs.Counts.{counted}
use Rattle.nj_sprite0.proofs.row.in_range.Given as goal

abbrev pub invariant-loop-sprite : goal.invariant-loop-sprite
invariant-loop-sprite l = l.count ≡ counted l.oam l.line l.tall l.sprite
