-- Bit by bit.
use Rattle.std.proofs.Common.{ap, ◌==◌}
use Rattle.nj_sprite0.specs.Sprite.{has_bit}
use Rattle.nj_sprite0.proofs.Reversed.{reversed-bit}
use Rattle.nj_sprite0.proofs.laws.mirrored_rows.Goals as goal

pub returns : goal.returns
unfolding has_bit
returns c b k below = ap (λ n. n == 1) (reversed-bit b k below)
