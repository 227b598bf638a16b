use Rattle.nj_dots.proofs.Timing.{timing-dot_of}
use Rattle.nj_dots.proofs.laws.rendering_off_leaves_memory.Goals as goal

pub returns : goal.returns
returns c p s off = timing-dot_of p s off
