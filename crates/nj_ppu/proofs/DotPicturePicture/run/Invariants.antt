-- so many dots were run
use Rattle.std.proofs.Common.{◌≡◌}
use Rattle.nj_dots.specs.Dots.{after_dots}
use Rattle.nj_ppu.proofs.DotPicturePicture.run.Given as goal

abbrev pub invariant-loop-i : goal.invariant-loop-i
invariant-loop-i l = l.self.screen ≡ after_dots l._i l.pattern l.fn.self.screen
