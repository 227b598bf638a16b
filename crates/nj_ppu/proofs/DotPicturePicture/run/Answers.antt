-- One more dot, by the definition's own two equations.
use Rattle.std.proofs.Common.{refl, ap, add-one, ◌∙◌}
use Rattle.nj_dots.specs.Dots.{after_dots, dot_of}
use Rattle.nj_ppu.proofs.DotPicturePicture.run.Goals as goal

pub loop-i-init : goal.loop-i-init
unfolding after_dots
loop-i-init c = refl

pub loop-i-preserved : goal.loop-i-preserved
unfolding after_dots
loop-i-preserved c =
    rw add-one (c.dot.ensures.dot ∙ ap (dot_of c.args.pattern.now) c.loop-i.invariant)
