-- the dots that are left lead to the same picture
use Rattle.std.proofs.Common.{◌≡◌}
use Rattle.nj_dots.specs.Screen.{IsScreen}
use Rattle.nj_dots.specs.Dots.{after_dots}
use Rattle.nj_catchup.proofs.advance.advance.Given as goal

abbrev pub invariant-loop-left : goal.invariant-loop-left
invariant-loop-left l =
    record {
      same : after_dots l.left l.pattern l.screen ≡ after_dots l.fn.dots l.pattern l.fn.screen;
      fits : IsScreen l.screen;
    }

abbrev pub decreases-loop-left : goal.decreases-loop-left
decreases-loop-left l = l.left
