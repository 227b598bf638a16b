-- None is pending at power-on.
use Rattle.std.proofs.Common.{◌∙◌}
use Rattle.nj_catchup.specs.Limit.{pending_of}
use Rattle.nj_catchup.proofs.Sums.{dots-zero}
use Rattle.nj_catchup.proofs.CatchUp.new.Goals as goal

pub returns : goal.returns
returns c = λ p.
    dots-zero (pending_of c.of-lull.result) p c.power_on-screen.result c.of-lull.ensures.pending
    ∙ c.power_on-screen.ensures.screen
