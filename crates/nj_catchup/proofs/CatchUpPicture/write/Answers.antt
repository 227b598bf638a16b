-- The pending dots run first.
use Rattle.std.proofs.Common.{ap, ◌∙◌}
use Rattle.nj_dots.specs.Registers.{after_write}
use Rattle.nj_catchup.specs.Limit.{pending_of}
use Rattle.nj_catchup.proofs.Sums.{dots-zero}
use Rattle.nj_catchup.proofs.CatchUpPicture.write.Goals as goal

pub returns-clause-after : goal.returns-clause-after
returns-clause-after c = λ p.
    dots-zero (pending_of c.of-self.result) p c.write-left.new.self c.of-self.ensures.pending
    ∙ c.write-left.ensures.after ∙ ap (after_write c.args.reg c.args.value) c.catch_up.ensures.screen
