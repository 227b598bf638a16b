-- The pending dots have run.
use Rattle.std.proofs.Common.{◌∙◌}
use Rattle.nj_catchup.specs.Limit.{pending_of}
use Rattle.nj_catchup.proofs.Sums.{dots-zero}
use Rattle.nj_catchup.proofs.CatchUpPicture.settle.Goals as goal

pub returns-clause-same : goal.returns-clause-same
returns-clause-same c = λ p.
    let e = c.catch_up.new.self in
    dots-zero (pending_of e.lull) p e.screen c.catch_up.ensures.pending ∙ c.catch_up.ensures.screen
