-- Told of the pending dots.
use Rattle.std.proofs.Common.{subst}
use Rattle.nj_catchup.specs.Steady.{IsSteady}
use Rattle.nj_catchup.proofs.CatchUp.is_steady.Goals as goal

pub returns-then-reg-eq2-clause-steady : goal.returns-then-reg-eq2-clause-steady
returns-then-reg-eq2-clause-steady c = λ p steady.
    subst (λ n. IsSteady n p c.args.self.now.screen) c.pending.ensures (c.is_steady.ensures p steady)
