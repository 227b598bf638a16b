-- The frames of the candidates and of those that are kept.
use Rattle.std.proofs.Common.{length}
use Rattle.nj_expand.specs.Held.{candidates_in, kept_in}
use Rattle.nj_single.proofs.Frames.{both, at_most}
use Rattle.nj_single.proofs.step.next_single.Goals as goal

pub returns-in-Ok-clause-bound : goal.returns-in-Ok-clause-bound
returns-in-Ok-clause-bound g c =
    at_most c.args.search.now.plan.script.hold _ _ c.args.steps.now c.finish_alone.new.steps
    (both c.args.search.now.plan.script.hold (length (candidates_in c.args.search.now))
    (length (kept_in c.args.search.now)) c.args.steps.now c.rows_of.new.steps c.finish_alone.new.steps
    c.rows_of.ensures.frames c.finish_alone.ensures.frames)
    c.runs_are_bounded.ensures
