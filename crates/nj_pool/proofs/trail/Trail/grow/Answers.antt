-- A step more is linked, and seen as grown.
use Rattle.std.proofs.Common.{is_ok}
use Rattle.nj_pool.proofs.Trails.{linked_after, grown_after}
use Rattle.nj_pool.proofs.trail.Trail.grow.Goals as goal

pub invariant_of-self : goal.invariant_of-self
invariant_of-self c =
    linked_after (is_ok c.push_step.result) c.self.inside.roots.items c.self.inside.steps.items _ c.args.born
    c.args.self.now
    c.push_step.ensures c.self.view_is c.self.invariant c.requires

pub returns : goal.returns
returns c =
    grown_after (is_ok c.push_step.result) c.self.inside.roots.items c.self.inside.steps.items _ c.args.born
    c.args.self.now
    c.push_step.ensures c.self.view_is
