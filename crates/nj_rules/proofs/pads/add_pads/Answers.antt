use Rattle.std.proofs.Common.{◌++◌, ◌∷◌, [], take, arith, ◌∙◌}
use Rattle.nj_rules.specs.Pads.{distinct}
use Rattle.nj_rules.proofs.Distinct.{added-step, added-differs, added-end}
use Rattle.nj_rules.proofs.pads.add_pads.Goals as goal

pub loop-pad-preserved : goal.loop-pad-preserved
loop-pad-preserved c =
    let before = take c.loop-pad.filled c.loop-pad.into in
    let after = take c.add_pad-filled.result c.add_pad-filled.new.into in (
      added-step before after c.args.pads.now (distinct (take c.args.count c.args.into.now ++ c.args.pads.now))
          c.loop-pad.pad-index c.pad.inside.0 c.pad-item.result c.loop-pad-test.true (c.pad.view_is ∙ c.pad-item.is)
          c.add_pad-filled.ensures.pads c.loop-pad.invariant.0,
      added-differs (before ++ c.pad.inside.0 ∷ []) after c.add_pad-filled.ensures.pads,
      omega (arith, c.loop-pad.invariant.2, c.add_pad-filled.ensures.grows),
      c.add_pad-filled.ensures.within,
      (λ k h. c.add_pad-filled.ensures.rest k h
          ∙ c.loop-pad.invariant.4 k (omega (arith, c.add_pad-filled.ensures.grows))),
    )

pub returns-clause-pads : goal.returns-clause-pads
returns-clause-pads c =
    added-end (take c.loop-pad.filled c.loop-pad.into) c.args.pads.now
    (distinct (take c.args.count c.args.into.now ++ c.args.pads.now))
    c.loop-pad.pad-index c.loop-pad.invariant.1 (omega arith) c.loop-pad.invariant.0
