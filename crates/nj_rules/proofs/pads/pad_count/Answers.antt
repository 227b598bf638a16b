use Rattle.std.proofs.Common.{◌≡◌, ◌∙◌, ◌++◌, refl, ap, take, arith, []}
use Rattle.std.specs.List.{flat_map}
use Rattle.nj_rules.specs.Pads.{distinct, named_pads}
use Rattle.nj_rules.proofs.Distinct.{added-differs, IsDistinct-none}
use Rattle.nj_rules.proofs.Offered.{named-taken, named-end, length_of_taken}
use Rattle.nj_rules.proofs.pads.pad_count.Goals as goal

pub loop-set-init : goal.loop-set-init
loop-set-init c = (refl, IsDistinct-none [], omega arith, refl)

pub loop-set-preserved : goal.loop-set-preserved
loop-set-preserved c =
    let before = take c.loop-set.count c.loop-set.into in
    let after = take c.add_pads-count.result c.add_pads-count.new.into in
    let set = c.set-item.result in
    let sets = c.as_slice-set-items.result.now in
    let grown : after ≡ distinct (before ++ set.pads) =
    c.add_pads-count.ensures.pads ∙ ap (λ xs. distinct (before ++ xs)) c.as_slice.ensures.value in (
      named-taken sets before after (distinct (flat_map (λ s. s.pads) sets)) c.loop-set.set-index set
          c.loop-set-test.true c.set-item.is grown c.loop-set.invariant.0,
      added-differs (before ++ set.pads) after grown,
      c.add_pads-count.ensures.within,
      c.add_pads-count.array_long,
    )

pub returns-clause-count : goal.returns-clause-count
unfolding named_pads
returns-clause-count c =
    let sets = c.as_slice-set-items.result.now in
    length_of_taken c.loop-set.into (distinct (flat_map (λ s. s.pads) c.args.sets.now.sets)) c.loop-set.count
    c.loop-set.invariant.3 c.loop-set.invariant.2
    (named-end sets (take c.loop-set.count c.loop-set.into) (distinct (flat_map (λ s. s.pads) sets))
    c.loop-set.set-index c.loop-set.invariant.1 c.loop-set-test.false c.loop-set.invariant.0
    ∙ ap (λ xs. distinct (flat_map (λ s. s.pads) xs)) c.as_slice-set-items.ensures.value)
