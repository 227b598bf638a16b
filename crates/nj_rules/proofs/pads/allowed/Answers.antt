use Rattle.std.proofs.Common.{◌≡◌, ◌∙◌, ◌++◌, take, true, arith, sym, refl, ap}
use Rattle.nj_property.specs.Condition.{all_hold_in}
use Rattle.nj_rules.specs.Pads.{distinct, offered_pads, allowed_pads}
use Rattle.nj_rules.proofs.Distinct.{added-differs, IsDistinct-none}
use Rattle.nj_rules.proofs.Offered.{offered-taken, offered-end, length_of_taken}
use Rattle.nj_rules.proofs.pads.allowed.Goals as goal

pub loop-set-init : goal.loop-set-init
loop-set-init c = (refl, IsDistinct-none c.args.into.now, omega arith, (λ k h. refl), c.told-into)

pub loop-set-preserved : goal.loop-set-preserved
loop-set-preserved c =
    let before = take c.loop-set.count c.loop-set.into in
    let after = take c.add_pads-count.result c.add_pads-count.new.into in
    let set = c.set-item.result in
    let sets = c.as_slice-set-items.result.now in
    let holds : all_hold_in c.args.ram.now set.when ≡ true =
    sym (c.if-not-all_hold.ensures ∙ ap (all_hold_in c.args.ram.now) c.as_slice.ensures.value) in
    let grown : after ≡ distinct (before ++ set.pads) =
    c.add_pads-count.ensures.pads ∙ ap (λ xs. distinct (before ++ xs)) c.as_slice-in-loop-set.ensures.value in (
      offered-taken sets c.args.ram.now before after (distinct (offered_pads sets c.args.ram.now)) c.loop-set.set-index
          set c.loop-set-test.true c.set-item.is holds c.if-set.false grown c.loop-set.invariant.0,
      added-differs (before ++ set.pads) after grown,
      c.add_pads-count.ensures.within,
      (λ k h. c.add_pads-count.ensures.rest k h
          ∙ c.loop-set.invariant.3 k (omega (arith, c.add_pads-count.ensures.grows))),
      c.add_pads-count.array_long,
    )

pub returns-clause-pads : goal.returns-clause-pads
unfolding allowed_pads
returns-clause-pads c =
    let sets = c.as_slice-set-items.result.now in
    offered-end sets c.args.ram.now (take c.loop-set.count c.loop-set.into)
    (distinct (offered_pads sets c.args.ram.now)) c.loop-set.set-index c.loop-set.invariant.1 c.loop-set-test.false
    c.loop-set.invariant.0
    ∙ ap (λ xs. distinct (offered_pads xs c.args.ram.now)) c.as_slice-set-items.ensures.value

pub returns-clause-count : goal.returns-clause-count
unfolding allowed_pads
returns-clause-count c =
    let sets = c.as_slice-set-items.result.now in
    length_of_taken c.loop-set.into (distinct (offered_pads c.args.sets.now.sets c.args.ram.now)) c.loop-set.count
    c.loop-set.invariant.4 c.loop-set.invariant.2
    (offered-end sets c.args.ram.now (take c.loop-set.count c.loop-set.into)
    (distinct (offered_pads sets c.args.ram.now)) c.loop-set.set-index c.loop-set.invariant.1 c.loop-set-test.false
    c.loop-set.invariant.0
    ∙ ap (λ xs. distinct (offered_pads xs c.args.ram.now)) c.as_slice-set-items.ensures.value)
