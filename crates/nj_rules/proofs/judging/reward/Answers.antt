-- One rule more: what it gives leaves the sum of those that are left.
use Rattle.std.proofs.Common.{◌≡◌, ap, ◌∙◌, arith, pos, get_or, if◌then◌else◌}
use Rattle.std.proofs.lemmas.Int.{ints}
use Rattle.nj_rules.specs.Rules.{is_in, gain_of}
use Rattle.nj_rules.proofs.Members.{sum-members}
use Rattle.nj_rules.proofs.judging.reward.Goals as goal

pub loop-number-preserved : goal.loop-number-preserved
loop-number-preserved c =
    let step = sum-members c.args.ram.now c.args.status c.args.rules.now c.loop-number.number
    c.index-rules-number.result c.loop-number-test.true in
    let given : c.gain_if-sum.result
    ≡ (if is_in c.args.status c.loop-number.number
    then gain_of c.args.ram.now (get_or c.args.rules.now c.loop-number.number c.index-rules-number.result) else pos 0) =
    c.gain_if-sum.ensures.value
    ∙ ap (λ b. if b then gain_of c.args.ram.now c.index-rules-number.result else pos 0) c.contains.ensures
    ∙ ap (λ rule. if is_in c.args.status c.loop-number.number then gain_of c.args.ram.now rule else pos 0)
    c.index-rules-number.is in
    let before = c.loop-number.invariant.0 in
    let bound = c.loop-number.invariant.1 in
    (omega (arith, ints), omega (arith, ints))
