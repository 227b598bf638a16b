-- One slot more.
use Rattle.std.proofs.Common.{◌+◌, ◌*◌, ◌/◌, ◌<◌, length, take, sym, ap, ◌∙◌, arith}
use Rattle.nj_claims.specs.Tables.{entries_in}
use Rattle.nj_seen.specs.Saved.{keys_by_owner}
use Rattle.nj_seen.proofs.Slots.{entries_more, all_slots}
use Rattle.nj_seen.proofs.telling.by_owner.Goals as goal

pub loop-slot-preserved : goal.loop-slot-preserved
loop-slot-preserved c =
    let l : c.loop-slot.slot < length c.args.words.now / 2 = c.loop-slot-test.true in
    let inside : 2 * c.loop-slot.slot + 1 < length c.args.words.now = omega (arith, l) in
    c.in_ok-put.ensures (entries_in (take (2 * c.loop-slot.slot) c.args.words.now)) c.args.count c.loop-slot.invariant
    ∙ ap (λ es. keys_by_owner es c.args.first c.args.count)
    (sym (entries_more c.args.words.now c.loop-slot.slot inside))

pub returns : goal.returns
returns c =
    c.loop-slot.invariant ∙ ap (λ es. keys_by_owner es c.args.first c.args.count)
    (all_slots c.args.words.now c.loop-slot.slot c.loop-slot-test.false)
