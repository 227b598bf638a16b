-- One slot more.
use Rattle.std.proofs.Common.{◌≡◌, ◌+◌, ◌*◌, ◌/◌, ◌<◌, ◌≤◌, length, sym, ap, ◌∙◌, arith}
use Rattle.nj_seen.proofs.Slots.{count_taken, count_passed, all_since_slots}
use Rattle.nj_seen.proofs.forgetting.count_since.Goals as goal
use Rattle.nj_seen.proofs.forgetting.count_since.Goals.{then-is_since, else-is_since}

pub loop-slot-preserved : goal.loop-slot-preserved
loop-slot-preserved c =
    let l : c.loop-slot.slot < length c.args.words.now / 2 = c.loop-slot-test.true in
    let inside : 2 * c.loop-slot.slot + 1 < length c.args.words.now = omega arith in
    let few : c.loop-slot.count ≤ c.loop-slot.slot = c.loop-slot.invariant.few in
    elim c.if-is_since.branch [
      | then-is_since w ↦ let is : c.if-is_since.count ≡ c.loop-slot.count + 1 = w.count-is in record {
        counted = is ∙ (ap (λ n. n + 1) c.loop-slot.invariant.counted
            ∙ sym (count_taken c.args.words.now c.args.from c.loop-slot.slot inside
            (sym c.is_since.ensures ∙ w.if-is_since.true)));
        few = omega arith;
      }
      | else-is_since w ↦ let is : c.if-is_since.count ≡ c.loop-slot.count = w.count-is in record {
        counted = is ∙ (c.loop-slot.invariant.counted
            ∙ sym (count_passed c.args.words.now c.args.from c.loop-slot.slot inside
            (sym c.is_since.ensures ∙ w.if-is_since.false)));
        few = omega arith;
      }
    ]

pub returns : goal.returns
returns c = c.loop-slot.invariant.counted
    ∙ ap length (all_since_slots c.args.words.now c.args.from c.loop-slot.slot c.loop-slot-test.false)
