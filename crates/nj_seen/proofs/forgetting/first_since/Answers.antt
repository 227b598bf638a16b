-- One slot more.
use Rattle.std.proofs.Common.{◌≡◌, ◌+◌, ◌*◌, ◌/◌, ◌<◌, ◌≤◌, length, min, sym, subst, ◌∙◌, arith}
use Rattle.std.specs.List.{All}
use Rattle.nj_claims.specs.Tables.{owner_at}
use Rattle.nj_seen.proofs.Slots.{least_taken, least_passed, holds_since, all_since_slots}
use Rattle.nj_seen.proofs.forgetting.first_since.Goals as goal
use Rattle.nj_seen.proofs.forgetting.first_since.Goals.{then-is_since, else-is_since}

pub loop-slot-preserved : goal.loop-slot-preserved
loop-slot-preserved c =
    let l : c.loop-slot.slot < length c.args.words.now / 2 = c.loop-slot-test.true in
    let inside : 2 * c.loop-slot.slot + 1 < length c.args.words.now = omega arith in
    let within : c.args.from ≤ c.loop-slot.first = c.loop-slot.invariant.within in
    elim c.if-is_since.branch [
      | then-is_since w ↦
          let t = sym c.is_since.ensures ∙ w.if-is_since.true in
          let is : c.if-is_since.first ≡ min c.loop-slot.first (owner_at c.args.words.now c.loop-slot.slot) =
          w.first-is ∙ w.min-first.ensures in
          let high : c.args.from ≤ owner_at c.args.words.now c.loop-slot.slot =
          (holds_since c.args.words.now c.args.from c.loop-slot.slot t).1 in
          record {
            least = least_taken c.args.words.now c.args.from c.loop-slot.slot c.loop-slot.first c.if-is_since.first
                inside t is c.loop-slot.invariant.least;
            within = omega arith;
          }
      | else-is_since w ↦ let is : c.if-is_since.first ≡ c.loop-slot.first = w.first-is in record {
        least = least_passed c.args.words.now c.args.from c.loop-slot.slot c.loop-slot.first c.if-is_since.first inside
            (sym c.is_since.ensures ∙ w.if-is_since.false) is c.loop-slot.invariant.least;
        within = omega arith;
      }
    ]

pub returns-clause-least : goal.returns-clause-least
returns-clause-least c =
    subst (All (λ entry. c.loop-slot.first ≤ entry.1))
    (all_since_slots c.args.words.now c.args.from c.loop-slot.slot c.loop-slot-test.false)
    c.loop-slot.invariant.least
