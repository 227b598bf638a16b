-- One slot more.
use Rattle.std.proofs.Common.{◌≡◌, ◌+◌, ◌*◌, ◌/◌, ◌<◌, length, sym, subst, ◌∙◌, arith}
use Rattle.nj_seen.proofs.Published.{IsPublished, slot_published, slot_left, none_published, all_published, owners_published}
use Rattle.nj_seen.proofs.publishing.publish.Goals as goal
use Rattle.nj_seen.proofs.publishing.publish.Goals.{then-is_since, else-is_since}

pub loop-slot-init : goal.loop-slot-init
loop-slot-init c = none_published c.args.words.now c.args.step c.requires.table

pub loop-slot-preserved : goal.loop-slot-preserved
loop-slot-preserved c =
    let l : c.loop-slot.slot < length c.args.words.now / 2 = c.loop-slot-test.true in
    let size : length c.loop-slot.words ≡ length c.args.words.now = c.loop-slot.invariant.size in
    let inside : 2 * c.loop-slot.slot + 1 < length c.loop-slot.words = omega arith in
    elim c.if-is_since.branch [
      | then-is_since w ↦ subst (IsPublished c.args.words.now c.args.step (c.loop-slot.slot + 1)) (sym w.words-is)
          (slot_published c.args.words.now c.loop-slot.words c.args.step c.loop-slot.slot inside
          (sym c.is_since.ensures ∙ w.if-is_since.true) c.loop-slot.invariant)
      | else-is_since w ↦ subst (IsPublished c.args.words.now c.args.step (c.loop-slot.slot + 1)) (sym w.words-is)
          (slot_left c.args.words.now c.loop-slot.words c.args.step c.loop-slot.slot inside
          (sym c.is_since.ensures ∙ w.if-is_since.false) c.loop-slot.invariant)
    ]

pub is_since-requires : goal.is_since-requires
is_since-requires c =
    let l : c.loop-slot.slot < length c.args.words.now / 2 = c.loop-slot-test.true in
    let size : length c.loop-slot.words ≡ length c.args.words.now = c.loop-slot.invariant.size in
    omega arith

pub returns-clause-table : goal.returns-clause-table
returns-clause-table c = c.loop-slot.invariant.table

pub returns-clause-entries : goal.returns-clause-entries
returns-clause-entries c =
    all_published c.args.words.now c.loop-slot.words c.args.step c.loop-slot.slot
    c.loop-slot-test.false c.loop-slot.invariant

pub returns-clause-owners : goal.returns-clause-owners
returns-clause-owners c = λ key. owners_published c.args.words.now c.loop-slot.words c.args.step key
    (all_published c.args.words.now c.loop-slot.words c.args.step c.loop-slot.slot
    c.loop-slot-test.false c.loop-slot.invariant)
