-- All slots are empty.
use Rattle.std.proofs.Common.{◌<◌, ◌/◌, length, sym, subst, arith}
use Rattle.nj_seen.proofs.Emptying.{AreEmpty, none_yet, one_emptied, empty_is_table, empty_has_none}
use Rattle.nj_seen.proofs.forgetting.emptied.Goals as goal

pub loop-slot-init : goal.loop-slot-init
loop-slot-init c =
    subst (AreEmpty c.args.words.now 0) (sym (c.in_ok-rest.ensures.items_if_clones_equal (λ y e. e)))
    (none_yet c.args.words.now)

pub loop-slot-preserved : goal.loop-slot-preserved
loop-slot-preserved c =
    let l : c.loop-slot.slot < length c.args.words.now / 2 = c.loop-slot-test.true in
    one_emptied c.args.words.now c.loop-slot.rest.items c.loop-slot.slot (omega arith) c.loop-slot.invariant

pub returns-clause-table : goal.returns-clause-table
returns-clause-table c =
    empty_is_table c.args.words.now c.loop-slot.rest.items c.loop-slot.slot c.loop-slot-test.false
    c.requires c.loop-slot.invariant

pub returns-clause-size : goal.returns-clause-size
returns-clause-size c = c.loop-slot.invariant.size

pub returns-clause-empty : goal.returns-clause-empty
returns-clause-empty c =
    empty_has_none c.args.words.now c.loop-slot.rest.items c.loop-slot.slot c.loop-slot-test.false
    c.requires c.loop-slot.invariant
