use Rattle.std.proofs.Common.{refl, arith, get_or, set}
use Rattle.nj_pieces.proofs.Returnings.{returned_begins, returned_more}
use Rattle.nj_pieces.proofs.gather.take_back.Goals as goal

pub loop-from-init : goal.loop-from-init
loop-from-init c = returned_begins c.args.takers.now

pub loop-from-preserved : goal.loop-from-preserved
loop-from-preserved c =
    let d = c.index-takers-from.result in
    let t = get_or c.loop-from.takers c.loop-from.from c.index-takers-from.result in
    returned_more c.args.takers.now c.loop-from.takers
    (set c.loop-from.takers c.loop-from.from
    (record { number = t.number; owner = t.owner; accesses = c.replace-accesses.new.dest }))
    c.loop-from.from d c.replace-accesses.new.dest c.replace-accesses.result c.loop-from.invariant
    (grind arith) refl c.replace-accesses.ensures.value c.requires.many c.requires.returns
    c.give.new.takers c.give.ensures.many c.give.ensures.given
