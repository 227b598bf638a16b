use Rattle.std.proofs.Common.{arith}
use Rattle.nj_pieces.proofs.Seatings.{seating_more}
use Rattle.nj_pieces.proofs.deal.seat.Goals as goal

pub loop-at-preserved : goal.loop-at-preserved
loop-at-preserved c =
    let e = c.in_ok-accesses.ensures in
    seating_more c.args.takers.now c.loop-at.takers c.cut_from.new.takers c.loop-at.at c.index-takers-at.result
    c.in_ok-accesses.accesses c.loop-at.invariant (grind arith)
    e.many e.cut e.kept e.accesses e.seats
