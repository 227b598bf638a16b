use Rattle.std.proofs.Common.{sym, subst, refl, arith, get_or}
use Rattle.nj_pieces.specs.Seating.{MayCut}
use Rattle.nj_pieces.proofs.Steps.{cuts}
use Rattle.nj_pieces.proofs.Seatings.{cutting_more}
use Rattle.nj_pieces.proofs.deal.cut_from.Goals as goal

pub another-ticket-requires : goal.another-ticket-requires
another-ticket-requires c =
    let may : MayCut 1 (get_or c.loop-at.takers c.loop-at.at c.index-takers-at.result) =
    subst (MayCut 1) (sym (c.loop-at.invariant.untouched c.loop-at.at c.index-takers-at.result (omega arith)))
    (c.requires c.loop-at.at c.index-takers-at.result (grind arith)) in
    cuts _ _ may.port (let enough = may.seats in omega arith) may.none_ended may.none_taken

pub loop-at-preserved : goal.loop-at-preserved
loop-at-preserved c =
    cutting_more c.args.takers.now c.loop-at.takers c.loop-at.accesses.items c.push.new.self.items c.loop-at.at
    c.index-takers-at.result c.another-ticket.new.self
    (record { ticket = c.another-ticket.result; ended = mathlib.Core.Bool.false }) c.in_ok-push.ensures.items
    c.loop-at.invariant (grind arith)
    c.another-ticket.ensures.same.0 c.another-ticket.ensures.rule.0 c.another-ticket.ensures.same.2
    c.another-ticket.ensures.rule.1 refl
