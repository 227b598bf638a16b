use Rattle.std.proofs.Common.{refl, ◌∙◌, rules}
use Rattle.nj_pieces.proofs.Seatings.{opened_pushed}
use Rattle.nj_pieces.proofs.deal.opened.Goals as goal

pub loop-number-preserved : goal.loop-number-preserved
loop-number-preserved c =
    let f = c.in_ok-filled.ensures in
    let m = c.in_ok-owner.ensures in
    let s = c.in_ok-stealer.ensures in
    opened_pushed c.args.count c.args.workers c.loop-number.takers.items c.push-in-loop-number.new.self.items
    c.loop-number.thieves.items c.push.new.self.items c.loop-number.number
    (record { number = c.loop-number.number; owner = c.in_ok-owner.owner; accesses = c.new.result })
    c.in_ok-stealer.field-0
    c.in_ok-push-2.ensures.items c.in_ok-push.ensures.items c.loop-number.invariant
    (record {
      numbered = refl;
      fifo = m.same.1 ∙ f.fifo;
      port = m.same.2 ∙ f.port;
      view_is = search rules;
      deque = s.0;
      thief_fifo = s.1 ∙ m.same.1 ∙ f.fifo;
    })
