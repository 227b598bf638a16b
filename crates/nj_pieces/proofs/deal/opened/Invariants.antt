use Rattle.nj_pieces.proofs.Seatings.{AreOpened}
use Rattle.nj_pieces.proofs.deal.opened.Given as goal

abbrev pub invariant-loop-number : goal.invariant-loop-number
invariant-loop-number l = AreOpened l.fn.count l.fn.workers l.takers.items l.thieves.items l.number
