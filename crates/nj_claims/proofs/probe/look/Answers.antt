-- The load keeps the rule.
use Rattle.nj_claims.proofs.Claiming.{look_on, key_word, walk_inside}
use Rattle.nj_claims.proofs.probe.look.Goals as goal

pub load-requires : goal.load-requires
load-requires g c = let q = c.requires in let s = q.slot in (
  q.own,
  key_word _ c.args.board.now.key _ c.args.slot q.board
      (walk_inside g.C.Asked.slots g.C.Asked.key g.C.Asked.depth c.args.slot s.1 s.2),
  look_on c.args.board.now.key g.C.Asked.slots g.C.Asked.key g.C.Asked.depth _ _ c.args.seat.now.me c.args.slot
      q.board.as_opened s.0 s.1 s.2 q.flight q.living,
)
