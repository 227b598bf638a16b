-- The exchange keeps the rule.
use Rattle.std.proofs.Common.{ℕ, eqb, ◌*◌, subst, ◌≡◌}
use prog.Atomic.{either}
use Rattle.atomic_table.specs.Table.{Allows}
use Rattle.nj_claims.specs.Rule.{Holds}
use Rattle.nj_claims.specs.Steps.{after_put}
use Rattle.nj_claims.proofs.Claiming.{put_on, key_word, walk_inside}
use Rattle.nj_claims.proofs.probe.put.Goals as goal

pub compare_exchange-requires : goal.compare_exchange-requires
compare_exchange-requires g c = let q = c.requires in let s = q.slot in (
  q.own,
  key_word _ c.args.board.now.key _ c.args.slot q.board
      (walk_inside g.C.Asked.slots g.C.Asked.key g.C.Asked.depth c.args.slot s.1 s.2),
  subst (λ (k : ℕ). Allows (Holds c.args.board.now.key) c.args.board.now.table_id.slots c.args.seat.now.id
      c.args.seat.now.me (2 * c.args.slot) (λ x. either (eqb x 0) k x)
      (λ x me'. me' ≡ (
        after_put g.C.Asked.slots g.C.Asked.key g.C.Asked.depth x c.args.seat.now.me.0,
        c.args.seat.now.me.1,
      ))) q.key
      (put_on c.args.board.now.key g.C.Asked.slots g.C.Asked.key g.C.Asked.depth _ _ c.args.seat.now.me c.args.slot
      q.board.as_opened s.0 s.1 s.2 q.flight q.living),
)
