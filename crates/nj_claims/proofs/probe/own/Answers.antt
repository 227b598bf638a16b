-- The owner's step keeps the rule.
use Rattle.std.proofs.Common.{ℕ, ◌*◌, ◌+◌, ◌<◌, min, subst, sym}
use Rattle.atomic_table.specs.Table.{Allows}
use Rattle.nj_claims.specs.Tables.{no_owner}
use Rattle.nj_claims.specs.Rule.{Holds}
use Rattle.nj_claims.specs.Steps.{Owns}
use Rattle.nj_claims.proofs.Claiming.{own_allowed, owner_word}
use Rattle.nj_claims.proofs.probe.own.Goals as goal

pub fetch_min-requires : goal.fetch_min-requires
fetch_min-requires g c = let q = c.requires in let n = q.number in (
  q.own,
  owner_word _ c.args.board.now.key _ c.args.slot q.board q.slot,
  subst (λ (k : ℕ). Allows (Holds c.args.board.now.key) c.args.board.now.table_id.slots c.args.seat.now.id
      c.args.seat.now.me (2 * c.args.slot + 1) (λ x. min x k)
      (Owns g.C.Asked.key g.C.Asked.number g.C.Asked.most c.args.seat.now.me)) n.0
      (own_allowed c.args.board.now.key g.C.Asked.key g.C.Asked.number g.C.Asked.most _ _ c.args.seat.now.me c.args.slot
      (subst (λ (k : ℕ). k < no_owner) (sym n.0) n.1) q.found q.living q.first),
)
