-- The table is one that was opened.
use Rattle.std.proofs.Common.{arith}
use Rattle.nj_claims.proofs.Passing.{board_of}
use Rattle.nj_claims.proofs.shared.ClaimTable.claim.Goals as goal

pub settle-requires-clause-board : goal.settle-requires-clause-board
settle-requires-clause-board c = let i = c.self.invariant in let o = c.self.inside.opening in
    board_of o c.self.inside.table.shared.key c.self.inside.table.shared.table_id i.0 i.1 i.2 i.3 i.4 (omega arith)
