-- What the opening table gives.
use Rattle.nj_claims.specs.Boards.{found_key}
use Rattle.nj_claims.proofs.Mapping.{has_first}
use Rattle.nj_claims.proofs.probe.lower.Goals as goal

pub own-requires-clause-first : goal.own-requires-clause-first
own-requires-clause-first c =
    has_first c.args.board.now.key (found_key c.args.seat.now.me.0.flight) c.requires.board.opened
