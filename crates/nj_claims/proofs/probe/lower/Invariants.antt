-- The step is about the key that was found.
use Rattle.nj_claims.specs.Boards.{found_key, first_owner}
use Rattle.nj_claims.proofs.probe.lower.Given as goal

abbrev pub ghosts-own : goal.ghosts-own
ghosts-own a = record {
  slots = a.board.now.key.slots;
  key = found_key a.seat.now.me.0.flight;
  number = a.number;
  depth = 0;
  most = first_owner a.board.now.key.words.items (found_key a.seat.now.me.0.flight);
}
