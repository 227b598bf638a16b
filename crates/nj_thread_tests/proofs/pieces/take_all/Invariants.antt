use Rattle.std.proofs.Common.{◌≡◌}
use Rattle.nj_pieces.specs.Takers.{number_of, IsTakerOf}
use Rattle.nj_thread_tests.proofs.pieces.take_all.Given as goal

abbrev pub invariant-loop : goal.invariant-loop
invariant-loop g l = IsTakerOf l.pieces l.taker × (number_of l.taker ≡ number_of l.initial.taker)
