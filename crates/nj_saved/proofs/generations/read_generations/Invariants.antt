-- The generations below g were read, and nothing of them is refused.
use Rattle.nj_saved.proofs.Loops.{AreGenerationsBelow}
use Rattle.nj_saved.proofs.generations.read_generations.Given as goal

abbrev pub invariant-loop-g : goal.invariant-loop-g
invariant-loop-g l = AreGenerationsBelow l.file l.g l.older l.at
