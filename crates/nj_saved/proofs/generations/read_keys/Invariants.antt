-- The keys below k were read, and nothing of them is refused.
use Rattle.nj_saved.proofs.Loops.{AreKeysTo}
use Rattle.nj_saved.proofs.generations.read_keys.Given as goal

abbrev pub invariant-loop-k : goal.invariant-loop-k
invariant-loop-k l = AreKeysTo l.file l.older l.at l.k l.keys.items l.last
