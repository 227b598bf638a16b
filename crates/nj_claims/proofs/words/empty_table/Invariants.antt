-- So many slots are empty.
use Rattle.nj_claims.proofs.Testing.{AreEmpty}
use Rattle.nj_claims.proofs.words.empty_table.Given as goal

abbrev pub invariant-loop-slot : goal.invariant-loop-slot
invariant-loop-slot l = AreEmpty l.slots l.slot l.words.items
