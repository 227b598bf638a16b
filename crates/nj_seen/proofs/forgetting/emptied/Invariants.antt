-- So many slots are empty.
use Rattle.nj_seen.proofs.Emptying.{AreEmpty}
use Rattle.nj_seen.proofs.forgetting.emptied.Given as goal

abbrev pub invariant-loop-slot : goal.invariant-loop-slot
invariant-loop-slot l = AreEmpty l.words l.slot l.rest.items
