-- So many slots are published.
use Rattle.nj_seen.proofs.Published.{IsPublished}
use Rattle.nj_seen.proofs.publishing.publish.Given as goal

abbrev pub invariant-loop-slot : goal.invariant-loop-slot
invariant-loop-slot l = IsPublished l.fn.words l.step l.slot l.words
