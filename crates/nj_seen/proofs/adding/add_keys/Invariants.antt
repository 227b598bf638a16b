-- The keys so far are added.
use Rattle.nj_seen.proofs.Added.{AreAdded}
use Rattle.nj_seen.proofs.adding.add_keys.Given as goal

abbrev pub invariant-loop-key : goal.invariant-loop-key
invariant-loop-key l = AreAdded l.fn.words l.keys l.step l.key-index l.words
