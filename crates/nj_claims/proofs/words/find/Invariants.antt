-- So many slots hold other keys.
use Rattle.nj_claims.specs.Places.{ArePassed}
use Rattle.nj_claims.proofs.words.find.Given as goal

abbrev pub invariant-loop-distance : goal.invariant-loop-distance
invariant-loop-distance l = ArePassed l.slots l.words l.key l.distance
