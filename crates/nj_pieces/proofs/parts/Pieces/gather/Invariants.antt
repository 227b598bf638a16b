use Rattle.nj_pieces.proofs.Gatherings.{IsGathering}
use Rattle.nj_pieces.proofs.parts.Pieces.gather.Given as goal

abbrev pub invariant-loop-taker : goal.invariant-loop-taker
invariant-loop-taker l = IsGathering l.fn.self.count l.fn.takers.items l.initial.takers.items l.takers.items l.left

abbrev pub decreases-loop-taker : goal.decreases-loop-taker
decreases-loop-taker l = goal.left-loop-taker l
