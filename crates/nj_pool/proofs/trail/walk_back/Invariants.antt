-- A walk from the last step back.
use Rattle.nj_pool.proofs.Trails.{IsOnTheWay}
use Rattle.nj_pool.proofs.trail.walk_back.Given as goal

abbrev pub invariant-loop-left : goal.invariant-loop-left
invariant-loop-left l = IsOnTheWay l.roots l.steps l.fn.place l.left l.at l.back.items

abbrev pub decreases-loop-left : goal.decreases-loop-left
decreases-loop-left l = l.left
