use Rattle.std.specs.Prelude.{◌+◌, ◌*◌, length}
use Rattle.nj_threads.proofs.apart.+calls.Given as goal

abbrev pub decreases-each_from : goal.decreases-each_from
decreases-each_from g l = 4 * length l.all.now

abbrev pub decreases-first_beside_others : goal.decreases-first_beside_others
decreases-first_beside_others g l = 4 * length l.others.now + 2

abbrev pub decreases-first_beside_others-here : goal.decreases-first_beside_others-here
decreases-first_beside_others-here g l = 4 * length l.others.now + 1
