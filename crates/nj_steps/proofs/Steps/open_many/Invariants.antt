-- After some turns there are that many counters, each at 0.
use Rattle.std.proofs.Common.{◌≡◌, replicate}
use Rattle.nj_steps.proofs.Steps.open_many.Given as goal

abbrev pub invariant-loop : goal.invariant-loop
invariant-loop g l = l.counters.items ≡ replicate l.counter 0
