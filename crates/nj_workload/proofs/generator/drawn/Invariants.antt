use Rattle.std.proofs.Common.{◌≡◌}
use Rattle.nj_workload.specs.Generator.{state_after, bytes_from}
use Rattle.nj_workload.proofs.generator.drawn.Given as goal

abbrev pub invariant-loop-place : goal.invariant-loop-place
invariant-loop-place l =
    (l.state ≡ state_after l.number l._place) × (l.bytes.items ≡ bytes_from l.number 0 l._place)
