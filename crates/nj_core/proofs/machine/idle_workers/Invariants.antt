-- So many workers so far.
use Rattle.std.proofs.Common.{◌≡◌, ℕ, map, []}
use Rattle.std.specs.List.{range_with_len}
use Rattle.nj_core.specs.Machine.{beginning}
use Rattle.nj_core.proofs.machine.idle_workers.Given as goal

abbrev pub invariant-loop : goal.invariant-loop
invariant-loop l = l.idle.items ≡ map (λ (w : ℕ). beginning []) (range_with_len 0 l.counter)
