use Rattle.std.proofs.Common.{◌≡◌, ◌++◌}
use Rattle.nj_workload.specs.Game.{zeros}
use Rattle.nj_workload.proofs.cartridge.push_zeros.Given as goal

abbrev pub invariant-loop-place : goal.invariant-loop-place
invariant-loop-place l = l.file.items ≡ l.fn.file.items ++ zeros l._place
