-- The size of the cells so far.
use Rattle.std.proofs.Common.{◌≡◌, ◌≤◌, ◌*◌, take}
use Rattle.std.specs.Prelude.{sum_by}
use Rattle.nj_asm.specs.Assembly.{cell_size}
use Rattle.nj_asm.proofs.labels.cells_size.Given as goal

abbrev pub invariant-loop-cell : goal.invariant-loop-cell
invariant-loop-cell l = (l.size ≡ sum_by cell_size (take l.cell-index l.cells)) × (l.size ≤ 2 * l.cell-index)
