-- The bytes of the cells so far.
use Rattle.std.proofs.Common.{◌≡◌, ◌++◌, take}
use Rattle.std.specs.List.{flat_map}
use Rattle.nj_asm.specs.Assembly.{homes, cell_bytes}
use Rattle.nj_asm.proofs.emission.push_cells.Given as goal

abbrev pub invariant-loop-cell : goal.invariant-loop-cell
invariant-loop-cell l =
    l.bytes ≡ l.initial.bytes ++ flat_map (cell_bytes (homes l.labels) l.at) (take l.cell-index l.cells)
