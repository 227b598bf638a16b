-- No pair before this one has the name.
use Rattle.nj_memory.specs.Memory.{NoneBefore}
use Rattle.nj_memory.proofs.shelf.place_of.Given as goal

abbrev pub invariant-loop-place : goal.invariant-loop-place
invariant-loop-place l = NoneBefore l.files l.name l.place
