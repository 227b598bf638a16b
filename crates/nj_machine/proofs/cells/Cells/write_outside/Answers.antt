use Rattle.std.proofs.Common.{sym}
use Rattle.nj_machine.proofs.Writes.{pattern_place}
use Rattle.nj_machine.proofs.cells.Cells.write_outside.Goals as goal

pub put_pattern-requires : goal.put_pattern-requires
put_pattern-requires g c = pattern_place _ _ _ _ (sym c.in-Some.ensures.left)
