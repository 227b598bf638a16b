-- After some turns the bytes are the beginning of the file.
use Rattle.std.proofs.Common.{◌+◌, ◌-◌, ◌≡◌, Some, vec_len}
use Rattle.nj_outside.specs.Told.{Files}
use Rattle.nj_outside.proofs.Beginnings.{IsBegun}
use Rattle.nj_outside.proofs.reading.read_all.Given as goal

abbrev pub invariant-loop-piece : goal.invariant-loop-piece
invariant-loop-piece g l = record {
  begun : (files : Files) → g.S.Shelf.content l.fn.shelf ≡ Some files → IsBegun (files l.name) l.bytes.items;
  content : g.S.Shelf.content l.shelf ≡ g.S.Shelf.content l.fn.shelf;
  counted : g.S.Shelf.read_faults l.shelf ≡ g.S.Shelf.read_faults l.fn.shelf;
  put_faults : g.S.Shelf.put_faults l.shelf ≡ g.S.Shelf.put_faults l.fn.shelf;
  failed_put : g.S.Shelf.failed_put l.shelf ≡ g.S.Shelf.failed_put l.fn.shelf;
}

abbrev pub decreases-loop-piece : goal.decreases-loop-piece
decreases-loop-piece g l = l.limit + 1 - vec_len l.bytes
