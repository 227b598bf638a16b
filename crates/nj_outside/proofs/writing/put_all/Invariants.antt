-- After some turns the file is the first `taken` bytes.
use Rattle.std.proofs.Common.{length, ◌-◌, ◌≡◌, ◌≤◌, take}
use Rattle.nj_outside.specs.Told.{put_file}
use Rattle.nj_outside.proofs.writing.put_all.Given as goal

abbrev pub invariant-loop-taken : goal.invariant-loop-taken
invariant-loop-taken g l = record {
  within : l.taken ≤ length l.bytes;
  content : g.S.Shelf.content l.shelf ≡ put_file (g.S.Shelf.content l.fn.shelf) l.name (take l.taken l.bytes);
  counted : g.S.Shelf.put_faults l.shelf ≡ g.S.Shelf.put_faults l.fn.shelf;
  failed_put : g.S.Shelf.failed_put l.shelf ≡ g.S.Shelf.failed_put l.fn.shelf;
  read_faults : g.S.Shelf.read_faults l.shelf ≡ g.S.Shelf.read_faults l.fn.shelf;
  failed_read : g.S.Shelf.failed_read l.shelf ≡ g.S.Shelf.failed_read l.fn.shelf;
}

abbrev pub decreases-loop-taken : goal.decreases-loop-taken
decreases-loop-taken g l = length l.bytes - l.taken
