-- So many slots are passed; a step is about the key and the slots passed.
use Rattle.std.proofs.Common.{◌≡◌}
use Rattle.nj_claims.specs.Steps.{passed}
use Rattle.nj_claims.proofs.probe.settle.Given as goal

abbrev pub ghosts-probe : goal.ghosts-probe
ghosts-probe a = record { slots = a.slots; key = a.key; number = 0; depth = a.depth; most = 0 }

abbrev pub invariant-loop-depth : goal.invariant-loop-depth
invariant-loop-depth l = record {
  table : l.seat.table_id ≡ l.initial.seat.table_id;
  id : l.seat.id ≡ l.initial.seat.id;
  view : l.seat.me ≡ (passed l.slots l.key l.depth l.initial.seat.me.0, l.initial.seat.me.1);
}
