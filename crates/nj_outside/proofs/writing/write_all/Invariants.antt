-- After some turns the first `taken` bytes were appended.
use Rattle.std.proofs.Common.{length, ◌-◌, ◌≡◌, ◌≤◌, take, drop, Bool}
use Rattle.nj_outside.specs.Handed.{HandsOver}
use Rattle.nj_outside.specs.Told.{appended}
use Rattle.nj_outside.proofs.writing.write_all.Given as goal

abbrev pub invariant-loop-taken : goal.invariant-loop-taken
invariant-loop-taken g l = record {
  within : l.taken ≤ length l.bytes;
  written : g.O.Sink.written l.sink ≡ appended (g.O.Sink.written l.fn.sink) (take l.taken l.bytes);
  counted : g.O.Sink.faults l.sink ≡ g.O.Sink.faults l.fn.sink;
  handed : (whole : Bool) (last : _) → HandsOver g.O.Sink.wrote l.sink (drop l.taken l.bytes) whole last
      → HandsOver g.O.Sink.wrote l.fn.sink l.bytes whole last;
}

abbrev pub decreases-loop-taken : goal.decreases-loop-taken
decreases-loop-taken g l = length l.bytes - l.taken
