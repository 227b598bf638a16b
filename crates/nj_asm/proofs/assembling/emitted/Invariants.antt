-- No line so far is refused, and the bytes are theirs.
use Rattle.std.proofs.Common.{◌≡◌, ◌≤◌, ◌++◌, false, drop}
use Rattle.nj_asm.specs.Assembly.{homes, first_refused, bytes_from}
use Rattle.nj_asm.proofs.assembling.emitted.Given as goal

abbrev pub invariant-loop-index : goal.invariant-loop-index
invariant-loop-index l =
    (l.at ≤ 65536)
    × (first_refused (homes l.labels) false l.origin 0 l.lines
    ≡ first_refused (homes l.labels) l.begun l.at l.index (drop l.index l.lines))
    × (bytes_from (homes l.labels) l.origin l.lines
    ≡ l.bytes ++ bytes_from (homes l.labels) l.at (drop l.index l.lines))
