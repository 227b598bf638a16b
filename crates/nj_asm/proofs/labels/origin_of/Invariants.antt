-- No line before this one has a statement.
use Rattle.std.proofs.Common.{◌≡◌, drop}
use Rattle.nj_asm.specs.Assembly.{origin_of}
use Rattle.nj_asm.proofs.labels.origin_of.Given as goal

abbrev pub invariant-loop-line : goal.invariant-loop-line
invariant-loop-line l = origin_of l.lines ≡ origin_of (drop l.line-index l.lines)
