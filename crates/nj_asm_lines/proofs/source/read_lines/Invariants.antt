-- The lines so far, and those of the bytes that are left.
use Rattle.std.proofs.Common.{◌≡◌, ◌++◌, length, map}
use Rattle.nj_lines.specs.Lines.{lines}
use Rattle.nj_asm_lines.specs.Grammar.{line_of}
use Rattle.nj_asm_lines.proofs.source.read_lines.Given as goal

abbrev pub invariant-loop-rest : goal.invariant-loop-rest
invariant-loop-rest l = map line_of (lines l.source) ≡ l.all ++ map line_of (lines l.rest)

abbrev pub decreases-loop-rest : goal.decreases-loop-rest
decreases-loop-rest l = length l.rest
