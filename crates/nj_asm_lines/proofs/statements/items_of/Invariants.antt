-- The items so far, and those of the text that is left.
use Rattle.std.proofs.Common.{◌≡◌, length}
use Rattle.nj_asm_lines.specs.Words.{length_before}
use Rattle.nj_asm_lines.specs.Grammar.{items_of}
use Rattle.nj_asm_lines.proofs.StatementLemmas.{with_front}
use Rattle.nj_asm_lines.proofs.statements.items_of.Given as goal

abbrev pub invariant-loop-end : goal.invariant-loop-end
invariant-loop-end l =
    (l.end ≡ length_before 44 l.rest) × (items_of l.wide l.text ≡ with_front l.cells (items_of l.wide l.rest))

abbrev pub decreases-loop-end : goal.decreases-loop-end
decreases-loop-end l = length l.rest
