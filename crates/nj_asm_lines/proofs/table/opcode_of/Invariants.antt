-- No code before this one passes.
use Rattle.std.proofs.Common.{◌≡◌, ◌-◌}
use Rattle.nj_asm_lines.specs.Grammar.{first_code, is_code}
use Rattle.nj_asm_lines.proofs.table.opcode_of.Given as goal

abbrev pub invariant-loop-code : goal.invariant-loop-code
invariant-loop-code l =
    first_code (is_code l.word l.wanted) 0 256 ≡ first_code (is_code l.word l.wanted) l.code (256 - l.code)
