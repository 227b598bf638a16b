-- The first official code whose row has the mnemonic and the mode.
use Rattle.std.proofs.Common.{sym, ◌∙◌, arith}
use Rattle.nj_asm_lines.specs.Grammar.{is_code, opcode_of}
use Rattle.nj_asm_lines.proofs.TableLemmas.{first_code_found, first_code_next, first_code_none}
use Rattle.nj_asm_lines.proofs.table.opcode_of.Goals as goal

pub returns-then-is_code : goal.returns-then-is_code
unfolding opcode_of
returns-then-is_code c =
    sym (c.loop-code.invariant
    ∙ first_code_found (is_code c.args.word.now c.args.wanted) c.loop-code.code (omega arith)
    (sym c.is_code.ensures ∙ c.if-is_code.true))

pub loop-code-preserved : goal.loop-code-preserved
loop-code-preserved c =
    c.loop-code.invariant
    ∙ first_code_next (is_code c.args.word.now c.args.wanted) c.loop-code.code (omega arith)
    (sym c.is_code.ensures ∙ c.if-is_code.false)

pub returns : goal.returns
unfolding opcode_of
returns c =
    sym (c.loop-code.invariant
    ∙ first_code_none (is_code c.args.word.now c.args.wanted) c.loop-code.code (omega arith))
