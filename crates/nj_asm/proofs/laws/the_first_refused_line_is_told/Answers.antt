-- The first refused line is told.
use Rattle.nj_asm_lines.specs.Grammar.{read_lines}
use Rattle.nj_asm.specs.Assembly.{assembly_of}
use Rattle.nj_asm.proofs.RefusalLemmas.{told, only}
use Rattle.nj_asm.proofs.laws.the_first_refused_line_is_told.Goals as goal

pub returns-clause-told : goal.returns-clause-told
unfolding assembly_of
returns-clause-told c = λ source n fault first. told (read_lines source) n fault first

pub returns-clause-only : goal.returns-clause-only
unfolding assembly_of
returns-clause-only c = λ source refusal h. only (read_lines source) refusal h
