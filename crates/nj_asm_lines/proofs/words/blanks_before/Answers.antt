-- The place that the search finds, or the end.
use Rattle.std.proofs.Common.{not, arith}
use Rattle.nj_asm_lines.specs.Words.{is_blank}
use Rattle.nj_asm_lines.proofs.TextLemmas.{first_or_end, first_within}
use Rattle.nj_asm_lines.proofs.words.blanks_before.Goals as goal

pub returns-clause-value : goal.returns-clause-value
returns-clause-value c = grind (arith, first_or_end (λ b. not (is_blank b)) c.args.text.now)

pub returns-clause-within : goal.returns-clause-within
returns-clause-within c = grind (
  arith,
  first_or_end (λ b. not (is_blank b)) c.args.text.now,
  first_within (λ b. not (is_blank b)) c.args.text.now,
)
