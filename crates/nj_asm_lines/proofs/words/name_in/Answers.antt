-- A name is UTF-8.
use Rattle.std.proofs.Common.{sym, ◌∙◌}
use Rattle.nj_asm_lines.proofs.TextLemmas.{IsUtf8-from_name}
use Rattle.nj_asm_lines.proofs.words.name_in.Goals as goal

pub returns-in-Err : goal.returns-in-Err
returns-in-Err c = absurd
    (c.in-Err.ensures.cases.0 (IsUtf8-from_name c.args.text.now (sym c.is_name.ensures ∙ c.if-not-is_name.false)))
