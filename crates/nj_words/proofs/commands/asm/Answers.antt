use Rattle.std.proofs.Common.{Some, rules, sym, ◌++◌, ◌∙◌}
use Rattle.clap.specs.Walk.{texts}
use Rattle.nj_words.specs.Words.{is_distinct}
use Rattle.nj_words.specs.Commands.{asm_row}
use Rattle.nj_words.specs.Parser.{form_of, taken_of, words_of}
use Rattle.nj_words.specs.declared.Command.TheVariants.{Asm}
use Rattle.nj_words.proofs.Making.{all_made, none_made, not_usage}
use Rattle.nj_words.proofs.commands.asm.Goals as goal

pub returns-in_err-given-clause-usage : goal.returns-in_err-given-clause-usage
returns-in_err-given-clause-usage c = λ usage.
    none_made asm_row c.as_slice.result.now c.as_slice-2.result.now (words_of c.args.words.now)
    (λ i. form_of (c.as_slice.ensures i) (c.as_slice-2.ensures i))
    (c.in_err-given.ensures.usage (search rules))

pub returns-clause-read : goal.returns-clause-read
returns-clause-read c =
    all_made asm_row c.as_slice.result.now c.as_slice-2.result.now (words_of c.args.words.now)
    (taken_of c.in_ok-given.given)
    (λ i. form_of (c.as_slice.ensures i) (c.as_slice-2.ensures i)) c.in_ok-given.ensures.given
    ∙ (λ i. Some (Asm (sym c.in_ok-name.ensures i)))

pub take-requires-clause-distinct : goal.take-requires-clause-distinct
take-requires-clause-distinct c = λ i. is_distinct (texts (c.as_slice.ensures i) ++ texts (c.as_slice-2.ensures i))

pub returns-in_err-name-clause-usage : goal.returns-in_err-name-clause-usage
returns-in_err-name-clause-usage c =
    not_usage c.from_residual-in_err-name.result c.from_residual-in_err-name.ensures.1
