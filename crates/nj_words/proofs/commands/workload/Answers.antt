use Rattle.std.proofs.Common.{ap, rules, sym, ◌++◌, ◌∙◌}
use Rattle.std.specs.Prelude.{option_map}
use Rattle.clap.specs.Walk.{texts}
use Rattle.nj_words.specs.Words.{is_distinct}
use Rattle.nj_words.specs.Commands.{workload_row}
use Rattle.nj_words.specs.Parser.{form_of, taken_of, words_of}
use Rattle.nj_words.specs.declared.Command.TheVariants.{Workload}
use Rattle.nj_words.proofs.Making.{all_made, none_made}
use Rattle.nj_words.proofs.commands.workload.Goals as goal

pub returns-in_err-given-clause-usage : goal.returns-in_err-given-clause-usage
returns-in_err-given-clause-usage c = λ usage.
    none_made workload_row c.as_slice.result.now c.as_slice-2.result.now (words_of c.args.words.now)
    (λ i. form_of (c.as_slice.ensures i) (c.as_slice-2.ensures i))
    (c.in_err-given.ensures.usage (search rules))

pub returns-in-Some-clause-read : goal.returns-in-Some-clause-read
returns-in-Some-clause-read c =
    all_made workload_row c.as_slice.result.now c.as_slice-2.result.now (words_of c.args.words.now)
    (taken_of c.in_ok-given.given)
    (λ i. form_of (c.as_slice.ensures i) (c.as_slice-2.ensures i)) c.in_ok-given.ensures.given
    ∙ ap (option_map Workload) (sym c.decimal.ensures ∙ c.in-Some.is)

pub returns-clause-usage : goal.returns-clause-usage
returns-clause-usage c = λ _.
    all_made workload_row c.as_slice.result.now c.as_slice-2.result.now (words_of c.args.words.now)
    (taken_of c.in_ok-given.given)
    (λ i. form_of (c.as_slice.ensures i) (c.as_slice-2.ensures i)) c.in_ok-given.ensures.given
    ∙ ap (option_map Workload) (sym c.decimal.ensures ∙ c.in-None.is)

pub take-requires-clause-distinct : goal.take-requires-clause-distinct
take-requires-clause-distinct c = λ i. is_distinct (texts (c.as_slice.ensures i) ++ texts (c.as_slice-2.ensures i))
