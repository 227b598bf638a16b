use Rattle.std.proofs.Common.{ap, arith, length, rules, sym, Some, ◌++◌, ◌∙◌}
use Rattle.std.specs.Prelude.{option_and_then}
use Rattle.clap.specs.Walk.{texts}
use Rattle.nj_words.specs.Words.{is_distinct}
use Rattle.nj_words.specs.Commands.{name_at, search_row}
use Rattle.nj_words.specs.Parser.{form_of, taken_of, words_of}
use Rattle.nj_words.specs.declared.Command.TheVariants.{Search}
use Rattle.nj_words.proofs.Making.{all_made, no_command, none_made, not_usage}
use Rattle.nj_words.proofs.commands.search.Goals as goal

pub returns-in_err-given-clause-usage : goal.returns-in_err-given-clause-usage
returns-in_err-given-clause-usage c = λ usage.
    none_made search_row c.as_slice.result.now c.as_slice-2.result.now (words_of c.args.words.now)
    (λ i. form_of (c.as_slice.ensures i) (c.as_slice-2.ensures i))
    (c.in_err-given.ensures.usage (search rules))

pub returns-in_err-options-clause-usage : goal.returns-in_err-options-clause-usage
returns-in_err-options-clause-usage c = λ usage.
    all_made search_row c.as_slice.result.now c.as_slice-2.result.now (words_of c.args.words.now)
    (taken_of c.in_ok-given.given)
    (λ i. form_of (c.as_slice.ensures i) (c.as_slice-2.ensures i)) c.in_ok-given.ensures.given
    ∙ ap (option_and_then (λ options. Some (Search (name_at (taken_of c.in_ok-given.given) 0)
    (name_at (taken_of c.in_ok-given.given) 1) (name_at (taken_of c.in_ok-given.given) 2) options)))
    (c.in_err-options.ensures.usage (search rules))

pub returns-clause-read : goal.returns-clause-read
returns-clause-read c =
    all_made search_row c.as_slice.result.now c.as_slice-2.result.now (words_of c.args.words.now)
    (taken_of c.in_ok-given.given)
    (λ i. form_of (c.as_slice.ensures i) (c.as_slice-2.ensures i)) c.in_ok-given.ensures.given
    ∙ (λ i. option_and_then (λ options. Some (Search (sym c.in_ok-cart.ensures.0 i) (sym c.in_ok-cart.ensures.1 i)
    (sym c.in_ok-name.ensures i) options)) (c.in_ok-options.ensures.read i))

pub take-requires-clause-distinct : goal.take-requires-clause-distinct
take-requires-clause-distinct c = λ i. is_distinct (texts (c.as_slice.ensures i) ++ texts (c.as_slice-2.ensures i))

pub returns-in_err-cart-clause-usage : goal.returns-in_err-cart-clause-usage
returns-in_err-cart-clause-usage c =
    not_usage c.from_residual-in_err-cart.result c.from_residual-in_err-cart.ensures.1

pub returns-in_err-cart-clause-read : goal.returns-in_err-cart-clause-read
returns-in_err-cart-clause-read c =
    no_command c.from_residual-in_err-cart.result _ c.from_residual-in_err-cart.ensures.1

pub returns-in_err-cart-clause-in_range : goal.returns-in_err-cart-clause-in_range
returns-in_err-cart-clause-in_range c =
    no_command c.from_residual-in_err-cart.result _ c.from_residual-in_err-cart.ensures.1

pub returns-in_err-name-clause-usage : goal.returns-in_err-name-clause-usage
returns-in_err-name-clause-usage c =
    not_usage c.from_residual-in_err-name.result c.from_residual-in_err-name.ensures.1

pub returns-in_err-name-clause-read : goal.returns-in_err-name-clause-read
returns-in_err-name-clause-read c =
    no_command c.from_residual-in_err-name.result _ c.from_residual-in_err-name.ensures.1

pub returns-in_err-name-clause-in_range : goal.returns-in_err-name-clause-in_range
returns-in_err-name-clause-in_range c =
    no_command c.from_residual-in_err-name.result _ c.from_residual-in_err-name.ensures.1

pub take-requires-clause-few : goal.take-requires-clause-few
take-requires-clause-few c = omega (arith, ap length c.as_slice.ensures)

pub pair-requires-clause-first_there : goal.pair-requires-clause-first_there
pair-requires-clause-first_there c = omega (arith, c.in_ok-given.ensures.names_count, ap length c.as_slice.ensures)

pub pair-requires-clause-second_there : goal.pair-requires-clause-second_there
pair-requires-clause-second_there c = omega (arith, c.in_ok-given.ensures.names_count, ap length c.as_slice.ensures)

pub name-requires : goal.name-requires
name-requires c = omega (arith, c.in_ok-given.ensures.names_count, ap length c.as_slice.ensures)
