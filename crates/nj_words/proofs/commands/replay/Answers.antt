use Rattle.std.proofs.Common.{ap, arith, length, rules, sym, Some, ◌++◌, ◌∙◌}
use Rattle.clap.specs.Walk.{texts}
use Rattle.nj_words.specs.Words.{is_distinct}
use Rattle.nj_words.specs.Commands.{IsInRange, replay_row}
use Rattle.nj_words.specs.Parser.{form_of, taken_of, words_of}
use Rattle.nj_words.specs.declared.Command.TheVariants.{Replay}
use Rattle.nj_words.proofs.Making.{all_made, no_command, none_made, not_usage}
use Rattle.nj_words.proofs.commands.replay.Goals as goal

pub returns-in_err-given-clause-usage : goal.returns-in_err-given-clause-usage
returns-in_err-given-clause-usage c = λ usage.
    none_made replay_row c.as_slice.result.now c.as_slice-2.result.now (words_of c.args.words.now)
    (λ i. form_of (c.as_slice.ensures i) (c.as_slice-2.ensures i))
    (c.in_err-given.ensures.usage (search rules))

pub returns-clause-read : goal.returns-clause-read
returns-clause-read c =
    all_made replay_row c.as_slice.result.now c.as_slice-2.result.now (words_of c.args.words.now)
    (taken_of c.in_ok-given.given)
    (λ i. form_of (c.as_slice.ensures i) (c.as_slice-2.ensures i)) c.in_ok-given.ensures.given
    ∙ (λ i. Some (Replay (sym c.in_ok-cart.ensures.0 i) (sym c.in_ok-cart.ensures.1 i) (sym c.in_ok-start.ensures.0 i)
    (sym c.in_ok-start.ensures.1 i)))

pub take-requires-clause-distinct : goal.take-requires-clause-distinct
take-requires-clause-distinct c = λ i. is_distinct (texts (c.as_slice.ensures i) ++ texts (c.as_slice-2.ensures i))

pub returns-in_err-cart-clause-usage : goal.returns-in_err-cart-clause-usage
returns-in_err-cart-clause-usage c =
    not_usage c.from_residual-in_err-cart.result c.from_residual-in_err-cart.ensures.1

pub returns-in_err-cart-clause-read : goal.returns-in_err-cart-clause-read
returns-in_err-cart-clause-read c =
    no_command c.from_residual-in_err-cart.result _ c.from_residual-in_err-cart.ensures.1

pub returns-in_err-cart-clause-in_range : goal.returns-in_err-cart-clause-in_range
returns-in_err-cart-clause-in_range c =
    no_command c.from_residual-in_err-cart.result _ c.from_residual-in_err-cart.ensures.1

pub returns-in_err-start-clause-usage : goal.returns-in_err-start-clause-usage
returns-in_err-start-clause-usage c =
    not_usage c.from_residual-in_err-start.result c.from_residual-in_err-start.ensures.1

pub returns-in_err-start-clause-read : goal.returns-in_err-start-clause-read
returns-in_err-start-clause-read c =
    no_command c.from_residual-in_err-start.result _ c.from_residual-in_err-start.ensures.1

pub returns-in_err-start-clause-in_range : goal.returns-in_err-start-clause-in_range
returns-in_err-start-clause-in_range c =
    no_command c.from_residual-in_err-start.result _ c.from_residual-in_err-start.ensures.1

pub returns-clause-in_range : goal.returns-clause-in_range
unfolding IsInRange
returns-clause-in_range c = tt

pub take-requires-clause-few : goal.take-requires-clause-few
take-requires-clause-few c = omega (arith, ap length c.as_slice.ensures)

pub pair-requires-clause-first_there : goal.pair-requires-clause-first_there
pair-requires-clause-first_there c = omega (arith, c.in_ok-given.ensures.names_count, ap length c.as_slice.ensures)

pub pair-requires-clause-second_there : goal.pair-requires-clause-second_there
pair-requires-clause-second_there c = omega (arith, c.in_ok-given.ensures.names_count, ap length c.as_slice.ensures)

pub pair-requires-2-clause-first_there : goal.pair-requires-2-clause-first_there
pair-requires-2-clause-first_there c = omega (arith, c.in_ok-given.ensures.names_count, ap length c.as_slice.ensures)

pub pair-requires-2-clause-second_there : goal.pair-requires-2-clause-second_there
pair-requires-2-clause-second_there c = omega (arith, c.in_ok-given.ensures.names_count, ap length c.as_slice.ensures)
